-- What was made of the coarse tiles of the first places.
use Rattle.std.proofs.Common.{◌≡◌, inl, inr, ℕ, ◌+◌, ◌<◌, ◌≤◌, Bool, true, IsTrue, List, [], ◌∷◌, ◌++◌, length, sym, ap, ◌∙◌, subst, arith, length-append}
use Rattle.std.specs.Prelude.{All}
use Rattle.std.specs.List.{AllZip}
use Rattle.std.proofs.lemmas.List.{length-map}
use Rattle.std.proofs.lemmas.List.Elements.{All-nil, All-append, All-push}
use Rattle.lerc_header.specs.declared.header.Version.{Version}
use Rattle.lerc_encode.specs.Encoded.{AreEncodedOnce, BandsNeedV4}
use Rattle.bundle_store.specs.declared.tile_rec.TileRec.{TileRec}
use Rattle.bundle_store.specs.Build.{EachFits}
use Rattle.bundle_store.specs.Tiles.{tiles}
use Rattle.tile_stream.specs.declared.tile.Tile.{Tile}
use Rattle.tile_updates.specs.Adding.{MayBeAdded}
use Rattle.tile_updates.specs.Updates.{AreEncoded, tile_bytes, update_of, updates_of}
use Rattle.tile_updates.proofs.Passing.{none_pass}
use Rattle.tile_updates.proofs.SoFar.{all_fit_of, pass_join, updates_join}
use Rattle.overview_updates.specs.Overview.{IsCoarse, coarse_slot, first_places, has_quarter, place_of}
use Rattle.overview_updates.specs.Refusals.{PlaceStops}
use Rattle.overview_updates.specs.Updates.{IsEncodedOverview, IsOverviewUpdates}
use Rattle.overview_updates.specs.declared.halves.Half.TheVariants.{Nothing, Coarse, Refused as HalfRefused}
use Rattle.overview_updates.specs.declared.places.Next.{Next}
use Rattle.overview_updates.specs.declared.places.Next.TheVariants.{More, Refused}
use Rattle.overview_updates.specs.declared.places.Waiting.{Waiting}
use Rattle.overview_updates.specs.declared.stop.OverviewStop.{OverviewStop}
use Rattle.overview_updates.specs.declared.updates.SoFar.{SoFar}
use Rattle.overview_updates.specs.inside.Fours.{IsHalfAt}
use Rattle.overview_updates.specs.inside.SoFar.{AreBetween, AreWaiting, EndsSo, IsFilled, IsSoFar, TakesPlace}
use Rattle.overview_updates.proofs.CoarsePlaces.{more_between, no_places, none_between}
use Rattle.overview_updates.proofs.Zips.{zip_join}

-- ---- at the start

pub so_far_none : (told : Bool) (bundle : List ℕ) (quarter : ℕ) (v : Version) (step : ℕ) (done : SoFar) → done.list ≡ [] → done.place ≡ 0 → IsSoFar told bundle quarter v step done
so_far_none told bundle quarter v step done empty place = record {
  halves = [];
  coarse = λ tells. subst (λ (ps : List (ℕ × ℕ)). AllZip (IsCoarse bundle quarter) ps []) (sym (ap (first_places (tiles bundle)) place ∙ no_places (tiles bundle))) tt;
  pass = none_pass v step;
  encoded = All-nil _;
  list_is = empty;
}

pub counted : (told : Bool) (bundle : List ℕ) (quarter : ℕ) (v : Version) (step : ℕ) (done : SoFar) (s : IsSoFar told bundle quarter v step done) → length s.halves ≡ length done.list
counted told bundle quarter v step done s = sym (ap length s.list_is ∙ length-map s.halves (update_of v step))

-- ---- tiles that wait

pub none_wait : (told : Bool) (bundle : List ℕ) (quarter : ℕ) (v : Version) (from : ℕ) (w : Waiting) → w.batch ≡ [] → w.place ≡ from → from ≤ 4096 → AreWaiting told bundle quarter v from w
none_wait told bundle quarter v from w empty is low =
    let none : length w.batch ≡ 0 = ap length empty in
    record {
      between = λ tells. subst (λ (k : ℕ). AreBetween bundle quarter from k w.batch) (sym is) (none_between bundle quarter from w.batch empty);
      few = omega (arith, none, is);
      within = omega (arith, is, low);
      flat = subst (All (λ t. ¬ BandsNeedV4 v t.bands)) (sym empty) (All-nil (λ t. ¬ BandsNeedV4 v t.bands));
    }

-- one place more
pub one_more : (told : Bool) (bundle : List ℕ) (quarter : ℕ) (v : Version) (from : ℕ) (before after : Waiting) → before.place < 4096 → AreWaiting told bundle quarter v from before → after.place ≡ before.place + 1
    → length after.batch ≤ length before.batch + 1 → All (λ t. ¬ BandsNeedV4 v t.bands) after.batch → (IsTrue told → TakesPlace bundle quarter before.place before.batch after.batch) → AreWaiting told bundle quarter v from after
one_more told bundle quarter v from before after below w place longer flat takes = record {
  between = λ tells. more_between bundle quarter from before.place after.place before.batch after.batch place (w.between tells) (takes tells);
  few = omega (arith, w.few, place, longer);
  within = omega (arith, place, below);
  flat = flat;
}

-- the place has no half
pub none_waits : (told : Bool) (bundle : List ℕ) (quarter : ℕ) (v : Version) (from : ℕ) (before after : Waiting) → before.place < 4096 → AreWaiting told bundle quarter v from before → after.place ≡ before.place + 1 → after.batch ≡ before.batch
    → IsHalfAt told bundle v before.place Nothing → IsFilled told bundle quarter v from after More
none_waits told bundle quarter v from before after below w place same half =
    let longer : length after.batch ≡ length before.batch = ap length same in
    record {
      waiting = one_more told bundle quarter v from before after below w place (omega (arith, longer)) (subst (All (λ t. ¬ BandsNeedV4 v t.bands)) (sym same) w.flat) (λ tells. inl (half.says tells, same));
      ends = omega (arith, place, w.few);
    }

-- its half waits behind the others
pub half_waits : (told : Bool) (bundle : List ℕ) (quarter : ℕ) (v : Version) (from : ℕ) (before after : Waiting) (tile : Tile) → before.place < 4096 → AreWaiting told bundle quarter v from before → after.place ≡ before.place + 1
    → after.batch ≡ before.batch ++ tile ∷ [] → tile.slot ≡ coarse_slot quarter (place_of before.place).0 (place_of before.place).1 → IsHalfAt told bundle v before.place (Coarse tile.bands) → IsFilled told bundle quarter v from after More
half_waits told bundle quarter v from before after tile below w place pushed slot half =
    let longer : length after.batch ≡ length before.batch + 1 = ap length pushed ∙ length-append before.batch (tile ∷ []) in
    let takes : IsTrue told → TakesPlace bundle quarter before.place before.batch after.batch = λ tells.
    let says = half.says tells in
    let four = says.1.0 in
    let coarse : IsCoarse bundle quarter (place_of before.place) tile = record { four = four; quarters = says.1.1.0; slot = slot; half = says.1.1.1 } in
    inr (says.0, (tile, (coarse, pushed))) in
    record {
      waiting = one_more told bundle quarter v from before after below w place (omega (arith, longer)) (subst (All (λ t. ¬ BandsNeedV4 v t.bands)) (sym pushed) (All-push (λ t. ¬ BandsNeedV4 v t.bands) before.batch tile w.flat half.fits)) takes;
      ends = omega (arith, place, w.few);
    }

-- it is refused
pub refused_waits : (told : Bool) (bundle : List ℕ) (quarter : ℕ) (v : Version) (from : ℕ) (w : Waiting) (stop : OverviewStop) → w.place < 4096 → AreWaiting told bundle quarter v from w → IsHalfAt told bundle v w.place (HalfRefused stop)
    → IsFilled told bundle quarter v from w (Refused stop)
refused_waits told bundle quarter v from w stop below waiting half = record { waiting = waiting; ends = (below, (half.fits.0, (half.fits.1, half.says))) }

-- at least one place was read
pub read_on : (told : Bool) (bundle : List ℕ) (quarter : ℕ) (v : Version) (from : ℕ) (before after : Waiting) → AreWaiting told bundle quarter v from before → before.place < after.place → AreWaiting told bundle quarter v from after
    → IsFilled told bundle quarter v from after More
read_on told bundle quarter v from before after first further waiting = record { waiting = waiting; ends = omega (arith, first.few, further) }

-- ---- the same, of what stands later

pub waiting_as : (told told' : Bool) (bundle bundle' : List ℕ) (quarter : ℕ) (v : Version) (from : ℕ) (w : Waiting) → told' ≡ told → (IsTrue told → bundle' ≡ bundle) → AreWaiting told bundle quarter v from w → AreWaiting told' bundle' quarter v from w
waiting_as told told' bundle bundle' quarter v from w tells same are = record {
  between = λ is.
      let told_is = sym tells ∙ is in
      subst (λ (b : List ℕ). AreBetween b quarter from w.place w.batch) (sym (same told_is)) (are.between told_is);
  few = are.few;
  within = are.within;
  flat = are.flat;
}

ends_as : (told told' : Bool) (bundle bundle' : List ℕ) (v : Version) (from : ℕ) (w : Waiting) (next : Next) → told' ≡ told → (IsTrue told → bundle' ≡ bundle) → EndsSo told bundle v from w next → EndsSo told' bundle' v from w next
ends_as told told' bundle bundle' v from w More tells same ends = ends
ends_as told told' bundle bundle' v from w (Refused stop) tells same ends = (
  ends.0,
  (
    ends.1.0,
    (
      ends.1.1.0,
      λ is.
          let told_is = sym tells ∙ is in
          subst (λ (b : List ℕ). (has_quarter (tiles b) (place_of w.place).0 (place_of w.place).1 ≡ true) × PlaceStops b v (place_of w.place) stop) (sym (same told_is)) (ends.1.1.1 told_is),
    ),
  ),
)

pub filled_as : (told told' : Bool) (bundle bundle' : List ℕ) (quarter : ℕ) (v : Version) (from : ℕ) (w : Waiting) (next : Next) → told' ≡ told → (IsTrue told → bundle' ≡ bundle) → IsFilled told bundle quarter v from w next
    → IsFilled told' bundle' quarter v from w next
filled_as told told' bundle bundle' quarter v from w next tells same f = record {
  waiting = waiting_as told told' bundle bundle' quarter v from w tells same f.waiting;
  ends = ends_as told told' bundle bundle' v from w next tells same f.ends;
}

-- ---- a batch more

pub so_far_more : (told : Bool) (bundle : List ℕ) (quarter : ℕ) (v : Version) (step : ℕ) (before after : SoFar) (w : Waiting) → IsSoFar told bundle quarter v step before → AreWaiting told bundle quarter v before.place w → length before.list ≤ before.place
    → MayBeAdded v step before.list w.batch → All (λ t. AreEncodedOnce (tile_bytes v step t) t.bands step) w.batch → after.list ≡ before.list ++ updates_of v step w.batch → after.place ≡ w.place → IsSoFar told bundle quarter v step after
so_far_more told bundle quarter v step before after w s waiting room may encoded list place =
    let few : length before.list + length w.batch ≤ 1048576 = omega (arith, room, waiting.few, waiting.within) in
    record {
      halves = s.halves ++ w.batch;
      coarse = λ tells.
          let b = waiting.between tells in
          subst (λ (ps : List (ℕ × ℕ)). AllZip (IsCoarse bundle quarter) ps (s.halves ++ w.batch)) (sym (ap (first_places (tiles bundle)) place ∙ b.joined)) (zip_join (IsCoarse bundle quarter) (first_places (tiles bundle) before.place) b.places s.halves w.batch (s.coarse tells) b.each);
      pass = pass_join v step before.list s.halves w.batch s.pass s.list_is may few;
      encoded = All-append (λ t. AreEncodedOnce (tile_bytes v step t) t.bands step) s.halves w.batch s.encoded encoded;
      list_is = list ∙ ap (λ (us : List TileRec). us ++ updates_of v step w.batch) s.list_is ∙ sym (updates_join v step s.halves w.batch);
    }

pub list_longer : (v : Version) (step : ℕ) (list list' : List TileRec) (batch : List Tile) → list' ≡ list ++ updates_of v step batch → length list' ≡ length list + length batch
list_longer v step list list' batch is = ap length is ∙ length-append list (updates_of v step batch) ∙ ap (λ (n : ℕ). length list + n) (length-map batch (update_of v step))

-- ---- at the end

pub all_updates : (told : Bool) (bundle : List ℕ) (quarter : ℕ) (v : Version) (step : ℕ) (done : SoFar) → done.place ≡ 4096 → IsTrue told → IsSoFar told bundle quarter v step done → IsOverviewUpdates bundle quarter v step done.list
all_updates told bundle quarter v step done end tells s = record {
  coarse = s.halves;
  overview = subst (λ (k : ℕ). AllZip (IsCoarse bundle quarter) (first_places (tiles bundle) k) s.halves) end (s.coarse tells);
  pass = s.pass;
  updates_are = s.list_is;
}

pub all_near : (told : Bool) (bundle : List ℕ) (quarter : ℕ) (v : Version) (step : ℕ) (done : SoFar) → done.place ≡ 4096 → IsTrue told → IsSoFar told bundle quarter v step done → IsEncodedOverview bundle quarter v step done.list
all_near told bundle quarter v step done end tells s = record {
  coarse = s.halves;
  overview = subst (λ (k : ℕ). AllZip (IsCoarse bundle quarter) (first_places (tiles bundle) k) s.halves) end (s.coarse tells);
  updates_are = s.list_is;
  encoded = s.encoded;
}

pub all_encoded : (told : Bool) (bundle : List ℕ) (quarter : ℕ) (v : Version) (step : ℕ) (done : SoFar) → IsSoFar told bundle quarter v step done → AreEncoded v step done.list
all_encoded told bundle quarter v step done s = record { tiles = s.halves; updates_are = s.list_is; encoded = s.encoded }

pub all_fit : (told : Bool) (bundle : List ℕ) (quarter : ℕ) (v : Version) (step : ℕ) (done : SoFar) → IsSoFar told bundle quarter v step done → EachFits done.list
all_fit told bundle quarter v step done s = subst EachFits (sym s.list_is) (all_fit_of v step s.halves s.encoded s.pass.each)

-- ---- the same, of what stands later

-- of a volume that tells its files, where the bundle is the same
pub so_far_as : (told told' : Bool) (bundle bundle' : List ℕ) (quarter : ℕ) (v : Version) (step : ℕ) (done : SoFar) → told' ≡ told → (IsTrue told → bundle' ≡ bundle) → IsSoFar told bundle quarter v step done → IsSoFar told' bundle' quarter v step done
so_far_as told told' bundle bundle' quarter v step done tells same s = record {
  halves = s.halves;
  coarse = λ is.
      let told_is = sym tells ∙ is in
      subst (λ (b : List ℕ). AllZip (IsCoarse b quarter) (first_places (tiles b) done.place) s.halves) (sym (same told_is)) (s.coarse told_is);
  pass = s.pass;
  encoded = s.encoded;
  list_is = s.list_is;
}
