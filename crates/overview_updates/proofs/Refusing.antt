-- The refusals of an overview of which the first coarse tiles passed.
use Rattle.std.proofs.Common.{◌≡◌, inl, inr, ℕ, ◌+◌, ◌-◌, ◌^◌, ◌<◌, ◌≤◌, Bool, true, false, IsTrue, List, [], ◌∷◌, ◌++◌, length, refl, sym, ap, ◌∙◌, subst, arith, length-append, append_assoc}
use Rattle.std.specs.Prelude.{All}
use Rattle.std.specs.List.{AllZip}
use Rattle.std.proofs.lemmas.List.{length-map}
use Rattle.std.proofs.lemmas.List.Elements.{All-head}
use Rattle.lerc_header.specs.declared.header.Version.{Version}
use Rattle.lerc_encode.specs.Encoded.{BandsNeedV4}
use Rattle.bundle_store.specs.declared.tile_rec.TileRec.{TileRec}
use Rattle.bundle_store.specs.Tiles.{tiles}
use Rattle.tile_stream.specs.declared.tile.Tile.{Tile}
use Rattle.tile_updates.specs.Adding.{StopsBatch, TellsBatchStop}
use Rattle.tile_updates.specs.Stops.{IsTooLong, IsTooMuch}
use Rattle.tile_updates.specs.Updates.{AllPass, kept_bytes, update_of, updates_of}
use Rattle.tile_updates.specs.declared.stop.BatchStop.{BatchStop}
use Rattle.tile_updates.specs.declared.stop.BatchStop.TheVariants.{TileTooLarge as BatchTileTooLarge, KeptTooMuch as BatchKeptTooMuch, OutOfMemory as BatchOutOfMemory}
use Rattle.tile_updates.proofs.Passing.{all_behind, updates_push}
use Rattle.tile_updates.proofs.SoFar.{pass_join, updates_join}
use Rattle.overview_updates.specs.Overview.{IsCoarse, coarse_places, first_places, has_quarter, place_of}
use Rattle.overview_updates.specs.Refusals.{PlaceStops, ReadFails}
use Rattle.overview_updates.specs.Stops.{HasCoarse, IsOverviewStop, IsRefused, OverviewFails, TellsStop}
use Rattle.overview_updates.specs.declared.places.Waiting.{Waiting}
use Rattle.overview_updates.specs.declared.stop.OverviewStop.{OverviewStop}
use Rattle.overview_updates.specs.declared.stop.OverviewStop.TheVariants.{Beyond, BadTile, Unlike, DepthNeedsV4, TileTooLarge, KeptTooMuch, Volume, OutOfMemory}
use Rattle.overview_updates.specs.declared.updates.SoFar.{SoFar}
use Rattle.overview_updates.specs.inside.SoFar.{AreWaiting, IsSoFar, IsToldAtOnce}
use Rattle.overview_updates.specs.inside.StopOf.{stop_of}
use Rattle.overview_updates.proofs.CoarsePlaces.{place_among, places_behind}
use Rattle.overview_updates.proofs.SoFar.{counted}
use Rattle.overview_updates.proofs.Zips.{zip_divide, zip_join}

-- ---- what is refused as it is read

-- the tiles before the place pass
stops_at : (bundle : List ℕ) (quarter : ℕ) (v : Version) (step : ℕ) (done : SoFar) (stop : OverviewStop) → IsSoFar true bundle quarter v step done → done.place < 4096 → has_quarter (tiles bundle) (place_of done.place).0 (place_of done.place).1 ≡ true
    → ((before : List Tile) → IsRefused bundle quarter v step before (place_of done.place) stop) → IsOverviewStop bundle quarter v step stop
stops_at bundle quarter v step done stop s below there refused =
    let split = place_among (tiles bundle) done.place below there in
    record {
      places = first_places (tiles bundle) done.place;
      place = place_of done.place;
      later = split.0;
      split = split.1;
      before = s.halves;
      made = s.coarse refl;
      pass = s.pass;
      refused = refused s.halves;
    }

pub refused_reading : (told : Bool) (bundle : List ℕ) (quarter : ℕ) (v : Version) (step : ℕ) (done : SoFar) (stop : OverviewStop) → IsTrue told → IsSoFar told bundle quarter v step done → done.place < 4096
    → has_quarter (tiles bundle) (place_of done.place).0 (place_of done.place).1 ≡ true → PlaceStops bundle v (place_of done.place) stop → TellsStop bundle quarter v step stop
refused_reading true bundle quarter v step done (Beyond slot entry got) tells s below there stops = stops_at bundle quarter v step done (Beyond slot entry got) s below there (λ before. stops)
refused_reading true bundle quarter v step done (BadTile slot fault) tells s below there stops = stops_at bundle quarter v step done (BadTile slot fault) s below there (λ before. stops)
refused_reading true bundle quarter v step done (Unlike slot) tells s below there stops = stops_at bundle quarter v step done (Unlike slot) s below there (λ before. stops)
refused_reading true bundle quarter v step done (DepthNeedsV4 slot) tells s below there stops = stops_at bundle quarter v step done (DepthNeedsV4 slot) s below there (λ before. stops)
refused_reading true bundle quarter v step done (TileTooLarge at len) tells s below there stops = absurd stops
refused_reading true bundle quarter v step done (KeptTooMuch at) tells s below there stops = absurd stops
refused_reading true bundle quarter v step done Volume tells s below there stops = tt
refused_reading true bundle quarter v step done OutOfMemory tells s below there stops = tt
refused_reading false bundle quarter v step done stop tells s below there stops = absurd (let no : ⊥ = cc in no)

-- what is told at once is told of any bundle
pub tells_at_once : (bundle : List ℕ) (quarter : ℕ) (v : Version) (step : ℕ) (stop : OverviewStop) → IsToldAtOnce stop → TellsStop bundle quarter v step stop
tells_at_once bundle quarter v step stop (inl is) = subst (TellsStop bundle quarter v step) (sym is) tt
tells_at_once bundle quarter v step stop (inr is) = subst (TellsStop bundle quarter v step) (sym is) tt

pub fails_at_once : (stop : OverviewStop) → IsToldAtOnce stop → OverviewFails stop
fails_at_once stop (inl is) = subst OverviewFails (sym is) tt
fails_at_once stop (inr is) = subst OverviewFails (sym is) tt

pub fails_reading : (stop : OverviewStop) → ReadFails stop → OverviewFails stop
fails_reading (Beyond slot entry got) fails = fails
fails_reading (BadTile slot fault) fails = tt
fails_reading (Unlike slot) fails = tt
fails_reading (DepthNeedsV4 slot) fails = tt
fails_reading (TileTooLarge at len) fails = absurd fails
fails_reading (KeptTooMuch at) fails = absurd fails
fails_reading Volume fails = tt
fails_reading OutOfMemory fails = tt

-- ---- what is refused as it is encoded

-- the coarse tile of a batch that is refused, behind those before it
record Reached (bundle : List ℕ) (quarter : ℕ) (v : Version) (step : ℕ) (before : List Tile) (t : Tile) : Type 0 where
  pub places : List (ℕ × ℕ)
  pub place : ℕ × ℕ
  pub later : List (ℕ × ℕ)
  pub split : coarse_places (tiles bundle) ≡ places ++ place ∷ later
  pub made : AllZip (IsCoarse bundle quarter) places before
  pub here : IsCoarse bundle quarter place t
  pub pass : AllPass v step before
  pub flat : ¬ BandsNeedV4 v t.bands

reached : (bundle : List ℕ) (quarter : ℕ) (v : Version) (step : ℕ) (done : SoFar) (w : Waiting) (stop : BatchStop) (s : IsSoFar true bundle quarter v step done) → AreWaiting true bundle quarter v done.place w → length done.list ≤ done.place
    → (r : StopsBatch v step done.list w.batch stop) → Reached bundle quarter v step (s.halves ++ r.front) r.tile
reached bundle quarter v step done w stop s waiting room r =
    let R : ℕ × ℕ → Tile → Type 0 = IsCoarse bundle quarter in
    let b = waiting.between refl in
    let d = zip_divide R b.places r.front r.behind r.tile (subst (λ (ts : List Tile). AllZip R b.places ts) r.split b.each) in
    let rest = places_behind (tiles bundle) w.place (4096 - w.place) in
    let first = first_places (tiles bundle) done.place in
    let size : length w.batch ≡ length r.front + length (r.tile ∷ r.behind) = ap length r.split ∙ length-append r.front (r.tile ∷ r.behind) in
    let flat = subst (All (λ t. ¬ BandsNeedV4 v t.bands)) r.split waiting.flat in
    record {
      places = first ++ d.before;
      place = d.at;
      later = d.behind ++ rest.0;
      split =
          ap (first_places (tiles bundle)) (let e : 4096 ≡ w.place + (4096 - w.place) = omega (arith, waiting.within) in e) ∙ rest.1 ∙ ap (λ (ps : List (ℕ × ℕ)). ps ++ rest.0) (b.joined ∙ ap (λ (ps : List (ℕ × ℕ)). first ++ ps) d.joined)
          ∙ ap (λ (ps : List (ℕ × ℕ)). ps ++ rest.0) (sym (append_assoc first d.before (d.at ∷ d.behind))) ∙ append_assoc (first ++ d.before) (d.at ∷ d.behind) rest.0;
      made = zip_join R first d.before s.halves r.front (s.coarse refl) d.first;
      here = d.here;
      pass = pass_join v step done.list s.halves r.front s.pass s.list_is r.added (omega (arith, room, waiting.few, waiting.within, size));
      flat = All-head (λ t. ¬ BandsNeedV4 v t.bands) r.tile r.behind (all_behind (λ t. ¬ BandsNeedV4 v t.bands) r.front (r.tile ∷ r.behind) flat);
    }

-- the number of the tile
number_of : (told : Bool) (bundle : List ℕ) (quarter : ℕ) (v : Version) (step : ℕ) (done : SoFar) (s : IsSoFar told bundle quarter v step done) (front : List Tile) → length (done.list ++ updates_of v step front) ≡ length (s.halves ++ front)
number_of told bundle quarter v step done s front =
    let count = counted told bundle quarter v step done s in
    omega (arith, count, length-append done.list (updates_of v step front), length-append s.halves front, length-map front (update_of v step))

-- the updates up to those of a tile
upto : (v : Version) (step : ℕ) (list : List TileRec) (xs ys : List Tile) (t : Tile) → list ≡ updates_of v step xs → (list ++ updates_of v step ys) ++ update_of v step t ∷ [] ≡ updates_of v step ((xs ++ ys) ++ t ∷ [])
upto v step list xs ys t is =
    ap (λ (us : List TileRec). (us ++ updates_of v step ys) ++ update_of v step t ∷ []) is ∙ ap (λ (us : List TileRec). us ++ update_of v step t ∷ []) (sym (updates_join v step xs ys)) ∙ sym (updates_push v step (xs ++ ys) t)

stops_so : (bundle : List ℕ) (quarter : ℕ) (v : Version) (step : ℕ) (stop : OverviewStop) (before : List Tile) (t : Tile) (here : Reached bundle quarter v step before t) → IsRefused bundle quarter v step before here.place stop → IsOverviewStop bundle quarter v step stop
stops_so bundle quarter v step stop before t here refused = record {
  places = here.places;
  place = here.place;
  later = here.later;
  split = here.split;
  before = before;
  made = here.made;
  pass = here.pass;
  refused = refused;
}

pub refused_encoding : (told : Bool) (bundle : List ℕ) (quarter : ℕ) (v : Version) (step : ℕ) (done : SoFar) (w : Waiting) (stop : BatchStop) → IsTrue told → IsSoFar told bundle quarter v step done → AreWaiting told bundle quarter v done.place w → length done.list ≤ done.place
    → TellsBatchStop v step done.list w.batch stop → TellsStop bundle quarter v step (stop_of stop)
refused_encoding true bundle quarter v step done w BatchOutOfMemory tells s waiting room r = tt
refused_encoding true bundle quarter v step done w (BatchTileTooLarge at len) tells s waiting room r =
    let here = reached bundle quarter v step done w (BatchTileTooLarge at len) s waiting room r in
    let long : IsTooLong v step len r.tile = record { taken = here.flat; len_is = r.refused.0; long = r.refused.1.0 } in
    let coarse : HasCoarse bundle quarter here.place (IsTooLong v step len) = record { tile = r.tile; coarse = here.here; such = long } in
    stops_so bundle quarter v step (TileTooLarge at len) (s.halves ++ r.front) r.tile here (coarse, r.refused.1.1 ∙ number_of true bundle quarter v step done s r.front)
refused_encoding true bundle quarter v step done w (BatchKeptTooMuch at) tells s waiting room r =
    let here = reached bundle quarter v step done w (BatchKeptTooMuch at) s waiting room r in
    let much : IsTooMuch v step (s.halves ++ r.front) r.tile = record {
      passes = record { taken = here.flat; small = r.refused.0 };
      much = subst (λ (us : List TileRec). 2 ^ 30 < kept_bytes us) (upto v step done.list s.halves r.front r.tile s.list_is) r.refused.1.0;
    } in
    let coarse : HasCoarse bundle quarter here.place (IsTooMuch v step (s.halves ++ r.front)) = record { tile = r.tile; coarse = here.here; such = much } in
    stops_so bundle quarter v step (KeptTooMuch at) (s.halves ++ r.front) r.tile here (coarse, r.refused.1.1 ∙ number_of true bundle quarter v step done s r.front)
refused_encoding false bundle quarter v step done w stop tells s waiting room r = absurd (let no : ⊥ = cc in no)

-- the kept numbers, of whatever volume
pub fails_encoding : (v : Version) (step : ℕ) (list : List TileRec) (batch : List Tile) (stop : BatchStop) → length list + length batch ≤ 4096 → TellsBatchStop v step list batch stop → OverviewFails (stop_of stop)
fails_encoding v step list batch BatchOutOfMemory few r = tt
fails_encoding v step list batch (BatchTileTooLarge at len) few r = (number v step list batch r.front r.tile r.behind at few r.split r.refused.1.1, r.refused.1.0)
  where
    number : (v : Version) (step : ℕ) (list : List TileRec) (batch front : List Tile) (t : Tile) (behind : List Tile) (at : ℕ) → length list + length batch ≤ 4096 → batch ≡ front ++ t ∷ behind → at ≡ length (list ++ updates_of v step front) → at < 4096
    number v step list batch front t behind at few split is =
        let size : length batch ≡ length front + length (t ∷ behind) = ap length split ∙ length-append front (t ∷ behind) in
        omega (arith, few, size, is, length-append list (updates_of v step front), length-map front (update_of v step))
fails_encoding v step list batch (BatchKeptTooMuch at) few r =
    let size : length batch ≡ length r.front + length (r.tile ∷ r.behind) = ap length r.split ∙ length-append r.front (r.tile ∷ r.behind) in
    let is = r.refused.1.1 in
    omega (arith, few, size, is, length-append list (updates_of v step r.front), length-map r.front (update_of v step))
