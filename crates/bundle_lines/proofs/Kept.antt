-- What a run keeps of what was pending as it started.
use Rattle.std.proofs.Common.{◌≡◌, inl, inr, ℕ, List, [], refl, sym, subst, arith, ◌∙◌}
use Rattle.std.proofs.lemmas.Bool.{cases_lt}
use Rattle.outside_io.specs.declared.volume.VolFile.TheVariants.{Bundle, Journal}
use Rattle.outside_io.specs.volume.Disk.{Disk, IsQuiet}
use Rattle.outside_io.specs.volume.History.{During, DuringAt, History, contents, current}
use Rattle.outside_io.proofs.VolumeLemmas.Moments.{during_map, during_map_at}
use Rattle.bundle_store.specs.declared.tile_rec.TileRec.{TileRec}
use Rattle.bundle_store.specs.Images.{EachImage, StandsFor}
use Rattle.bundle_store.specs.Recover.{IsRecovered}
use Rattle.bundle_store.specs.Starts.{CouldBe, KeepsStart}
use Rattle.bundle_store.specs.Tiles.{IsReadable, TileMap, tiles}
use Rattle.bundle_store.proofs.Standing.{closed_map, weaker}
use Rattle.bundle_store.proofs.Starting.{one_start}
use Rattle.bundle_lines.specs.Builds.{BuildKeeps, BuildKeepsFrom, IsAllOrNone}
use Rattle.bundle_lines.specs.Chains.{IsAfterFirst, KeepsFirst}
use Rattle.bundle_lines.specs.Puts.{AreMarks, IsAfterSome, KeptOr, PutsKeep, PutsKeepFrom, marked}
use Rattle.bundle_lines.proofs.Marked.{marked_none}

-- ---- a recovery, and then updates

-- what stands behind a recovery
module _ (start : TileMap) (old mid : History) (stands : StandsFor (contents Bundle old) (contents Journal old) start) (recovered : IsRecovered (contents Bundle old) (contents Journal old) (current mid)) where
  pub left_map : IsReadable (contents Bundle mid) × (start ≡ tiles (contents Bundle mid))
  left_map = let s = recovered.same start stands in closed_map (contents Bundle mid) (contents Journal mid) s.state start recovered.closed s.says s.shows

-- the join, for whatever is said of the updates
module _ (Done : ℕ → TileMap → Type 0) (marks : List ℕ) (old mid new : History) (are : AreMarks marks mid.moment new.moment) (first : KeepsStart old mid) (kept : DuringAt (λ t d. EachImage (Done t) d) mid new) where
  joined : DuringAt (λ t d. EachImage (λ map. KeptOr (current old) marks t (Done t map) map) d) old new
  joined = record {
    later = omega (arith, first.later, kept.later);
    past = λ t le. kept.past t (omega (arith, le, first.later)) ∙ first.past t le;
    each = λ t ge le. elim (cases_lt t mid.moment) [
      | inl before ↦ (let none : marked marks t ≡ 0 = marked_none marks mid.moment t (λ i less. (are.within i less).0) before in
          subst (EachImage (λ map. KeptOr (current old) marks t (Done t map) map)) (sym (kept.past t (omega (arith, before))))
          (weaker (CouldBe (current old)) (λ map. KeptOr (current old) marks t (Done t map) map) (mid.disk_at t) (λ map could. inl (could, none)) (first.each t ge (omega (arith, before)))))
      | inr after ↦ weaker (Done t) (λ map. KeptOr (current old) marks t (Done t map) map) (new.disk_at t) (λ map is. inr is) (kept.each t after le)
    ];
  }

pub puts_from : (us : List TileRec) (marks : List ℕ) (start : TileMap) (old mid new : History) → StandsFor (contents Bundle old) (contents Journal old) start
    → KeepsStart old mid → IsRecovered (contents Bundle old) (contents Journal old) (current mid) → AreMarks marks mid.moment new.moment
    → (IsReadable (contents Bundle mid) → PutsKeep (contents Bundle mid) (tiles (contents Bundle mid)) us marks mid new) → PutsKeepFrom (contents Bundle mid) start us marks old new
puts_from us marks start old mid new stands first recovered are kept =
    let map = left_map start old mid stands recovered in
    joined (λ t m. IsAfterSome (contents Bundle mid) start us marks t m) marks old mid new are first
    (subst (λ (m : TileMap). PutsKeep (contents Bundle mid) m us marks mid new) (sym map.1) (kept map.0))

pub build_from : (us : List TileRec) (marks : List ℕ) (start : TileMap) (old mid new : History) → StandsFor (contents Bundle old) (contents Journal old) start
    → KeepsStart old mid → IsRecovered (contents Bundle old) (contents Journal old) (current mid) → AreMarks marks mid.moment new.moment
    → (IsReadable (contents Bundle mid) → BuildKeeps (tiles (contents Bundle mid)) us marks mid new) → BuildKeepsFrom start us marks old new
build_from us marks start old mid new stands first recovered are kept =
    let map = left_map start old mid stands recovered in
    joined (λ t m. IsAllOrNone start us marks t m) marks old mid new are first
    (subst (λ (m : TileMap). BuildKeeps m us marks mid new) (sym map.1) (kept map.0))

-- ---- no update has a mark

-- what keeps the start keeps it with no update done
module _ (Done : ℕ → TileMap → Type 0) (old new : History) (first : KeepsStart old new) where
  unmarked : DuringAt (λ t d. EachImage (λ map. KeptOr (current old) [] t (Done t map) map) d) old new
  unmarked = during_map_at _ _ old new (λ t d ge le each. weaker (CouldBe (current old)) (λ map. KeptOr (current old) [] t (Done t map) map) d (λ map could. inl (could, refl)) each) first

pub puts_unmarked : (b : List ℕ) (start : TileMap) (us : List TileRec) (old new : History) → KeepsStart old new → PutsKeepFrom b start us [] old new
puts_unmarked b start us old new first = unmarked (λ t m. IsAfterSome b start us [] t m) old new first

pub build_unmarked : (start : TileMap) (us : List TileRec) (old new : History) → KeepsStart old new → BuildKeepsFrom start us [] old new
build_unmarked start us old new first = unmarked (λ t m. IsAllOrNone start us [] t m) old new first

-- ---- nothing is pending at the start

module _ (start : TileMap) (old new : History) (quiet : IsQuiet (current old)) (stands : StandsFor (contents Bundle old) (contents Journal old) start) where
  the_start : (map : TileMap) → CouldBe (current old) map → map ≡ start
  the_start map could = one_start (current old) start quiet stands map could

  pub start_at_rest : KeepsStart old new → During (EachImage (λ map. map ≡ start)) old new
  start_at_rest kept = during_map _ _ old new (λ d each. weaker (CouldBe (current old)) (λ map. map ≡ start) d the_start each) kept

  put_rests : (b : List ℕ) (us : List TileRec) (marks : List ℕ) (t : ℕ) (map : TileMap) → KeptOr (current old) marks t (IsAfterSome b start us marks t map) map → IsAfterSome b start us marks t map
  put_rests b us marks t map (inl before) = record { count = 0; count_is = inl (sym before.1); map_is = the_start map before.0 }
  put_rests b us marks t map (inr is) = is

  pub puts_at_rest : (b : List ℕ) (us : List TileRec) (marks : List ℕ) → PutsKeepFrom b start us marks old new → PutsKeep b start us marks old new
  puts_at_rest b us marks kept = during_map_at _ _ old new (λ t d ge le each. weaker _ (IsAfterSome b start us marks t) d (put_rests b us marks t) each) kept

  build_rests : (us : List TileRec) (marks : List ℕ) (t : ℕ) (map : TileMap) → KeptOr (current old) marks t (IsAllOrNone start us marks t map) map → IsAllOrNone start us marks t map
  build_rests us marks t map (inl before) = record { count = 0; least = omega (arith, before.1); either = inl refl; map_is = the_start map before.0 }
  build_rests us marks t map (inr is) = is

  pub build_at_rest : (us : List TileRec) (marks : List ℕ) → BuildKeepsFrom start us marks old new → BuildKeeps start us marks old new
  build_at_rest us marks kept = during_map_at _ _ old new (λ t d ge le each. weaker _ (IsAllOrNone start us marks t) d (build_rests us marks t) each) kept

-- ---- in the words of a chain

none_done : (first : Disk) (us : List TileRec) (least : ℕ) (map : TileMap) → least ≡ 0 → CouldBe first map → IsAfterFirst first us least map
none_done first us least map none could = record { start = map; could = could; count = 0; enough = omega (arith, none); map_is = refl }

module _ (start : TileMap) (us : List TileRec) (marks : List ℕ) (old new : History) (could : CouldBe (current old) start) where
  put_is : (bundle : List ℕ) (t : ℕ) (map : TileMap) → KeptOr (current old) marks t (IsAfterSome bundle start us marks t map) map → IsAfterFirst (current old) us (marked marks t) map
  put_is bundle t map (inl before) = none_done (current old) us (marked marks t) map before.1 before.0
  put_is bundle t map (inr is) = record {
    start = start;
    could = could;
    count = is.count;
    enough = elim is.count_is [ inl same ↦ omega (arith, same) | inr more ↦ omega (arith, more.1.1) ];
    map_is = is.map_is;
  }

  pub puts_first : (bundle : List ℕ) → PutsKeepFrom bundle start us marks old new → KeepsFirst us marks old new
  puts_first bundle kept = during_map_at _ _ old new (λ t d ge le each. weaker _ (IsAfterFirst (current old) us (marked marks t)) d (put_is bundle t) each) kept

  build_is : (t : ℕ) (map : TileMap) → KeptOr (current old) marks t (IsAllOrNone start us marks t map) map → IsAfterFirst (current old) us (marked marks t) map
  build_is t map (inl before) = none_done (current old) us (marked marks t) map before.1 before.0
  build_is t map (inr is) = record { start = start; could = could; count = is.count; enough = is.least; map_is = is.map_is }

  pub build_first : BuildKeepsFrom start us marks old new → KeepsFirst us marks old new
  build_first kept = during_map_at _ _ old new (λ t d ge le each. weaker _ (IsAfterFirst (current old) us (marked marks t)) d (build_is t) each) kept

pub start_first : (us : List TileRec) (old new : History) → KeepsStart old new → KeepsFirst us [] old new
start_first us old new kept = during_map_at _ _ old new (λ t d ge le each. weaker (CouldBe (current old)) (IsAfterFirst (current old) us (marked [] t)) d (λ map could. none_done (current old) us (marked [] t) map refl could) each) kept
