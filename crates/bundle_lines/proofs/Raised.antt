-- What a crash leaves of a build of all updates, and its marks.
use Rattle.std.proofs.Common.{◌≡◌, ◌↔◌, ◌⊎◌, ℕ, ◌*◌, ◌<◌, ◌≤◌, List, [], ◌∷◌, length, replicate, take, slice_index, cond, Option, Bool, false, Err, IsTrue, refl, sym, ap, subst, ◌∙◌, inl, inr, arith, nat_le}
use Rattle.std.specs.Prelude.{IsErrOf}
use Rattle.std.proofs.lemmas.Bool.{cases_lt}
use Rattle.std.proofs.lemmas.Bool.Decides.{nat_tests}
use Rattle.std.proofs.lemmas.List.{get_or-replicate, length-replicate, take_all}
use Rattle.std.proofs.lemmas.List.Folds.{sum_by-replicate}
use Rattle.outside_io.specs.declared.volume.VolFile.TheVariants.{Bundle}
use Rattle.outside_io.specs.streams.Faults.{IsCause}
use Rattle.outside_io.specs.volume.Disk.{Disk, IsQuiet, IsSettled}
use Rattle.outside_io.specs.volume.History.{History, During, contents, current}
use Rattle.outside_io.proofs.VolumeLemmas.Moments.{during_map_at, started_at}
use Rattle.bundle_store.specs.declared.tile_rec.TileRec.{TileRec}
use Rattle.bundle_store.specs.declared.fault.StoreFault.{StoreFault}
use Rattle.bundle_store.specs.declared.fault.StoreFault.TheVariants.{Device, BadBundle, BadJournal, NoTile, Beyond, TileTooLarge, EmptyTile, Full, NotEmpty as StoreNotEmpty, OutOfMemory as StoreMemory, Stopped}
use Rattle.bundle_store.specs.Build.{EachFits, last_tiles, map_after}
use Rattle.bundle_store.specs.Causes.{UnlessDevice}
use Rattle.bundle_store.specs.Images.{EachImage, EmptyOr, HoldsClosed}
use Rattle.bundle_store.specs.Session.{BuildFails, IsReadyToPut, SessionState}
use Rattle.bundle_store.specs.Tiles.{IsReadable, TileMap, tiles}
use Rattle.bundle_store.proofs.Recovering.{tiles_empty}
use Rattle.bundle_store.proofs.Standing.{still_good, weaker}
use Rattle.bundle_lines.specs.declared.stop.BuildStop.{BuildStop}
use Rattle.bundle_lines.specs.declared.stop.BuildStop.TheVariants.{Output, Volume, NotEmpty, OutOfMemory}
use Rattle.bundle_lines.specs.Builds.{BuildEnd, BuildGave, BuildKeeps, BuildMarks, BuildReads, IsAllOrNone, KeepsSomeLength, OnBuildAnswer}
use Rattle.bundle_lines.specs.Puts.{AreMarks, marked}
use Rattle.bundle_lines.specs.inside.Raising.{IsRaised, Raises, build_stop_of}

-- ---- marks that are all one moment

index_same : (n m i : ℕ) → i < length (replicate n m) → slice_index (replicate n m) i ≡ m
index_same n m i less = get_or-replicate n i m 0 (omega (arith, less, length-replicate n m))

pub equal_marks : (n m from : ℕ) → from ≤ m → AreMarks (replicate n m) from m
equal_marks n m from le = record {
  rising = λ i j order less. omega (arith, index_same n m i (omega (arith, order, less)), index_same n m j less);
  within = λ i less. (omega (arith, index_same n m i less, le), omega (arith, index_same n m i less));
}

marked_equal : (n m t : ℕ) → marked (replicate n m) t ≡ n * cond (nat_le m t) 1 0
marked_equal n m t = sum_by-replicate (λ x. cond (nat_le x t) 1 0) n m

most_marked : (n m t : ℕ) → m ≤ t → marked (replicate n m) t ≤ n
most_marked n m t le =
    let one : ◌≡◌ {A = ℕ} (cond (nat_le m t) 1 0) 1 = grind (arith, nat_tests) in
    omega (arith, marked_equal n m t ∙ ap (λ (k : ℕ). n * k) one)

none_marked : (n m t : ℕ) → t < m → marked (replicate n m) t ≡ 0
none_marked n m t less =
    let none : ◌≡◌ {A = ℕ} (cond (nat_le m t) 1 0) 0 = grind (arith, nat_tests) in
    omega (arith, marked_equal n m t ∙ ap (λ (k : ℕ). n * k) none)

-- ---- images

map_whole : (start : TileMap) (us : List TileRec) → map_after start (take (length us) us) ≡ map_after start us
map_whole start us = ap (map_after start) (take_all (length us) us (omega arith))

-- the empty map, or that of all updates
all_or_none : (us : List TileRec) (t : ℕ) (map : TileMap) → EmptyOr (last_tiles us) map → IsAllOrNone (tiles []) us [] t map
all_or_none us t map (inl none) = record { count = 0; least = omega arith; either = inl refl; map_is = none ∙ sym tiles_empty }
all_or_none us t map (inr all) = record {
  count = length us;
  least = omega arith;
  either = inr refl;
  map_is = all ∙ sym (map_whole (tiles []) us ∙ ap (λ (m : TileMap). map_after m us) tiles_empty);
}

no_bytes : (b : List ℕ) → length b ≤ 0 → b ≡ []
no_bytes [] le = refl
no_bytes (x ∷ xs) le = absurd (omega (arith, le))

-- nothing is done
pub keeps_still : (us : List TileRec) (marks : List ℕ) (s : SessionState) (h : History) → marks ≡ [] → IsReadyToPut s (current h) → IsReadable (contents Bundle h) → BuildKeeps (tiles (contents Bundle h)) us marks h h
keeps_still us marks s h none ready readable =
    let start = tiles (contents Bundle h) in
    subst (λ (m : List ℕ). BuildKeeps start us m h h) (sym none)
    (started_at (λ t d. EachImage (IsAllOrNone start us [] t) d) h
    (still_good (IsAllOrNone start us [] h.moment) (current h) ready.quiet ready.closed readable (record { count = 0; least = omega arith; either = inl refl; map_is = refl })))

-- whatever the store answers
pub keeps_raised : (us : List TileRec) (s : SessionState) (old new : History) → s.stopped ≡ false → IsReadyToPut s (current old) → IsReadable (contents Bundle old)
    → During (λ d. s.stopped ≡ false → contents Bundle old ≡ [] → EachImage (EmptyOr (last_tiles us)) d) old new → (0 < length (contents Bundle old) → During (λ d. d ≡ current old) old new)
    → BuildKeeps (tiles (contents Bundle old)) us [] old new
keeps_raised us s old new running ready readable during beside =
    let start = tiles (contents Bundle old) in
    elim (cases_lt 0 (length (contents Bundle old))) [
      | inl some ↦ during_map_at (λ _ d. d ≡ current old) (λ t d. EachImage (IsAllOrNone start us [] t) d) old new
          (λ t d _ _ same. subst (EachImage (IsAllOrNone start us [] t)) (sym same)
          (still_good (IsAllOrNone start us [] t) (current old) ready.quiet ready.closed readable (record { count = 0; least = omega arith; either = inl refl; map_is = refl })))
          (beside some)
      | inr none ↦ (let is : contents Bundle old ≡ [] = no_bytes (contents Bundle old) none in
          during_map_at (λ _ d. s.stopped ≡ false → contents Bundle old ≡ [] → EachImage (EmptyOr (last_tiles us)) d) (λ t d. EachImage (IsAllOrNone start us [] t) d) old new
          (λ t d _ _ each. weaker (EmptyOr (last_tiles us)) (IsAllOrNone start us [] t) d
          (λ map either. subst (λ (b : List ℕ). IsAllOrNone (tiles b) us [] t map) (sym is) (all_or_none us t map either)) (each running is))
          during)
    ]

quiet : (b : List ℕ) (d : Disk) → HoldsClosed b d → IsQuiet d
quiet b d holds = record { bundle = subst IsSettled (sym holds.bundle_is) refl; journal = holds.journal }

-- once the bundle stands, each update has its mark: until then nothing has changed but the images
pub keeps_marked : (us : List TileRec) (marks : List ℕ) (old new : History) → marks ≡ replicate (length us) new.moment → IsRaised us old new
    → BuildKeeps (tiles (contents Bundle old)) us [] old new → BuildKeeps (tiles (contents Bundle old)) us marks old new
keeps_marked us marks old new is raised kept =
    let start = tiles (contents Bundle old) in
    record {
      later = kept.later;
      past = kept.past;
      each = λ t ge le. elim (cases_lt t new.moment) [
        | inl before ↦ (let none : marked marks t ≡ 0 = ap (λ (m : List ℕ). marked m t) is ∙ none_marked (length us) new.moment t before in
            weaker (IsAllOrNone start us [] t) (IsAllOrNone start us marks t) (new.disk_at t)
            (λ map some. record { count = some.count; least = omega (arith, none); either = some.either; map_is = some.map_is }) (kept.each t ge le))
        | inr at ↦ (let e : new.moment ≡ t = omega arith in
            let few : marked marks t ≤ length us = omega (arith, ap (λ (m : List ℕ). marked m t) is, most_marked (length us) new.moment t at) in
            let from : start ≡ tiles [] = ap tiles raised.empty in
            subst (λ (m : ℕ). EachImage (IsAllOrNone start us marks t) (new.disk_at m)) e
            (still_good (IsAllOrNone start us marks t) (current new) (quiet _ (current new) raised.holds) raised.holds.closed (inr raised.tiles.stands) (record {
              count = length us;
              least = few;
              either = inr refl;
              map_is = raised.tiles.tiles_are ∙ sym (map_whole start us ∙ ap (λ (m : TileMap). map_after m us) (from ∙ tiles_empty));
            })))
      ];
    }

-- whatever the store answers, but Device, the session is ready for a put
pub answers_ready : (fault : StoreFault) (P : Type 0) → UnlessDevice {X = Unit {0}} (Err fault) P → OnBuildAnswer (Err (build_stop_of fault)) P
answers_ready Device P ready = tt
answers_ready (BadBundle place found) P ready = tt
answers_ready (BadJournal place found) P ready = tt
answers_ready NoTile P ready = tt
answers_ready (Beyond entry got) P ready = tt
answers_ready (TileTooLarge at len) P ready = tt
answers_ready (EmptyTile at) P ready = tt
answers_ready (Full len) P ready = tt
answers_ready (StoreNotEmpty len) P ready = ready
answers_ready StoreMemory P ready = ready
answers_ready Stopped P ready = tt

-- a session that was running is stopped exactly where the stop is the volume's
pub answers_stops : (us : List TileRec) (fault : StoreFault) (P Q : Type 0) → EachFits us → BuildFails us fault → (fault ≡ Stopped → ⊥) → (Q → ⊥)
    → (P ↔ (Q ⊎ IsErrOf {T = Unit {0}} (Err fault) Device)) → P ↔ IsErrOf {T = Unit {0}} (Err (build_stop_of fault)) Volume
answers_stops us Device P Q fit fails running other stops = (λ p. refl, λ is. stops.1 (inr refl))
answers_stops us (BadBundle place found) P Q fit fails running other stops = absurd fails
answers_stops us (BadJournal place found) P Q fit fails running other stops = absurd fails
answers_stops us NoTile P Q fit fails running other stops = absurd fails
answers_stops us (Beyond entry got) P Q fit fails running other stops = absurd fails
answers_stops us (TileTooLarge at len) P Q fit fails running other stops = absurd (omega (arith, (fit at fails.within).1, fails.len_is, fails.large))
answers_stops us (EmptyTile at) P Q fit fails running other stops = absurd (omega (arith, (fit at fails.within).0, fails.empty))
answers_stops us (Full len) P Q fit fails running other stops = absurd fails
answers_stops us (StoreNotEmpty len) P Q fit fails running other stops = (λ p. elim (stops.0 p) [ inl q ↦ absurd (other q) | inr is ↦ absurd (let bad : ⊥ = cc in bad) ], λ is. absurd (let bad : ⊥ = cc in bad))
answers_stops us StoreMemory P Q fit fails running other stops = (λ p. elim (stops.0 p) [ inl q ↦ absurd (other q) | inr is ↦ absurd (let bad : ⊥ = cc in bad) ], λ is. absurd (let bad : ⊥ = cc in bad))
answers_stops us Stopped P Q fit fails running other stops = absurd (running refl)

-- ---- a build that the store refused

module _ (us : List TileRec) (told : Bool) (old new : History) where
  pub refused_gave : (stop : BuildStop) (same : Type 0) (held : Option (List ℕ))
      → Raises (Err stop) us told old new → same → BuildGave (Err stop) us same held held
  refused_gave Output same held raises is = absurd raises
  refused_gave Volume same held raises is = is
  refused_gave (NotEmpty len) same held raises is = is
  refused_gave OutOfMemory same held raises is = is

  pub refused_marks : (stop : BuildStop) (marks : List ℕ) (moment : ℕ)
      → Raises (Err stop) us told old new → marks ≡ [] → BuildMarks (Err stop) us marks moment
  refused_marks Output marks moment raises none = absurd raises
  refused_marks Volume marks moment raises none = none
  refused_marks (NotEmpty len) marks moment raises none = none
  refused_marks OutOfMemory marks moment raises none = none

  pub refused_reads : (stop : BuildStop) → Raises (Err stop) us told old new
      → IsTrue told → BuildReads (Err stop) us (contents Bundle old) (contents Bundle new)
  refused_reads Output raises yes_ = absurd raises
  refused_reads Volume raises yes_ = tt
  refused_reads (NotEmpty len) raises yes_ =
      let kept = raises.1 yes_ in
      (kept.len_is, kept.same)
  refused_reads OutOfMemory raises yes_ = raises yes_

  pub refused_length : (stop : BuildStop) → Raises (Err stop) us told old new
      → KeepsSomeLength (Err stop)
  refused_length Output raises = tt
  refused_length Volume raises = tt
  refused_length (NotEmpty len) raises = raises.0
  refused_length OutOfMemory raises = tt

  not_output : (stop : BuildStop) (end : BuildEnd) → end ≡ Err stop
      → Raises (Err stop) us told old new → end ≡ Err Output → ⊥
  not_output Output end is raises same = raises
  not_output Volume end is raises same = cc
  not_output (NotEmpty len) end is raises same = cc
  not_output OutOfMemory end is raises same = cc

  pub refused_output : (stop : BuildStop) (end : BuildEnd) (faults : ℕ) → end ≡ Err stop
      → Raises (Err stop) us told old new → IsCause (end ≡ Err Output) faults faults
  refused_output stop end faults is raises = record {
    counts = omega arith;
    failed = λ same. absurd (not_output stop end is raises same);
    rose = λ less. absurd (omega (arith, less));
  }
