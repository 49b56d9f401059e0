-- Runs scattered one behind another, pixel by pixel where only some are marked.
use Rattle.std.proofs.Common.{ℕ, Bool, List, take, refl, arith, append-nil, ◌≡◌, ◌+◌, ◌-◌, ◌<◌, ◌≤◌, ◌++◌, length, drop, sym, ap, ◌∙◌, subst, false, get_or, true, cond, ◌*◌, set, map, append_assoc, length-append}
use Rattle.std.specs.Prelude.{ℤ, pos}
use Rattle.std.proofs.lemmas.List.{length-take-le, length-drop, get_or-set_same, get_or-set_other, get_or-take, get_or-drop, map-append}
use Rattle.std.proofs.lemmas.Nat.{same_from_place}
use Rattle.std.specs.List.{filter, range_with_len}
use Rattle.std.proofs.lemmas.List.Elements.{filter-append}
use Rattle.raster_cells.specs.Runs.{run_places}
use Rattle.raster_cells.specs.MarkRuns.{AreRuns}
use Rattle.raster_cells.specs.Ordered.{PutsPixels}
use Rattle.raster_cells.proofs.MaskCounts.{all_count, range_join}
use Rattle.raster_values.specs.inside.Runs.{ScattersRun, run_values, LeavesRun}
use Rattle.raster_values.proofs.PixelSteps.{places_longer, scatter_piece, leaves_piece}
use Rattle.raster_values.proofs.MixedRuns.{places_next}
use Rattle.raster_values.proofs.RunSteps.{places_rise, run_same}

-- ---- a run of marked pixels more

pub scatters_none : (depth d : ℕ) (marks : List Bool) (input old : List ℤ) (from at : ℕ) → ScattersRun depth d marks input old old from 0 at at
scatters_none depth d marks input old from at = record {
  ends = omega arith;
  scattered = append-nil (take at input);
  rest = record { rest = λ k e less out. refl };
}

pub scatters_more : (depth d : ℕ) (marks : List Bool) (input first old new : List ℤ) (from i start stop at n next : ℕ) → d < depth → AreRuns marks (from + i) start stop → next ≡ n + (stop - start) → next ≤ length input
    → PutsPixels depth d start (stop - start) (take (stop - start) (drop n input)) old new → ScattersRun depth d marks input first old from i at n → ScattersRun depth d marks input first new from (stop - from) at next
scatters_more depth d marks input first old new from i start stop at n next below runs is within puts h =
    let piece = take (stop - start) (drop n input) in
    let low : from ≤ from + i = omega arith in
    let same : from + i - from ≡ i = omega arith in
    let long : length piece ≡ stop - start = length-take-le (stop - start) (drop n input) (omega (arith, length-drop n input)) in
    let put : PutsPixels depth d start (length piece) piece old new = subst (λ m. PutsPixels depth d start m piece old new) (sym long) puts in
    record {
      ends = omega (arith, places_longer marks from (from + i) start stop low runs, ap (λ m. length (run_places marks from m)) same, h.ends);
      scattered = scatter_piece depth d marks input piece old new from (from + i) start stop at n next below low runs is within refl put (ap (λ m. take at input ++ run_values depth d marks old from m) same ∙ h.scattered);
      rest = leaves_piece depth d marks piece first old new from (from + i) start stop low runs long put (subst (λ m. LeavesRun depth d marks from m first old) (sym same) h.rest);
    }

-- ---- pixels of one mark

pub scatters_unmarked : (depth d : ℕ) (marks : List Bool) (input old : List ℤ) (from count at : ℕ) → d < depth → from + count ≤ length marks → at ≤ length input → ((k : ℕ) → from ≤ k → k < from + count → get_or marks k false ≡ false)
    → ScattersRun depth d marks input old old from count at at
scatters_unmarked depth d marks input old from count at below within room off =
    let stop = from + count in
    subst (λ m. ScattersRun depth d marks input old old from m at at) (let e : stop - from ≡ count = omega arith in e)
    (scatters_more depth d marks input old old old from 0 stop stop at at at below
    (record { first = omega arith; second = omega arith; within = within; off = λ k lo hi. off k (omega arith) hi; on = λ k lo hi. absurd (let no : ⊥ = omega arith in no) }) (omega arith) room
    (record { put = λ i less. absurd (let no : ⊥ = omega arith in no); rest = λ k e less out. refl }) (scatters_none depth d marks input old from at))

pub scatters_marked : (depth d : ℕ) (marks : List Bool) (input old new : List ℤ) (from count at : ℕ) → d < depth → from + count ≤ length marks → at + count ≤ length input → ((k : ℕ) → from ≤ k → k < from + count → get_or marks k false ≡ true)
    → PutsPixels depth d from count (take count (drop at input)) old new → ScattersRun depth d marks input old new from count at (at + count)
scatters_marked depth d marks input old new from count at below within room on puts =
    let stop = from + count in
    let size : stop - from ≡ count = omega arith in
    subst (λ m. ScattersRun depth d marks input old new from m at (at + count)) size
    (scatters_more depth d marks input old old new from 0 from stop at at (at + count) below
    (record { first = omega arith; second = omega arith; within = within; off = λ k lo hi. absurd (let no : ⊥ = omega arith in no); on = on }) (omega arith) room
    (subst (λ m. PutsPixels depth d from m (take m (drop at input)) old new) (sym size) puts) (scatters_none depth d marks input old from at))

-- there are as many values as marked pixels
pub marked_room : (marks : List Bool) (from count at size : ℕ) → ((k : ℕ) → from ≤ k → k < from + count → get_or marks k false ≡ true) → at + length (run_places marks from count) ≤ size → at + count ≤ size
marked_room marks from count at size on room = omega (arith, all_count (λ k. get_or marks k false) from count on)

-- ---- one pixel

-- a value is left for a marked pixel
pub next_room : (marks : List Bool) (from i count at n size : ℕ) → get_or marks (from + i) false ≡ true → i < count → n ≡ at + length (run_places marks from i) → at + length (run_places marks from count) ≤ size → n < size
next_room marks from i count at n size on less is room =
    let rest : i + 1 + (count - i - 1) ≡ count = omega arith in
    let rise : length (run_places marks from (i + 1)) ≤ length (run_places marks from count) = subst (λ m. length (run_places marks from (i + 1)) ≤ length (run_places marks from m)) rest (places_rise marks from (i + 1) (count - i - 1)) in
    omega (arith, rise, places_next marks from i true on)

pub at_room : (marks : List Bool) (from i count at n size : ℕ) → i ≤ count → n ≡ at + length (run_places marks from i) → at + length (run_places marks from count) ≤ size → n ≤ size
at_room marks from i count at n size less is room =
    let rise : length (run_places marks from i) ≤ length (run_places marks from count) = subst (λ m. length (run_places marks from i) ≤ length (run_places marks from m)) (let e : i + (count - i) ≡ count = omega arith in e) (places_rise marks from i (count - i)) in
    omega (arith, rise)

pub next_fits : (marks : List Bool) (from i count at n bit size : ℕ) → i < count → n ≡ at + length (run_places marks from i) → bit ≡ cond (get_or marks (from + i) false) 1 0 → at + length (run_places marks from count) ≤ size → n + bit ≤ size
next_fits marks from i count at n bit size less is b room =
    at_room marks from (i + 1) count at (n + bit) size (omega arith) (omega (arith, is, b, places_next marks from i (get_or marks (from + i) false) refl)) room

pub scatters_pixel : (depth d : ℕ) (marks : List Bool) (input first old new : List ℤ) (from i at n next : ℕ) (b : Bool) → get_or marks (from + i) false ≡ b → d < depth → from + i < length marks → (from + i) * depth + d < length old
    → n ≤ length input → (b ≡ true → n < length input) → new ≡ cond b (set old ((from + i) * depth + d) (get_or input n (pos 0))) old → next ≡ n + cond b 1 0
    → ScattersRun depth d marks input first old from i at n → ScattersRun depth d marks input first new from (i + 1) at next
scatters_pixel depth d marks input first old new from i at n next true mark below within inside fits some is end h =
    let start = from + i in
    let stop = from + i + 1 in
    let place = start * depth + d in
    let x = get_or input n (pos 0) in
    let size : stop - start ≡ 1 = omega arith in
    let puts : PutsPixels depth d start (stop - start) (take (stop - start) (drop n input)) old new = record {
      put = λ j less.
          let none : j ≡ 0 = omega arith in
          ap (λ k. get_or new ((start + k) * depth + d) (pos 0)) none ∙ ap (λ k. get_or new (k * depth + d) (pos 0)) (let e : start + 0 ≡ start = omega arith in e)
          ∙ ap (λ xs. get_or xs place (pos 0)) is ∙ get_or-set_same old place x (pos 0) inside
          ∙ sym (get_or-take (stop - start) (drop n input) j (pos 0) less ∙ get_or-drop n input j (pos 0) ∙ ap (λ k. get_or input k (pos 0)) (let e : n + j ≡ n = omega arith in e));
      rest = λ k e less out.
          ap (λ xs. get_or xs (k * depth + e) (pos 0)) is ∙ get_or-set_other old place (k * depth + e) x (pos 0)
          (λ same. let here = same_from_place k e start d depth less below same in let row : k ≡ start = here.0 in out (omega arith) (omega arith) here.1);
    } in
    subst (λ m. ScattersRun depth d marks input first new from m at next) (let e : stop - from ≡ i + 1 = omega arith in e)
    (scatters_more depth d marks input first old new from i start stop at n next below
    (record { first = omega arith; second = omega arith; within = omega arith; off = λ k lo hi. absurd (let no : ⊥ = omega arith in no); on = λ k lo hi. ap (λ j. get_or marks j false) (let e : k ≡ from + i = omega arith in e) ∙ mark })
    (omega arith) (let more = some refl in omega (arith, more)) puts h)
scatters_pixel depth d marks input first old new from i at n next false mark below within inside fits some is end h =
    let stop = from + i + 1 in
    let puts : PutsPixels depth d stop (stop - stop) (take (stop - stop) (drop n input)) old new = record {
      put = λ j less. absurd (let no : ⊥ = omega arith in no);
      rest = λ k e less out. ap (λ xs. get_or xs (k * depth + e) (pos 0)) is;
    } in
    subst (λ m. ScattersRun depth d marks input first new from m at next) (let e : stop - from ≡ i + 1 = omega arith in e)
    (scatters_more depth d marks input first old new from i stop stop at n next below
    (record { first = omega arith; second = omega arith; within = omega arith; off = λ k lo hi. ap (λ j. get_or marks j false) (let e : k ≡ from + i = omega arith in e) ∙ mark; on = λ k lo hi. absurd (let no : ⊥ = omega arith in no) })
    (omega arith) (omega arith) puts h)

-- ---- one run behind another

pub places_join : (marks : List Bool) (from a b : ℕ) → run_places marks from (a + b) ≡ run_places marks from a ++ run_places marks (from + a) b
places_join marks from a b = ap (filter (λ k. get_or marks k false)) (range_join from a b) ∙ filter-append (λ k. get_or marks k false) (range_with_len from a) (range_with_len (from + a) b)

pub values_join : (depth d : ℕ) (marks : List Bool) (vs : List ℤ) (from a b : ℕ) → run_values depth d marks vs from (a + b) ≡ run_values depth d marks vs from a ++ run_values depth d marks vs (from + a) b
values_join depth d marks vs from a b =
    let f : ℕ → ℤ = λ j. get_or vs (j * depth + d) (pos 0) in
    ap (map f) (places_join marks from a b) ∙ map-append f (run_places marks from a) (run_places marks (from + a) b)

pub scatters_join : (depth d : ℕ) (marks : List Bool) (input first mid new : List ℤ) (from a b at n next : ℕ) → d < depth → ScattersRun depth d marks input first mid from a at n → ScattersRun depth d marks input mid new (from + a) b n next
    → ScattersRun depth d marks input first new from (a + b) at next
scatters_join depth d marks input first mid new from a b at n next below g h =
    let same : run_values depth d marks new from a ≡ run_values depth d marks mid from a =
    run_same depth d marks mid new from a (λ k lo hi. h.rest.rest k d below (λ after _ _ _. absurd (let no : ⊥ = omega arith in no))) in
    let here = run_values depth d marks new (from + a) b in
    record {
      ends = omega (arith, g.ends, h.ends, ap length (places_join marks from a b), length-append (run_places marks from a) (run_places marks (from + a) b));
      scattered = ap (λ vs. take at input ++ vs) (values_join depth d marks new from a b ∙ ap (λ vs. vs ++ here) same)
          ∙ sym (append_assoc (take at input) (run_values depth d marks mid from a) here) ∙ ap (λ vs. vs ++ here) g.scattered ∙ h.scattered;
      rest = record {
        rest = λ k e less out.
            h.rest.rest k e less (λ lo hi valid is. out (omega arith) (omega arith) valid is)
            ∙ g.rest.rest k e less (λ lo hi valid is. out lo (omega arith) valid is);
      };
    }

-- there is room for a piece where there is room for all
pub piece_room : (marks : List Bool) (from count at size k more n : ℕ) → from ≤ k → k + more ≤ from + count → n ≡ at + length (run_places marks from (k - from)) → at + length (run_places marks from count) ≤ size → n + length (run_places marks k more) ≤ size
piece_room marks from count at size k more n low within is room =
    let place : from + (k - from) ≡ k = omega arith in
    let both : length (run_places marks from (k - from + more)) ≡ length (run_places marks from (k - from)) + length (run_places marks k more) =
    ap length (places_join marks from (k - from) more) ∙ length-append (run_places marks from (k - from)) (run_places marks (from + (k - from)) more) ∙ ap (λ m. length (run_places marks from (k - from)) + length (run_places marks m more)) place in
    let rise : length (run_places marks from (k - from + more)) ≤ length (run_places marks from count) =
    subst (λ m. length (run_places marks from (k - from + more)) ≤ length (run_places marks from m)) (let e : k - from + more + (count - (k - from + more)) ≡ count = omega arith in e) (places_rise marks from (k - from + more) (count - (k - from + more))) in
    omega (arith, both, rise, is, room)
