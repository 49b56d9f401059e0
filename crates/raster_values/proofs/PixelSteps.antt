-- The loops over the values of pixels and over runs of marked ones.
use Rattle.std.proofs.Common.{[], ◌≡◌, ℕ, ◌+◌, ◌<◌, ◌≤◌, zero, suc, Bool, false, cond, ◌∷◌, refl, ap, ◌∙◌, arith, true, ◌-◌, List, ◌++◌, get_or, length, length-append, ◌*◌, map, take, drop, sym, append_assoc}
use Rattle.std.specs.List.{filter, range_with_len}
use Rattle.std.proofs.lemmas.List.Elements.{filter-append}
use Rattle.std.proofs.lemmas.List.FromFn.{length-range_with_len, get_or-map-range_with_len, length-map-range_with_len}
use Rattle.std.specs.Prelude.{ℤ, pos}
use Rattle.std.proofs.lemmas.List.{map-append, length-take-le, take_at, drop_at, drop-drop, length-drop, ext_get_or}
use Rattle.std.proofs.Math.Seq.{take-add}
use borrow.Rule.Slice.PartMut.{put_mid}
use Rattle.raster_cells.specs.Runs.{run_places}
use Rattle.raster_values.specs.inside.Runs.{Gathers, run_values, LeavesRun}
use Rattle.raster_cells.specs.MarkRuns.{AreRuns}
use Rattle.raster_cells.proofs.MaskCounts.{range_join}
use Rattle.raster_cells.specs.Ordered.{PutsPixels}
use Rattle.raster_values.proofs.RunSteps.{run_same}

-- ---- run by run

filter_none : (p : ℕ → Bool) (a n : ℕ) → ((k : ℕ) → a ≤ k → k < a + n → p k ≡ false) → filter p (range_with_len a n) ≡ []
filter_none p a zero h = refl
filter_none p a (suc n) h =
    ap (λ t. cond t (a ∷ filter p (range_with_len (a + 1) n)) (filter p (range_with_len (a + 1) n))) (h a (omega arith) (omega arith)) ∙ filter_none p (a + 1) n (λ k low high. h k (omega arith) (omega arith))

pub filter_all : (p : ℕ → Bool) (a n : ℕ) → ((k : ℕ) → a ≤ k → k < a + n → p k ≡ true) → filter p (range_with_len a n) ≡ range_with_len a n
filter_all p a zero h = refl
filter_all p a (suc n) h =
    ap (λ t. cond t (a ∷ filter p (range_with_len (a + 1) n)) (filter p (range_with_len (a + 1) n))) (h a (omega arith) (omega arith)) ∙ ap (λ ks. a ∷ ks) (filter_all p (a + 1) n (λ k low high. h k (omega arith) (omega arith)))

-- the marked pixels up to the end of a run are those before it and all of the run
pub places_run : (marks : List Bool) (from k start stop : ℕ) → from ≤ k → AreRuns marks k start stop → run_places marks from (stop - from) ≡ run_places marks from (k - from) ++ range_with_len start (stop - start)
places_run marks from k start stop low runs =
    let p : ℕ → Bool = λ j. get_or marks j false in
    let one : from + (k - from) ≡ k = omega arith in
    let two : k + (start - k) ≡ start = omega (arith, runs.first) in
    let whole : stop - from ≡ (k - from) + ((start - k) + (stop - start)) = omega (arith, runs.first, runs.second) in
    let rest : filter p (range_with_len k ((start - k) + (stop - start))) ≡ range_with_len start (stop - start) =
    ap (filter p) (range_join k (start - k) (stop - start) ∙ ap (λ j. range_with_len k (start - k) ++ range_with_len j (stop - start)) two)
    ∙ filter-append p (range_with_len k (start - k)) (range_with_len start (stop - start))
    ∙ ap (λ ks. ks ++ filter p (range_with_len start (stop - start))) (filter_none p k (start - k) (λ j lo hi. runs.off j lo (omega arith)))
    ∙ filter_all p start (stop - start) (λ j lo hi. runs.on j lo (omega (arith, runs.second))) in
    ap (λ n. filter p (range_with_len from n)) whole
    ∙ ap (filter p) (range_join from (k - from) ((start - k) + (stop - start)) ∙ ap (λ j. range_with_len from (k - from) ++ range_with_len j ((start - k) + (stop - start))) one)
    ∙ filter-append p (range_with_len from (k - from)) (range_with_len k ((start - k) + (stop - start)))
    ∙ ap (λ ks. run_places marks from (k - from) ++ ks) rest

pub places_longer : (marks : List Bool) (from k start stop : ℕ) → from ≤ k → AreRuns marks k start stop → length (run_places marks from (stop - from)) ≡ length (run_places marks from (k - from)) + (stop - start)
places_longer marks from k start stop low runs =
    ap length (places_run marks from k start stop low runs) ∙ length-append (run_places marks from (k - from)) (range_with_len start (stop - start))
    ∙ ap (λ n. length (run_places marks from (k - from)) + n) (length-range_with_len start (stop - start))

pub values_run : (depth d : ℕ) (marks : List Bool) (vs : List ℤ) (from k start stop : ℕ) → from ≤ k → AreRuns marks k start stop
    → run_values depth d marks vs from (stop - from) ≡ run_values depth d marks vs from (k - from) ++ map (λ j. get_or vs (j * depth + d) (pos 0)) (range_with_len start (stop - start))
values_run depth d marks vs from k start stop low runs =
    let f : ℕ → ℤ = λ j. get_or vs (j * depth + d) (pos 0) in
    ap (map f) (places_run marks from k start stop low runs) ∙ map-append f (run_places marks from (k - from)) (range_with_len start (stop - start))

-- a piece laid over others
pub gathers_piece : {X : Type 0} (piece old : List X) (n next : ℕ) → next ≡ n + length piece → next ≤ length old → Gathers piece old (put_mid n (next - n) old piece) n next
gathers_piece piece old n next is within =
    let front : length (take n old) ≡ n = length-take-le n old (omega arith) in
    let both : length (take n old ++ piece) ≡ next = length-append (take n old) piece ∙ omega arith in
    let back : drop (next - n) (drop n old) ≡ drop next old = drop-drop (next - n) n old ∙ ap (λ j. drop j old) (let e : n + (next - n) ≡ next = omega arith in e) in
    let joined : put_mid n (next - n) old piece ≡ (take n old ++ piece) ++ drop next old = ap (λ t. take n old ++ (piece ++ t)) back ∙ sym (append_assoc (take n old) piece (drop next old)) in
    record {
      ends = is;
      front = ap (take next) joined ∙ take_at (take n old ++ piece) (drop next old) next both;
      rest = ap (drop next) joined ∙ drop_at (take n old ++ piece) (drop next old) next both;
    }

-- values scattered over a run
pub scatter_piece : (depth d : ℕ) (marks : List Bool) (input piece old new : List ℤ) (from k start stop at n next : ℕ) → d < depth → from ≤ k → AreRuns marks k start stop
    → next ≡ n + (stop - start) → next ≤ length input → piece ≡ take (stop - start) (drop n input) → PutsPixels depth d start (length piece) piece old new
    → take at input ++ run_values depth d marks old from (k - from) ≡ take n input
    → take at input ++ run_values depth d marks new from (stop - from) ≡ take next input
scatter_piece depth d marks input piece old new from k start stop at n next below low runs is within cut puts before =
    let f : ℕ → ℤ = λ j. get_or new (j * depth + d) (pos 0) in
    let m = stop - start in
    let long : length piece ≡ m = ap length cut ∙ length-take-le m (drop n input) (omega (arith, length-drop n input)) in
    let run : map f (range_with_len start m) ≡ piece =
    ext_get_or (pos 0) (map f (range_with_len start m)) piece (length-map-range_with_len f start m ∙ sym long) (λ i less.
    let small : i < m = omega (arith, length-map-range_with_len f start m) in
    get_or-map-range_with_len f start m i (start + i) (pos 0) small refl ∙ puts.put i (omega (arith, long))) in
    let kept : run_values depth d marks new from (k - from) ≡ run_values depth d marks old from (k - from) =
    run_same depth d marks old new from (k - from) (λ j lo hi. puts.rest j d below (λ first last _. absurd (let no : ⊥ = omega (arith, runs.first) in no))) in
    ap (λ vs. take at input ++ vs) (values_run depth d marks new from k start stop low runs ∙ ap (λ vs. vs ++ map f (range_with_len start m)) kept)
    ∙ sym (append_assoc (take at input) (run_values depth d marks old from (k - from)) (map f (range_with_len start m)))
    ∙ ap (λ vs. vs ++ map f (range_with_len start m)) before
    ∙ ap (λ vs. take n input ++ vs) (run ∙ cut)
    ∙ sym (ap (λ j. take j input) is ∙ take-add n m input)

pub leaves_piece : (depth d : ℕ) (marks : List Bool) (piece first old new : List ℤ) (from k start stop : ℕ) → from ≤ k → AreRuns marks k start stop → length piece ≡ stop - start
    → PutsPixels depth d start (length piece) piece old new → LeavesRun depth d marks from (k - from) first old → LeavesRun depth d marks from (stop - from) first new
leaves_piece depth d marks piece first old new from k start stop low runs long puts h = record {
  rest = λ j e less out.
      puts.rest j e less (λ lo hi is. out (omega (arith, runs.first)) (omega (arith, long, runs.first, runs.second)) (runs.on j lo (omega (arith, long, runs.second))) is)
      ∙ h.rest j e less (λ lo hi valid is. out lo (omega (arith, runs.first, runs.second)) valid is);
}
