-- The loops over runs of pixels.
use Rattle.std.proofs.Common.{[], ◌≡◌, ℕ, ◌+◌, Bool, false, cond, List, ◌∷◌, ◌++◌, get_or, ap, ◌∙◌, ◌≤◌, zero, suc, true, length, arith, length-append, sym, subst, take, drop, append_assoc, ◌*◌, ◌<◌}
use Rattle.std.specs.List.{filter, range_with_len}
use Rattle.std.proofs.lemmas.List.Elements.{filter-append}
use Rattle.std.proofs.lemmas.List.{drop-drop, length-map}
use Rattle.std.specs.Prelude.{ℤ, pos}
use Rattle.raster_cells.specs.Runs.{run_places}
use Rattle.raster_values.specs.inside.Runs.{Gathers, run_values}
use Rattle.raster_cells.proofs.RunSteps.{range_more}
use Rattle.raster_cells.proofs.Every.{every_filter, every_range, same_map}

-- ---- one more pixel

pub places_more : (marks : List Bool) (from n : ℕ) → run_places marks from (n + 1) ≡ run_places marks from n ++ cond (get_or marks (from + n) false) ((from + n) ∷ []) []
places_more marks from n = ap (filter (λ k. get_or marks k false)) (range_more from n) ∙ filter-append (λ k. get_or marks k false) (range_with_len from n) ((from + n) ∷ [])

pub length_places : (marks : List Bool) (from n : ℕ) → length (run_places marks from n) ≤ n
length_places marks from zero = omega arith
length_places marks from (suc n) =
    elim (get_or marks from false) as (λ b. length (cond b (from ∷ run_places marks (from + 1) n) (run_places marks (from + 1) n)) ≤ suc n) [
      | true ↦ omega (arith, length_places marks (from + 1) n)
      | false ↦ omega (arith, length_places marks (from + 1) n)
    ]

pub places_up : (marks : List Bool) (from n : ℕ) → length (run_places marks from n) ≤ length (run_places marks from (n + 1))
places_up marks from n = omega (arith, ap length (places_more marks from n), length-append (run_places marks from n) (cond (get_or marks (from + n) false) ((from + n) ∷ []) []))

pub places_rise : (marks : List Bool) (from n more : ℕ) → length (run_places marks from n) ≤ length (run_places marks from (n + more))
places_rise marks from n zero = subst (λ m. length (run_places marks from n) ≤ length (run_places marks from m)) (let e : n ≡ n + 0 = omega arith in e) (let same : length (run_places marks from n) ≤ length (run_places marks from n) = omega arith in same)
places_rise marks from n (suc more) =
    let e : n + suc more ≡ n + more + 1 = omega arith in
    let up : length (run_places marks from n) ≤ length (run_places marks from (n + more + 1)) = omega (arith, places_rise marks from n more, places_up marks from (n + more)) in
    subst (λ m. length (run_places marks from n) ≤ length (run_places marks from m)) (sym e) up

-- ---- gathered values

pub gathers_join : {X : Type 0} (values more old mid new : List X) (at n end : ℕ) → Gathers values old mid at n → Gathers more mid new n end → Gathers (values ++ more) old new at end
gathers_join values more old mid new at n end g h = record {
  ends = omega (arith, g.ends, h.ends, length-append values more);
  front = h.front ∙ ap (λ t. t ++ more) g.front ∙ append_assoc (take at old) values more;
  rest = h.rest ∙ (let e : n + length more ≡ end = omega (arith, h.ends) in
      ap (λ m. drop m mid) (sym e) ∙ sym (drop-drop (length more) n mid) ∙ ap (drop (length more)) g.rest ∙ drop-drop (length more) n old ∙ ap (λ m. drop m old) e);
}

-- ---- scattered values

-- values that agree at the places of a run give the same
pub run_same : (depth d : ℕ) (marks : List Bool) (old new : List ℤ) (from n : ℕ)
    → ((k : ℕ) → from ≤ k → k < from + n → get_or new (k * depth + d) (pos 0) ≡ get_or old (k * depth + d) (pos 0))
    → run_values depth d marks new from n ≡ run_values depth d marks old from n
run_same depth d marks old new from n each =
    same_map (λ k. get_or new (k * depth + d) (pos 0)) (λ k. get_or old (k * depth + d) (pos 0)) (run_places marks from n)
    (every_filter (λ k. get_or new (k * depth + d) (pos 0) ≡ get_or old (k * depth + d) (pos 0)) (λ k. get_or marks k false) (range_with_len from n)
    (every_range (λ k. get_or marks k false ≡ true → get_or new (k * depth + d) (pos 0) ≡ get_or old (k * depth + d) (pos 0)) from n (λ k lo hi _. each k lo hi)))

pub length_values : (depth d : ℕ) (marks : List Bool) (values : List ℤ) (from n : ℕ) → length (run_values depth d marks values from n) ≡ length (run_places marks from n)
length_values depth d marks values from n = length-map (run_places marks from n) (λ k. get_or values (k * depth + d) (pos 0))
