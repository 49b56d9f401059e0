-- Runs gathered one behind the other.
use Rattle.std.proofs.Common.{[], ℕ, List, take, refl, sym, arith, append-nil, ◌≡◌, ◌∷◌, length, ◌+◌, ◌*◌, Bool, get_or, map, subst, ap, ◌∙◌, ◌≤◌}
use Rattle.std.specs.Prelude.{ℤ, pos}
use Rattle.std.proofs.lemmas.List.{map-append, length-map}
use Rattle.raster_cells.specs.Runs.{run_places}
use Rattle.raster_values.specs.inside.Runs.{Gathers, run_values}
use Rattle.raster_values.proofs.ScatteredWords.{values_join}
use Rattle.raster_values.proofs.RunSteps.{gathers_join, length_places, length_values}

nothing : {X : Type 0} (out : List X) (at : ℕ) → Gathers [] out out at at
nothing out at = record { ends = omega arith; front = sym (append-nil (take at out)); rest = refl }

no_list : (xs : List ℕ) → length xs ≡ 0 → xs ≡ []
no_list [] e = refl
no_list (x ∷ xs) e = absurd (omega (arith, e))

-- no pixel is marked
pub none_gathered : (g : ℤ → ℕ) (depth d : ℕ) (marks : List Bool) (values : List ℤ) (from count : ℕ) (out : List ℕ) (at : ℕ) → length (run_places marks from count) ≡ 0
    → Gathers (map g (run_values depth d marks values from count)) out out at at
none_gathered g depth d marks values from count out at none =
    subst (λ ks. Gathers (map g (map (λ k. get_or values (k * depth + d) (pos 0)) ks)) out out at at) (sym (no_list (run_places marks from count) none)) (nothing out at)

-- one run behind another
pub gathered_more : (g : ℤ → ℕ) (depth d : ℕ) (marks : List Bool) (values : List ℤ) (old mid new : List ℕ) (from k more at n end : ℕ)
    → Gathers (map g (run_values depth d marks values from k)) old mid at n → Gathers (map g (run_values depth d marks values (from + k) more)) mid new n end
    → Gathers (map g (run_values depth d marks values from (k + more))) old new at end
gathered_more g depth d marks values old mid new from k more at n end before here =
    subst (λ vs. Gathers vs old new at end) (sym (ap (map g) (values_join depth d marks values from k more) ∙ map-append g (run_values depth d marks values from k) (run_values depth d marks values (from + k) more)))
    (gathers_join (map g (run_values depth d marks values from k)) (map g (run_values depth d marks values (from + k) more)) old mid new at n end before here)

-- a run takes no more room than it has pixels
pub gathered_within : (g : ℤ → ℕ) (depth d : ℕ) (marks : List Bool) (values : List ℤ) (old new : List ℕ) (from k at n : ℕ) → Gathers (map g (run_values depth d marks values from k)) old new at n → n ≤ at + k
gathered_within g depth d marks values old new from k at n h =
    omega (arith, h.ends, length-map (run_values depth d marks values from k) g, length_values depth d marks values from k, length_places marks from k)
