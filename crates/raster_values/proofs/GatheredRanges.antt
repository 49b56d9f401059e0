-- The least and the greatest of values that are gathered as their distances.
use Rattle.std.proofs.Common.{[], ◌≡◌, ℕ, Bool, List, ◌∷◌, ◌+◌, ◌*◌, ◌<◌, ◌≤◌, ◌++◌, inl, inr, length, get_or, take, map, refl, sym, ap, ◌∙◌, subst, arith}
use Rattle.std.specs.Prelude.{ℤ, pos, ◌≤ℤ◌, All, Some, min, max}
use Rattle.std.specs.Int.{int_min, int_max}
use Rattle.std.proofs.lemmas.Bool.{cases_lt}
use Rattle.std.proofs.lemmas.Int.{ints, clamps}
use Rattle.std.proofs.lemmas.List.{get_or_past, map_more}
use Rattle.std.proofs.lemmas.List.Elements.{All-map}
use Rattle.lane_kernels.specs.Kernels.{IsLeast, IsGreatest}
use Rattle.lane_kernels.proofs.Bounds.{IsLeast-push, IsGreatest-push}
use Rattle.raster_cells.specs.declared.kind.PixelType.{PixelType}
use Rattle.raster_cells.specs.PixelType.{InRange}
use Rattle.raster_cells.specs.Distance.{distance_of, value_above}
use Rattle.raster_cells.specs.Runs.{AreEnds, run_places}
use Rattle.raster_cells.proofs.Distances.{stand}
use Rattle.raster_cells.proofs.ValueBits.{zero_in_range}
use Rattle.raster_values.specs.inside.Runs.{IsRange, run_values}

-- ---- the ends of distances

least_of_one : (v : ℤ) → IsLeast (v ∷ []) v
least_of_one v = ((0, omega arith, refl), λ k d below. let is : k ≡ 0 = omega arith in subst (λ (j : ℕ). v ≤ℤ get_or (v ∷ []) j d) (sym is) (let same : v ≤ℤ v = omega (arith, ints) in same))

greatest_of_one : (v : ℤ) → IsGreatest (v ∷ []) v
greatest_of_one v = ((0, omega arith, refl), λ k d below. let is : k ≡ 0 = omega arith in subst (λ (j : ℕ). get_or (v ∷ []) j d ≤ℤ v) (sym is) (let same : v ≤ℤ v = omega (arith, ints) in same))

pub ends_first : (kind : PixelType) (ds : List ℕ) → 0 < length ds → AreEnds kind (map (value_above kind) (take 1 ds)) (get_or ds 0 0) (get_or ds 0 0)
ends_first kind [] some = absurd (omega (arith, some))
ends_first kind (d ∷ ds) some = record { least = least_of_one (value_above kind d); greatest = greatest_of_one (value_above kind d) }

above_least : (kind : PixelType) (m n : ℕ) → value_above kind (min m n) ≡ int_min (value_above kind m) (value_above kind n)
above_least kind m n = omega (arith, ints, clamps)

above_greatest : (kind : PixelType) (m n : ℕ) → value_above kind (max m n) ≡ int_max (value_above kind m) (value_above kind n)
above_greatest kind m n = omega (arith, ints, clamps)

pub ends_next : (kind : PixelType) (ds : List ℕ) (i near far low high : ℕ) → i < length ds → low ≡ min near (get_or ds i 0) → high ≡ max far (get_or ds i 0)
    → AreEnds kind (map (value_above kind) (take i ds)) near far → AreEnds kind (map (value_above kind) (take (i + 1) ds)) low high
ends_next kind ds i near far low high lt is_low is_high h =
    let here = get_or ds i 0 in
    let xs = map (value_above kind) (take i ds) in
    let more : map (value_above kind) (take (i + 1) ds) ≡ xs ++ value_above kind here ∷ [] = map_more (value_above kind) ds i 0 lt in
    record {
      least = subst (λ l. IsLeast l (value_above kind low)) (sym more)
          (subst (IsLeast (xs ++ value_above kind here ∷ [])) (sym (ap (value_above kind) is_low ∙ above_least kind near here)) (IsLeast-push xs (value_above kind near) (value_above kind here) h.least));
      greatest = subst (λ l. IsGreatest l (value_above kind high)) (sym more)
          (subst (IsGreatest (xs ++ value_above kind here ∷ [])) (sym (ap (value_above kind) is_high ∙ above_greatest kind far here)) (IsGreatest-push xs (value_above kind far) (value_above kind here) h.greatest));
    }

-- ---- values that are gathered

value_or : (kind : PixelType) (values : List ℤ) (k : ℕ) → All (InRange kind) values → InRange kind (get_or values k (pos 0))
value_or kind values k fits = elim (cases_lt k (length values)) [
  | inl lt ↦ fits k (pos 0) lt
  | inr ge ↦ subst (InRange kind) (sym (get_or_past values k (pos 0) ge)) (zero_in_range kind)
]

pub run_fits : (kind : PixelType) (depth d : ℕ) (marks : List Bool) (values : List ℤ) (from count : ℕ) → All (InRange kind) values → All (InRange kind) (run_values depth d marks values from count)
run_fits kind depth d marks values from count fits =
    All-map (InRange kind) (λ k. get_or values (k * depth + d) (pos 0)) (run_places marks from count) (λ i j lt. value_or kind values (get_or (run_places marks from count) i j * depth + d) fits)

-- the distances, as values again
pub values_back : (kind own : PixelType) (vs : List ℤ) (ds : List ℕ) → kind ≡ own → All (InRange own) vs → ds ≡ map (distance_of own) vs → map (value_above kind) ds ≡ vs
values_back kind own vs ds same fits are = ap (map (value_above kind)) are ∙ ap (λ (k : PixelType). map (value_above k) (map (distance_of own) vs)) same ∙ stand own vs fits

pub no_values : (g : ℤ → ℕ) (vs : List ℤ) → length (map g vs) ≡ 0 → vs ≡ []
no_values g [] e = refl
no_values g (v ∷ vs) e = absurd (omega (arith, e))
