-- The least and the greatest of values gathered piece by piece.
use Rattle.std.proofs.Common.{[], ◌≡◌, ℕ, ◌+◌, ◌∷◌, ◌++◌, map, ap, ◌∙◌, sym, subst, get_or, refl, arith}
use Rattle.std.specs.Prelude.{ℤ, ◌≤ℤ◌}
use Rattle.std.specs.List.{range_with_len}
use Rattle.std.proofs.lemmas.List.{map-append}
use Rattle.std.specs.Int.{int_min, int_max}
use Rattle.std.proofs.lemmas.Int.{ints}
use Rattle.lane_kernels.specs.Kernels.{IsLeast, IsGreatest}
use Rattle.lane_kernels.proofs.Bounds.{IsLeast-push, IsGreatest-push}
use Rattle.raster_cells.proofs.RunSteps.{range_more}

-- ---- one value more

pub range_more_values : (f : ℕ → ℤ) (first i : ℕ) → map f (range_with_len first (i + 1)) ≡ map f (range_with_len first i) ++ f (first + i) ∷ []
range_more_values f first i = ap (map f) (range_more first i) ∙ map-append f (range_with_len first i) ((first + i) ∷ [])

pub least_pushed : (f : ℕ → ℤ) (first i : ℕ) (a m v : ℤ) → m ≡ int_min a v → v ≡ f (first + i) → IsLeast (map f (range_with_len first i)) a → IsLeast (map f (range_with_len first (i + 1))) m
least_pushed f first i a m v is at h =
    subst (λ xs. IsLeast xs m) (sym (range_more_values f first i))
    (subst (IsLeast (map f (range_with_len first i) ++ f (first + i) ∷ [])) (sym (is ∙ ap (int_min a) at)) (IsLeast-push (map f (range_with_len first i)) a (f (first + i)) h))

pub greatest_pushed : (f : ℕ → ℤ) (first i : ℕ) (b n v : ℤ) → n ≡ int_max b v → v ≡ f (first + i) → IsGreatest (map f (range_with_len first i)) b → IsGreatest (map f (range_with_len first (i + 1))) n
greatest_pushed f first i b n v is at h =
    subst (λ xs. IsGreatest xs n) (sym (range_more_values f first i))
    (subst (IsGreatest (map f (range_with_len first i) ++ f (first + i) ∷ [])) (sym (is ∙ ap (int_max b) at)) (IsGreatest-push (map f (range_with_len first i)) b (f (first + i)) h))

pub least_of_one : (v : ℤ) → IsLeast (v ∷ []) v
least_of_one v = ((0, omega arith, refl), λ k d below. let is : k ≡ 0 = omega arith in subst (λ (j : ℕ). v ≤ℤ get_or (v ∷ []) j d) (sym is) (let same : v ≤ℤ v = omega (arith, ints) in same))

pub greatest_of_one : (v : ℤ) → IsGreatest (v ∷ []) v
greatest_of_one v = ((0, omega arith, refl), λ k d below. let is : k ≡ 0 = omega arith in subst (λ (j : ℕ). get_or (v ∷ []) j d ≤ℤ v) (sym is) (let same : v ≤ℤ v = omega (arith, ints) in same))
