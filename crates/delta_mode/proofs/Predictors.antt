-- Predictors, and the symbols of pixels in order.
use Rattle.std.proofs.Common.{◌≡◌, ℕ, zero, suc, ℤ, pos, ◌+◌, ◌-◌, ◌%◌, ◌<◌, ◌≤◌, Bool, true, false, cond, nat_lt, nat_le, List, [], ◌∷◌, ◌++◌, map, refl, sym, ap, ◌∙◌, subst, arith, inl, inr}
use Rattle.std.specs.List.{filter, range_with_len}
use Rattle.std.proofs.lemmas.Bool.{cases_Bool, and_parts, ltb-true}
use Rattle.std.proofs.lemmas.Bool.Decides.{nat_tests}
use Rattle.std.proofs.lemmas.List.{map-id}
use Rattle.std.proofs.lemmas.List.FromFn.{map-range_with_len_more}
use Rattle.raster_cells.specs.declared.kind.PixelType.{PixelType}
use Rattle.delta_mode.specs.Deltas.{has_left, has_upper, last_value, predictor, delta, deltas_from}

pub last-zero : (valid : ℕ → Bool) (value : ℕ → ℤ) → last_value valid value 0 ≡ pos 0
unfolding last_value
last-zero valid value = refl

pub last-suc : (valid : ℕ → Bool) (value : ℕ → ℤ) (k : ℕ) → last_value valid value (suc k) ≡ cond (valid k) (value k) (last_value valid value k)
unfolding last_value
last-suc valid value k = refl

pub predictor-is : (cols : ℕ) (valid : ℕ → Bool) (value : ℕ → ℤ) (k : ℕ) → predictor cols valid value k
    ≡ cond (has_left cols valid k) (value (k - 1)) (cond (has_upper cols valid k) (value (k - cols)) (last_value valid value k))
unfolding predictor
predictor-is cols valid value k = refl

-- what holds of the value of each valid pixel before, and of 0, holds of the predictor
pub last_has : (P : ℤ → Type 0) (valid : ℕ → Bool) (value : ℕ → ℤ) (k : ℕ) → P (pos 0) → ((j : ℕ) → j < k → P (value j)) → P (last_value valid value k)
last_has P valid value zero none each = subst P (sym (last-zero valid value)) none
last_has P valid value (suc k) none each = subst P (sym (last-suc valid value k)) (elim (cases_Bool (valid k)) [
  | inl yes_ ↦ subst (λ b. P (cond b (value k) (last_value valid value k))) (sym yes_) (each k (omega arith))
  | inr no_ ↦ subst (λ b. P (cond b (value k) (last_value valid value k))) (sym no_) (last_has P valid value k none (λ j lt. each j (omega arith)))
])

pub mod_positive : (k cols : ℕ) → 0 < k % cols → 0 < k
mod_positive zero cols lt = absurd (omega (arith, lt, zero_mod cols))
  where
    zero_mod : (c : ℕ) → 0 % c ≡ 0
    zero_mod c = omega arith
mod_positive (suc k) cols lt = omega arith

pub left_before : (cols : ℕ) (valid : ℕ → Bool) (k : ℕ) → has_left cols valid k ≡ true → (0 < k) × (valid (k - 1) ≡ true)
left_before cols valid k h =
    let parts = and_parts (nat_lt 0 (k % cols)) (valid (k - 1)) h in
    (mod_positive k cols (ltb-true 0 (k % cols) parts.0), parts.1)

pub upper_before : (cols : ℕ) (valid : ℕ → Bool) (k : ℕ) → 0 < cols → has_upper cols valid k ≡ true → (cols ≤ k) × (valid (k - cols) ≡ true)
upper_before cols valid k some h =
    let parts = and_parts (nat_le cols k) (valid (k - cols)) h in
    (le_from cols k parts.0, parts.1)
  where
    le_from : (a b : ℕ) → nat_le a b ≡ true → a ≤ b
    le_from a b e = grind (arith, nat_tests)

pub predictor_has : (P : ℤ → Type 0) (cols : ℕ) (valid : ℕ → Bool) (value : ℕ → ℤ) (k : ℕ) → 0 < cols → P (pos 0) → ((j : ℕ) → j < k → P (value j)) → P (predictor cols valid value k)
predictor_has P cols valid value k some none each = subst P (sym (predictor-is cols valid value k)) (elim (cases_Bool (has_left cols valid k)) [
  | inl left ↦
      subst (λ b. P (cond b (value (k - 1)) (cond (has_upper cols valid k) (value (k - cols)) (last_value valid value k)))) (sym left)
      (each (k - 1) (omega (arith, (left_before cols valid k left).0)))
  | inr no_left ↦ subst (λ b. P (cond b (value (k - 1)) (cond (has_upper cols valid k) (value (k - cols)) (last_value valid value k)))) (sym no_left) (elim (cases_Bool (has_upper cols valid k)) [
    | inl upper ↦ subst (λ b. P (cond b (value (k - cols)) (last_value valid value k))) (sym upper) (each (k - cols) (omega (arith, (upper_before cols valid k some upper).0)))
    | inr no_upper ↦ subst (λ b. P (cond b (value (k - cols)) (last_value valid value k))) (sym no_upper) (last_has P valid value k none each)
  ])
])

-- a predictor depends on the values of the valid pixels before alone
pub last_same : (valid : ℕ → Bool) (v w : ℕ → ℤ) (k : ℕ) → ((j : ℕ) → j < k → valid j ≡ true → v j ≡ w j) → last_value valid v k ≡ last_value valid w k
last_same valid v w zero same = last-zero valid v ∙ sym (last-zero valid w)
last_same valid v w (suc k) same = last-suc valid v k ∙ elim (cases_Bool (valid k)) as (λ _. cond (valid k) (v k) (last_value valid v k) ≡ last_value valid w (suc k)) [
  | inl yes_ ↦
      ap (λ b. cond b (v k) (last_value valid v k)) yes_ ∙ same k (omega arith) yes_
      ∙ sym (ap (λ b. cond b (w k) (last_value valid w k)) yes_) ∙ sym (last-suc valid w k)
  | inr no_ ↦
      ap (λ b. cond b (v k) (last_value valid v k)) no_ ∙ last_same valid v w k (λ j lt. same j (omega arith))
      ∙ sym (ap (λ b. cond b (w k) (last_value valid w k)) no_) ∙ sym (last-suc valid w k)
]

pub predictor_same : (cols : ℕ) (valid : ℕ → Bool) (v w : ℕ → ℤ) (k : ℕ) → 0 < cols → ((j : ℕ) → j < k → valid j ≡ true → v j ≡ w j) → predictor cols valid v k ≡ predictor cols valid w k
predictor_same cols valid v w k some same =
    predictor-is cols valid v k ∙ choose (has_left cols valid k) (has_upper cols valid k) refl refl ∙ sym (predictor-is cols valid w k)
  where
    choose : (a b : Bool) → has_left cols valid k ≡ a → has_upper cols valid k ≡ b
        → cond a (v (k - 1)) (cond b (v (k - cols)) (last_value valid v k)) ≡ cond a (w (k - 1)) (cond b (w (k - cols)) (last_value valid w k))
    choose true b left upper = let at = left_before cols valid k left in same (k - 1) (omega (arith, at.0)) at.1
    choose false true left upper = let at = upper_before cols valid k some upper in same (k - cols) (omega (arith, at.0)) at.1
    choose false false left upper = last_same valid v w k same

-- ---- symbols in order

pub range_more : (k n : ℕ) → range_with_len k (n + 1) ≡ range_with_len k n ++ (k + n) ∷ []
range_more k n =
    sym (map-id (range_with_len k (n + 1))) ∙ map-range_with_len_more (λ x. x) k n (k + n) refl ∙ ap (λ (xs : List ℕ). xs ++ (k + n) ∷ []) (map-id (range_with_len k n))

pub from-is : (kind : PixelType) (cols : ℕ) (valid : ℕ → Bool) (value : ℕ → ℤ) (k n : ℕ) → deltas_from kind cols valid value k n ≡ map (delta kind cols valid value) (filter valid (range_with_len k n))
unfolding deltas_from
from-is kind cols valid value k n = refl
