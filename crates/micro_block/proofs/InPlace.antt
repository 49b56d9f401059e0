-- Numbers of a list that are changed in turn, each where it stands.
use Rattle.std.proofs.Common.{◌≡◌, ℕ, ◌+◌, ◌-◌, ◌*◌, ◌/◌, ◌^◌, ◌<◌, ◌≤◌, ℤ, pos, ◌≤ℤ◌, List, length, map, take, drop, get_or, sym, ap, ◌∙◌, subst, arith}
use Rattle.std.specs.Prelude.{unsigned_abs}
use Rattle.std.proofs.lemmas.Int.{ints, to_z-of_z}
use Rattle.std.proofs.lemmas.List.{drop-drop, drop-set-lt, get_or-drop}
use Rattle.std.proofs.Math.ListN.{set}
use Rattle.std.proofs.Math.Nat.{div-le_self}
use mir.Syntax.{w64}
use mir.Val.{SFits, of_z, to_z}
use Rattle.lane_kernels.proofs.Mapped.{mapped-more}
use Rattle.micro_block.specs.declared.stepping.Rule.{Rule}
use Rattle.micro_block.specs.declared.stepping.Rule.TheVariants.{Subtract, Shift, Multiply, Divide}
use Rattle.micro_block.specs.inside.Products.{AreUpTo, rounded_steps}
use Rattle.micro_block.specs.inside.Stepping.{IsRule, steps_above}

-- what is still to come stands as before
pub same_item : (before now : List ℤ) (i : ℕ) (d : ℤ) → drop i now ≡ drop i before → get_or now i d ≡ get_or before i d
same_item before now i d e =
    let none : i ≡ i + 0 = omega arith in
    ap (λ k. get_or now k d) none ∙ sym (get_or-drop i now 0 d) ∙ ap (λ xs. get_or xs 0 d) e ∙ get_or-drop i before 0 d ∙ ap (λ k. get_or before k d) (sym none)

-- and has the same bounds
pub item_up_to : (reach : ℕ) (before now : List ℤ) (i : ℕ) → AreUpTo reach before → i < length before → drop i now ≡ drop i before → (pos 0 ≤ℤ get_or now i (pos 0)) × (get_or now i (pos 0) ≤ℤ pos reach)
item_up_to reach before now i up within e =
    subst (λ v. (pos 0 ≤ℤ v) × (v ≤ℤ pos reach)) (sym (same_item before now i (pos 0) e)) (up i (pos 0) within)

-- one more is changed
pub changed_more : (f : ℤ → ℤ) (before now : List ℤ) (i : ℕ) (v : ℤ) → i < length before → i < length now → take i now ≡ map f (take i before) → drop i now ≡ drop i before
    → v ≡ f (get_or before i (pos 0)) → (take (i + 1) (set now i v) ≡ map f (take (i + 1) before)) × (drop (i + 1) (set now i v) ≡ drop (i + 1) before)
changed_more f before now i v within within' so_far rest value = (
  mapped-more f before now (pos 0) v i within within' so_far value,
  drop-set-lt (i + 1) now i v (omega arith) ∙ sym (drop-drop 1 i now) ∙ ap (drop 1) rest ∙ drop-drop 1 i before,
)

pub fits_up_to : (reach : ℕ) (v : ℤ) → reach < 2 ^ 62 → pos 0 ≤ℤ v → v ≤ℤ pos reach → SFits w64 v
fits_up_to reach v low h k = omega (arith, ints, low, h, k)

-- a rule for distances holds of nearer ones
pub rule_nearer : (step reach near : ℕ) (rule : Rule) → near ≤ reach → IsRule step reach rule → IsRule step near rule
rule_nearer step reach near Subtract le h = h
rule_nearer step reach near (Shift half shift) le h = (h.0, (h.1.0, (h.1.1.0, omega (arith, le, h.1.1.1))))
rule_nearer step reach near (Multiply half product) le h = (h.0, (omega (arith, le, h.1.0), h.1.1))
rule_nearer step reach near Divide le h = h

-- how many steps a distance from 0 on is, as the code has it
pub near_value : (step n : ℕ) (r now before : ℤ) → SFits w64 now → r ≡ pos n → n < 2 ^ 32 → n ≡ steps_above step 0 (unsigned_abs (to_z w64 (of_z w64 now))) → now ≡ before
    → to_z w64 (of_z w64 r) ≡ pos (rounded_steps step (unsigned_abs before))
near_value step n r now before fits e few is same =
    let d = unsigned_abs (to_z w64 (of_z w64 now)) in
    let none : d - 0 ≡ d = omega arith in
    to_z-of_z w64 r (omega (arith, ints, e, few))
    ∙ e
    ∙ ap pos (is ∙ ap (λ (x : ℕ). (2 * x + step) / (2 * step)) none)
    ∙ ap (λ (z : ℤ). pos (rounded_steps step (unsigned_abs z))) (to_z-of_z w64 now fits ∙ same)

pub steps_few : (step d n : ℕ) → d ≤ 8589934592 → step ≤ 8589934592 → n ≡ rounded_steps step d → n < 2 ^ 63
steps_few step d n far few is =
    let below = div-le_self (2 * d + step) (2 * step) in
    omega (arith, is, below, far, few)

pub far_value : (step n : ℕ) (now before : ℤ) → SFits w64 now → n < 2 ^ 63 → n ≡ rounded_steps step (unsigned_abs (to_z w64 (of_z w64 now))) → now ≡ before → to_z w64 n ≡ pos (rounded_steps step (unsigned_abs before))
far_value step n now before fits few is same =
    let exact : to_z w64 n ≡ pos n = omega (arith, ints, few) in
    exact ∙ ap pos is ∙ ap (λ (z : ℤ). pos (rounded_steps step (unsigned_abs z))) (to_z-of_z w64 now fits ∙ same)
