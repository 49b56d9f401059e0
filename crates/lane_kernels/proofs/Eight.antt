-- Lanes of signed numbers, less one number.
use Rattle.std.proofs.Common.{◌≡◌, ℕ, ◌+◌, ◌≤◌, zero, suc, List, [], ◌∷◌, ◌++◌, length, take, drop, replicate, map, refl, sym, ap, ◌∙◌, subst, arith}
use Rattle.std.specs.Prelude.{ℤ, ◌-ℤ◌, All, unsigned_abs}
use Rattle.std.specs.List.{AllByRecursion}
use Rattle.std.proofs.lemmas.Int.{ints, to_z-of_z}
use Rattle.std.proofs.lemmas.List.{length-map, map-append, length-take-le, length-drop}
use Rattle.std.proofs.lemmas.List.Elements.{recursion_from_All, All-take, All-drop}
use Rattle.std.proofs.lemmas.Simd.{take_more_put_chunk}
use Rattle.std.proofs.Math.Seq.{take-add}
use mir.Syntax.{w64}
use mir.Val.{SFits, to_z, of_z}
use lib.Lanes.{Each2, zip2, put_chunk}

abbrev pub Asks : ℕ → ℕ → Type 0
Asks = borrow.Rule.Simd.Lanes.Asks2 (mir.Syntax.sub mir.Syntax.signed) (borrow.Table.Row.s_int w64) (borrow.Table.Row.s_int w64)

abbrev pub less : ℕ → ℕ → ℕ
less = borrow.Rule.Simd.Lanes.act2 (mir.Syntax.sub mir.Syntax.signed) (borrow.Table.Row.s_int w64) (borrow.Table.Row.s_int w64) (borrow.Table.Row.s_int w64)

abbrev pub IsSmall : ℤ → Type 0
IsSmall v = unsigned_abs v ≤ 4294967296

fits : (x : ℤ) → IsSmall x → SFits w64 x
fits x h = omega (arith, ints)

fits_less : (x y : ℤ) → IsSmall x → IsSmall y → SFits w64 (x -ℤ y)
fits_less x y h k = omega (arith, ints)

pub same_bits : (x : ℤ) → IsSmall x → to_z w64 (of_z w64 x) ≡ x
same_bits x h = to_z-of_z w64 x (fits x h)

-- no lane wraps
pub asks_all : (y : ℤ) (xs : List ℤ) (k : ℕ) → IsSmall y → AllByRecursion IsSmall xs → Each2 Asks (map (of_z w64) xs) (replicate k (of_z w64 y))
asks_all y [] k small each = tt
asks_all y (x ∷ xs) zero small each = tt
asks_all y (x ∷ xs) (suc k) small each = (
  subst (λ v. SFits w64 (v -ℤ to_z w64 (of_z w64 y))) (sym (same_bits x each.0)) (subst (λ v. SFits w64 (x -ℤ v)) (sym (same_bits y small)) (fits_less x y each.0 small)),
  asks_all y xs k small each.1,
)

-- each lane is less by the number
pub less_all : (y : ℤ) (xs : List ℤ) (k : ℕ) → length xs ≤ k → IsSmall y → AllByRecursion IsSmall xs → map (to_z w64) (zip2 less (map (of_z w64) xs) (replicate k (of_z w64 y))) ≡ map (λ v. v -ℤ y) xs
less_all y [] k h small each = refl
less_all y (x ∷ xs) zero h small each = absurd (omega arith)
less_all y (x ∷ xs) (suc k) h small each =
    let lane : to_z w64 (of_z w64 (to_z w64 (of_z w64 x) -ℤ to_z w64 (of_z w64 y))) ≡ x -ℤ y =
    ap (λ v. to_z w64 (of_z w64 (v -ℤ to_z w64 (of_z w64 y)))) (same_bits x each.0) ∙ ap (λ v. to_z w64 (of_z w64 (x -ℤ v))) (same_bits y small) ∙ to_z-of_z w64 (x -ℤ y) (fits_less x y each.0 small) in
    ap (λ v. v ∷ map (to_z w64) (zip2 less (map (of_z w64) xs) (replicate k (of_z w64 y)))) lane
    ∙ ap (λ vs. (x -ℤ y) ∷ vs) (less_all y xs k (omega arith) small each.1)

-- eight more
pub eight_more : (y : ℤ) (values out : List ℤ) (at : ℕ) → length out ≡ length values → at + 8 ≤ length values → IsSmall y → All IsSmall values → take at out ≡ map (λ v. v -ℤ y) (take at values)
    → take (at + 8) (put_chunk at out (map (to_z w64) (zip2 less (map (of_z w64) (take 8 (drop at values))) (replicate 8 (of_z w64 y))))) ≡ map (λ v. v -ℤ y) (take (at + 8) values)
eight_more y values out at same within small all e =
    let part = take 8 (drop at values) in
    let each : AllByRecursion IsSmall part = recursion_from_All IsSmall part (All-take IsSmall 8 (drop at values) (All-drop IsSmall at values all)) in
    let long : length part ≡ 8 = length-take-le 8 (drop at values) (omega (arith, length-drop at values)) in
    let lanes : map (to_z w64) (zip2 less (map (of_z w64) part) (replicate 8 (of_z w64 y))) ≡ map (λ v. v -ℤ y) part = less_all y part 8 (omega arith) small each in
    ap (λ ys. take (at + 8) (put_chunk at out ys)) lanes
    ∙ take_more_put_chunk at out (map (λ v. v -ℤ y) part) (at + 8) (omega (arith, length-map part (λ v. v -ℤ y))) (omega arith)
    ∙ ap (λ zs. zs ++ map (λ v. v -ℤ y) part) e
    ∙ sym (ap (map (λ v. v -ℤ y)) (take-add at 8 values) ∙ map-append (λ v. v -ℤ y) (take at values) part)
