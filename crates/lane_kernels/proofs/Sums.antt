-- Lanes of signed numbers, and one number more.
use Rattle.std.proofs.Common.{◌≡◌, ℕ, ◌≤◌, zero, suc, ℤ, ◌+ℤ◌, List, [], ◌∷◌, length, map, replicate, refl, sym, ap, ◌∙◌, subst, arith}
use Rattle.std.specs.List.{AllByRecursion}
use Rattle.std.proofs.lemmas.Int.{to_z-of_z}
use lib.Lanes.{Each2, zip2}
use mir.Syntax.{w64}
use mir.Val.{SFits, to_z, of_z}

abbrev pub Asks : ℕ → ℕ → Type 0
Asks = borrow.Rule.Simd.Lanes.Asks2 (mir.Syntax.add mir.Syntax.signed) (borrow.Table.Row.s_int w64) (borrow.Table.Row.s_int w64)

abbrev pub act : ℕ → ℕ → ℕ
act = borrow.Rule.Simd.Lanes.act2 (mir.Syntax.add mir.Syntax.signed) (borrow.Table.Row.s_int w64) (borrow.Table.Row.s_int w64) (borrow.Table.Row.s_int w64)

-- no lane wraps
pub asks_all : (y : ℤ) (xs : List ℤ) (k : ℕ) → SFits w64 y → AllByRecursion (SFits w64) xs → AllByRecursion (λ v. SFits w64 (v +ℤ y)) xs → Each2 Asks (map (of_z w64) xs) (replicate k (of_z w64 y))
asks_all y [] k fits each small = tt
asks_all y (x ∷ xs) zero fits each small = tt
asks_all y (x ∷ xs) (suc k) fits each small = (
  subst (λ v. SFits w64 (v +ℤ to_z w64 (of_z w64 y))) (sym (to_z-of_z w64 x each.0)) (subst (λ v. SFits w64 (x +ℤ v)) (sym (to_z-of_z w64 y fits)) small.0),
  asks_all y xs k fits each.1 small.1,
)

pub plus_all : (y : ℤ) (xs : List ℤ) (k : ℕ) → length xs ≤ k → SFits w64 y → AllByRecursion (SFits w64) xs → AllByRecursion (λ v. SFits w64 (v +ℤ y)) xs → map (to_z w64) (zip2 act (map (of_z w64) xs) (replicate k (of_z w64 y))) ≡ map (λ v. v +ℤ y) xs
plus_all y [] k h fits each small = refl
plus_all y (x ∷ xs) zero h fits each small = absurd (omega arith)
plus_all y (x ∷ xs) (suc k) h fits each small =
    let lane : to_z w64 (of_z w64 (to_z w64 (of_z w64 x) +ℤ to_z w64 (of_z w64 y))) ≡ x +ℤ y =
    ap (λ v. to_z w64 (of_z w64 (v +ℤ to_z w64 (of_z w64 y)))) (to_z-of_z w64 x each.0) ∙ ap (λ v. to_z w64 (of_z w64 (x +ℤ v))) (to_z-of_z w64 y fits) ∙ to_z-of_z w64 (x +ℤ y) small.0 in
    ap (λ v. v ∷ map (to_z w64) (zip2 act (map (of_z w64) xs) (replicate k (of_z w64 y)))) lane
    ∙ ap (λ vs. (x +ℤ y) ∷ vs) (plus_all y xs k (omega arith) fits each.1 small.1)
