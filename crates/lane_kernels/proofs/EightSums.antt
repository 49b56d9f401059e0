-- Eight capped sums: fewer steps first, then the product, the offset, and the cap.
use Rattle.std.proofs.Common.{◌≡◌, ◌≤◌, ◌+◌, ℕ, ℤ, pos, ◌+ℤ◌, ◌*ℤ◌, ◌<ℤ◌, ◌≤ℤ◌, List, [], ◌∷◌, ◌++◌, length, map, take, drop, refl, sym, ap, ◌∙◌, arith}
use Rattle.std.specs.Int.{int_min}
use Rattle.std.specs.List.{AllByRecursion}
use Rattle.std.proofs.lemmas.Int.{ints, to_z-of_z}
use Rattle.std.proofs.lemmas.List.{length-map, map-append, length-take-le, length-drop}
use Rattle.std.proofs.lemmas.Simd.{take_more_put_chunk}
use Rattle.std.proofs.Math.Seq.{take-add}
use lib.Lanes.{put_chunk}
use mir.Syntax.{w64}
use mir.Val.{SFits, to_z, of_z}
use Rattle.lane_kernels.specs.Kernels.{capped_sums, IsSmall, IsQuantised, IsStepSize}
use Rattle.lane_kernels.specs.inside.Lanes.{AreLanes}
use Rattle.lane_kernels.proofs.Caps.{capped_product, reread, same_cap}
use Rattle.lane_kernels.proofs.Folds.{same_lanes}

-- what is asked of the numbers of eight sums
pub record AreCapped (past offset step top : ℤ) : Type 0 where
  pub offset_small : IsSmall offset
  pub step_size : IsStepSize step
  pub positive : pos 0 <ℤ past
  pub over : top <ℤ (offset +ℤ past *ℤ step)
  pub product : (past *ℤ step) ≤ℤ pos 17179869184

-- no product leaves 64 bits
pub products_fit : (past offset step top : ℤ) → AreCapped past offset step top → (qs : List ℤ) → AllByRecursion IsQuantised qs
    → AllByRecursion (λ v. SFits w64 (v *ℤ step)) (map (λ q. int_min q past) qs)
products_fit past offset step top are [] h = tt
products_fit past offset step top are (q ∷ qs) h =
    let p = capped_product q past step (int_min q past) refl h.0.0 are.positive are.step_size are.product in (
      omega (arith, ints, p.from_zero, p.small),
      products_fit past offset step top are qs h.1,
    )

-- nor does a sum
pub sums_fit : (past offset step top : ℤ) → AreCapped past offset step top → (qs : List ℤ) → AllByRecursion IsQuantised qs
    → AllByRecursion (λ v. SFits w64 (v +ℤ offset)) (map (λ v. v *ℤ step) (map (λ q. int_min q past) qs))
sums_fit past offset step top are [] h = tt
sums_fit past offset step top are (q ∷ qs) h =
    let p = capped_product q past step (int_min q past) refl h.0.0 are.positive are.step_size are.product in (
      omega (arith, ints, p.from_zero, p.small, are.offset_small),
      sums_fit past offset step top are qs h.1,
    )

swapped : (x y : ℤ) → x +ℤ y ≡ y +ℤ x
swapped x y = omega (arith, ints)

-- the four steps are the capped sum
pub sums_capped : (past offset step top : ℤ) → AreCapped past offset step top → (qs : List ℤ)
    → map (λ v. int_min v top) (map (λ v. v +ℤ offset) (map (λ v. v *ℤ step) (map (λ q. int_min q past) qs))) ≡ capped_sums qs offset step top
sums_capped past offset step top are [] = refl
sums_capped past offset step top are (q ∷ qs) =
    let from_zero : pos 0 ≤ℤ past = omega (arith, ints, are.positive) in
    let some : pos 0 ≤ℤ step = omega (arith, ints, are.step_size) in
    let first : int_min (int_min q past *ℤ step +ℤ offset) top ≡ int_min (offset +ℤ q *ℤ step) top =
    ap (λ v. int_min v top) (swapped (int_min q past *ℤ step) offset) ∙ same_cap q past offset step top from_zero some are.over in
    let rest = sums_capped past offset step top are qs in
    (λ i. first i ∷ rest i)

-- lanes that were made of others by a number, as the code reads them again
pub next_lanes : (f : ℤ → ℤ → ℤ) (y : ℤ) (lanes part result : List ℤ) → SFits w64 y → AreLanes result → result ≡ map (λ v. f v (reread y)) lanes → lanes ≡ part
    → map (to_z w64) (map (of_z w64) result) ≡ map (λ v. f v y) part
next_lanes f y lanes part result fits is e e' =
    same_lanes result is ∙ e ∙ ap (map (λ v. f v (reread y))) e' ∙ ap (λ z. map (λ v. f v z) part) (to_z-of_z w64 y fits)

-- eight more that are written
pub eight_sums_more : (qs out sums : List ℤ) (offset step top : ℤ) (at : ℕ) → length out ≡ length qs → at + 8 ≤ length qs → take at out ≡ capped_sums (take at qs) offset step top
    → sums ≡ capped_sums (take 8 (drop at qs)) offset step top → take (at + 8) (put_chunk at out sums) ≡ capped_sums (take (at + 8) qs) offset step top
eight_sums_more qs out sums offset step top at same within so_far e =
    let part = take 8 (drop at qs) in
    let f : ℤ → ℤ = λ q. int_min (offset +ℤ q *ℤ step) top in
    let long : length part ≡ 8 = length-take-le 8 (drop at qs) (omega (arith, length-drop at qs)) in
    ap (λ ys. take (at + 8) (put_chunk at out ys)) e
    ∙ take_more_put_chunk at out (map f part) (at + 8) (omega (arith, length-map part f)) (omega arith)
    ∙ ap (λ zs. zs ++ map f part) so_far
    ∙ sym (ap (map f) (take-add at 8 qs) ∙ map-append f (take at qs) part)
