-- Numbers of a header are small, so a cast of them changes nothing.
use Rattle.std.proofs.Common.{◌≡◌, ℕ, ℤ, pos, ◌+◌, ◌*◌, ◌<◌, ◌*ℤ◌, ◌≤ℤ◌, List, refl, ap, subst, arith, ⊎_elim, inl, ◌↔◌, Option, Some}
use Rattle.std.specs.Prelude.{unsigned_abs}
use Rattle.std.proofs.lemmas.Int.{ints, unsigned_abs-mul}
use mir.Syntax.{w64}
use mir.Val.{to_z, of_z}
use Rattle.raster_cells.specs.declared.kind.PixelType.{PixelType}
use Rattle.raster_cells.specs.PixelType.{InRange}
use Rattle.double_bits.specs.Halves.{HalfDouble, IsTwiceZero, IsTwiceNormal}
use Rattle.lerc_header.specs.Head.{double_at, HasRange, RangeAt}

pub cast_whole : (bits : ℕ) (z : ℤ) → HalfDouble bits (pos 2 *ℤ z) → to_z w64 (of_z w64 z) ≡ z
cast_whole bits z half =
    ⊎_elim
    (λ (h : IsTwiceZero bits (pos 2 *ℤ z)). let e : pos 2 *ℤ z ≡ pos 0 = h.value in omega (arith, ints, e))
    (λ (h : IsTwiceNormal bits (pos 2 *ℤ z)).
    let e : unsigned_abs (pos 2 *ℤ z) ≡ 2 * unsigned_abs z = unsigned_abs-mul (pos 2) z in
    omega (arith, ints, e, h.small))
    half

pub cast_range : (bytes : List ℕ) (place : ℕ) (kind : PixelType) (valid : ℕ) (least greatest : ℤ) → RangeAt bytes place kind valid least greatest
    → (to_z w64 (of_z w64 least) ≡ least) × (to_z w64 (of_z w64 greatest) ≡ greatest)
cast_range bytes place kind valid least greatest range =
    ⊎_elim
    (λ (h : (0 < valid) × HasRange bytes place kind least greatest).
    (cast_whole (double_at bytes place) least h.1.z_min, cast_whole (double_at bytes (place + 8)) greatest h.1.z_max))
    (λ (h : (valid ≡ 0) × (least ≡ pos 0) × (greatest ≡ pos 0)).
    (omega (arith, ints, h.1), omega (arith, ints, h.2)))
    range

-- the answer of `range_at` where some pixel is valid
pub found_range : (bytes : List ℕ) (place : ℕ) (kind : PixelType) (valid : ℕ) (a b : ℤ) → 0 < valid
    → ((z : ℤ) → (◌≡◌ {A = Option ℤ} (Some a) (Some z)) ↔ (HalfDouble (double_at bytes place) (pos 2 *ℤ z) × InRange kind z))
    → ((z : ℤ) → (◌≡◌ {A = Option ℤ} (Some b) (Some z)) ↔ (HalfDouble (double_at bytes (place + 8)) (pos 2 *ℤ z) × InRange kind z))
    → a ≤ℤ b
    → (least greatest : ℤ) → (◌≡◌ {A = Option (ℤ × ℤ)} (Some (a, b)) (Some (least, greatest))) ↔ RangeAt bytes place kind valid least greatest
found_range bytes place kind valid a b some first second ordered least greatest =
    let low : HalfDouble (double_at bytes place) (pos 2 *ℤ a) × InRange kind a = (first a).0 refl in
    let high : HalfDouble (double_at bytes (place + 8)) (pos 2 *ℤ b) × InRange kind b = (second b).0 refl in
    let has : RangeAt bytes place kind valid a b = inl (some, record { z_min = low.0; least_in_range = low.1; z_max = high.0; greatest_in_range = high.1; in_order = ordered }) in (
      λ is.
          let pair : ◌≡◌ {A = ℤ × ℤ} (a, b) (least, greatest) = cc in
          subst (λ (p : ℤ × ℤ). RangeAt bytes place kind valid p.0 p.1) pair has,
      λ range.
          ⊎_elim
          (λ (h : (0 < valid) × HasRange bytes place kind least greatest).
          let one : ◌≡◌ {A = Option ℤ} (Some a) (Some least) = (first least).1 (h.1.z_min, h.1.least_in_range) in
          let two : ◌≡◌ {A = Option ℤ} (Some b) (Some greatest) = (second greatest).1 (h.1.z_max, h.1.greatest_in_range) in
          let left : a ≡ least = cc in
          let right : b ≡ greatest = cc in
          let both : ◌≡◌ {A = ℤ × ℤ} (a, b) (least, greatest) = λ i. (left i, right i) in
          ap Some both)
          (λ (h : (valid ≡ 0) × (least ≡ pos 0) × (greatest ≡ pos 0)). absurd (omega (arith, some, h.0)))
          range,
    )
