-- The bits of a double have at most one number that is twice its value.
use Rattle.std.proofs.Common.{◌≡◌, ℕ, ℤ, ◌^◌, sym, ap, ◌∙◌, arith, ⊎_elim}
use Rattle.std.proofs.lemmas.Nat.{pow_pos}
use Rattle.std.proofs.Math.Nat.{eq_of_mul-eq-mul_right}
use Rattle.double_bits.specs.Halves.{HalfDouble, signed, sign, exponent, fraction}
use Rattle.double_bits.specs.inside.Magnitude.{IsMagnitude, IsZeroMagnitude, IsNormalMagnitude}
use Rattle.double_bits.proofs.Signs.{half_to}

one_magnitude : (x f a b : ℕ) → IsMagnitude x f a → IsMagnitude x f b → a ≡ b
one_magnitude x f a b g h =
    ⊎_elim
    (λ (u : IsZeroMagnitude x f a).
    ⊎_elim
    (λ (v : IsZeroMagnitude x f b). u.2 ∙ sym v.2)
    (λ (v : IsNormalMagnitude x f b). absurd (omega (arith, u.0, v.0)))
    h)
    (λ (u : IsNormalMagnitude x f a).
    ⊎_elim
    (λ (v : IsZeroMagnitude x f b). absurd (omega (arith, u.0, v.0)))
    (λ (v : IsNormalMagnitude x f b). eq_of_mul-eq-mul_right (2 ^ 1074) (pow_pos 1074) a b (u.2 ∙ sym v.2))
    h)
    g

pub one_half : (bits : ℕ) (g h : ℤ) → HalfDouble bits g → HalfDouble bits h → g ≡ h
one_half bits g h first second =
    let a = half_to bits g first in
    let b = half_to bits h second in
    a.2 ∙ ap (signed (sign bits)) (one_magnitude (exponent bits) (fraction bits) a.0 b.0 a.1 b.1) ∙ sym b.2
