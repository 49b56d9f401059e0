-- Doubles by their bits, in the terms of IEEE 754 binary64: bit 63 is the sign, bits 52 to 62 the
-- biased exponent, bits 0 to 51 the fraction.
use Rattle.std.specs.Prelude.{◌≡◌, ℕ, ℤ, pos, ◌*ℤ◌, neg_ℤ, unsigned_abs, ◌+◌, ◌*◌, ◌/◌, ◌%◌, ◌^◌, ◌<◌, ◌⊎◌, zero, suc}

-- the parts of a double, for bits below 2 ^ 64
abbrev pub sign : ℕ → ℕ
sign bits = bits / 2 ^ 63

abbrev pub exponent : ℕ → ℕ
exponent bits = bits / 2 ^ 52 % 2048

abbrev pub fraction : ℕ → ℕ
fraction bits = bits % 2 ^ 52

-- (-1) ^ s * n, for a sign s of 0 or 1
abbrev pub signed : ℕ → ℕ → ℤ
signed zero n = pos n
signed (suc s) n = neg_ℤ (pos n)

-- A zero: the exponent and the fraction are 0, whatever the sign. Twice its value is 0.
pub record IsTwiceZero (bits : ℕ) (h : ℤ) : Type 0 where
  pub no_exponent : exponent bits ≡ 0
  pub no_fraction : fraction bits ≡ 0
  pub value : h ≡ pos 0

-- A normal number: the exponent is from 1 to 2046, and the value is
-- (-1) ^ sign * (2 ^ 52 + fraction) * 2 ^ (exponent - 1075). So h is twice the value exactly where
-- h * 2 ^ 1074 = (-1) ^ sign * (2 ^ 52 + fraction) * 2 ^ exponent, an equation of whole numbers.
pub record IsTwiceNormal (bits : ℕ) (h : ℤ) : Type 0 where
  pub exponent_above : 0 < exponent bits
  pub exponent_below : exponent bits < 2047
  pub value :
      h *ℤ pos (2 ^ 1074) ≡ signed (sign bits) ((2 ^ 52 + fraction bits) * 2 ^ exponent bits)
  pub small : unsigned_abs h < 2 ^ 34

-- The double with these bits is a whole number or a half, below 2 ^ 33 in absolute value, and h is
-- twice its value. Subnormal numbers, infinities and NaN have no such h.
abbrev pub HalfDouble : ℕ → ℤ → Type 0
HalfDouble bits h = IsTwiceZero bits h ⊎ IsTwiceNormal bits h
