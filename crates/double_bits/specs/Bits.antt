-- The bits of the double whose value is half of a whole number, as they are written: a zero with
-- the sign +.
use Rattle.std.specs.Prelude.{ℕ, ℤ, pos, negsuc, ◌+◌, ◌-◌, ◌*◌, ◌^◌, zero, suc}
use Rattle.std.specs.Int.{w64, leading_zeros}

-- the place of the highest bit of a number below 2 ^ 64 that is not 0
abbrev pub top_bit : ℕ → ℕ
top_bit a = 63 - leading_zeros w64 a

-- For twice an absolute value: its highest bit is the unwritten one above the fraction, the bits
-- below it stand highest in the fraction, and 1 is the exponent 1022.
abbrev pub magnitude_bits : ℕ → ℕ
magnitude_bits zero = 0
magnitude_bits (suc n) =
    (1022 + top_bit (suc n)) * 2 ^ 52 + (suc n * 2 ^ (52 - top_bit (suc n)) - 2 ^ 52)

-- for twice a value
unfoldable pub half_bits : ℤ → ℕ
half_bits (pos a) = magnitude_bits a
half_bits (negsuc a) = 2 ^ 63 + magnitude_bits (suc a)
