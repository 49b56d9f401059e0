-- Twice the absolute value of a double, by its exponent and its fraction.
use Rattle.std.specs.Prelude.{◌≡◌, ℕ, ◌+◌, ◌*◌, ◌^◌, ◌<◌, ◌⊎◌}

-- exponent x and fraction f are 0, and so is a
abbrev pub IsZeroMagnitude : ℕ → ℕ → ℕ → Type 0
IsZeroMagnitude x f a = (x ≡ 0) × (f ≡ 0) × (a ≡ 0)

-- exponent x and fraction f are those of a normal number, and a is twice its absolute value
abbrev pub IsNormalMagnitude : ℕ → ℕ → ℕ → Type 0
IsNormalMagnitude x f a =
    (0 < x) × (x < 2047) × (a * 2 ^ 1074 ≡ (2 ^ 52 + f) * 2 ^ x) × (a < 2 ^ 34)

abbrev pub IsMagnitude : ℕ → ℕ → ℕ → Type 0
IsMagnitude x f a = IsZeroMagnitude x f a ⊎ IsNormalMagnitude x f a
