-- Values of any type.
use Rattle.std.specs.Prelude.{◌≤ℤ◌, ℤ, pos, negsuc}

-- the value is one of a type
abbrev pub IsOfAType : ℤ → Type 0
IsOfAType z = (negsuc 2147483647 ≤ℤ z) × (z ≤ℤ pos 4294967295)
