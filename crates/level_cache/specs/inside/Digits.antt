-- What adds the digits of a number to a name.
use Rattle.std.specs.Prelude.{◌≡◌, ℕ, List, ◌++◌, length, All}
use Rattle.level_cache.specs.Names.{IsHex, IsHexDigit, hex_value}

-- so many digits of this value were added
pub record AddsDigits (n count : ℕ) (old new : List ℕ) : Type 0 where
  pub digits : List ℕ
  pub each : All IsHexDigit digits
  pub many : length digits ≡ count
  pub value : hex_value digits ≡ n
  pub added : new ≡ old ++ digits

-- a number was added
pub record AddsHex (n : ℕ) (old new : List ℕ) : Type 0 where
  pub digits : List ℕ
  pub is : IsHex digits n
  pub added : new ≡ old ++ digits
