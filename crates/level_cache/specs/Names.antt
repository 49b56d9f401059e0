-- The names of bundles.
use Rattle.std.specs.Prelude.{◌≡◌, ◌≢◌, ◌⊎◌, ℕ, ◌+◌, ◌-◌, ◌*◌, ◌^◌, ◌<◌, ◌≤◌, nat_lt, List, [], ◌∷◌, ◌++◌, codes, length, slice_index, All, if◌then◌else◌}
use Rattle.level_cache.specs.Places.{Corner}

-- a hexadecimal digit: `0` (48) to `9` (57), or `a` (97) to `f` (102)
abbrev pub IsHexDigit : ℕ → Type 0
IsHexDigit byte = ((48 ≤ byte) × (byte ≤ 57)) ⊎ ((97 ≤ byte) × (byte ≤ 102))

-- what a digit counts
abbrev pub digit_value : ℕ → ℕ
digit_value byte = if nat_lt byte 58 then byte - 48 else byte - 87

-- the sum of the digits by place: a digit with k digits behind it counts 16 ^ k times
abbrev pub hex_value : List ℕ → ℕ
hex_value [] = 0
hex_value (byte ∷ behind) = digit_value byte * 16 ^ length behind + hex_value behind

-- four or more digits that have this value, with as few zeros in front as that leaves
pub record IsHex (digits : List ℕ) (n : ℕ) : Type 0 where
  pub each : All IsHexDigit digits
  pub least : 4 ≤ length digits
  pub leading : 4 < length digits → slice_index digits 0 ≢ 48
  pub value : hex_value digits ≡ n

-- the name of the bundle of this base: `R` (82), its row, `C` (67), its column, and `.bundle`
pub record IsName (base : Corner) (name : List ℕ) : Type 0 where
  pub row : List ℕ
  pub col : List ℕ
  pub row_is : IsHex row base.row
  pub col_is : IsHex col base.col
  pub name_is : name ≡ 82 ∷ (row ++ (67 ∷ (col ++ codes ".bundle")))
