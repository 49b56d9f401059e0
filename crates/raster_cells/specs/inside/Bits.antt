-- The bits of bytes.
use Rattle.std.specs.Prelude.{ℕ, ◌-◌, ◌/◌, ◌%◌, ◌^◌, Bool, nat_eq, ◌+◌, ◌&&◌, List, get_or, nat_lt, nat_le, if◌then◌else◌}
use Rattle.raster_cells.specs.Masks.{mask_bit}

-- bit number q of a byte, counted from the highest
abbrev pub byte_bit : ℕ → ℕ → Bool
byte_bit byte q = nat_eq (byte / 2 ^ (7 - q) % 2) 1

-- bit number k of a mask of which n bits from `from` on were set as bytes say
abbrev pub bit_after : List ℕ → List ℕ → ℕ → ℕ → ℕ → Bool
bit_after old marks from n k = if nat_le from k && nat_lt k (from + n)
    then nat_eq (get_or marks (k - from) 0) 1 else mask_bit old k
