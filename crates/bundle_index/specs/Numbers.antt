-- Numbers at a place, the lowest byte first. The list's elements are bytes; bytes that are missing
-- count as 0.
use Rattle.std.specs.Prelude.{ℕ, List, drop}
use Rattle.byteorder.specs.Endian.{little_number}

-- the number of two bytes at a place
unfoldable pub u16_at : List ℕ → ℕ → ℕ
u16_at bytes place = little_number 2 (drop place bytes)

-- the number of four bytes at a place
unfoldable pub u32_at : List ℕ → ℕ → ℕ
u32_at bytes place = little_number 4 (drop place bytes)

-- the number of eight bytes at a place
unfoldable pub u64_at : List ℕ → ℕ → ℕ
u64_at bytes place = little_number 8 (drop place bytes)
