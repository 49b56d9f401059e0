-- How many slots a bundle has, and where its index ends.
use Rattle.std.specs.Prelude.{ℕ}

-- how many slots there are, and entries in the index: 128 rows of 128
abbrev pub slot_count : ℕ
slot_count = 16384

-- The place behind the index, where the records begin: the header's 64 bytes and 8 bytes for each
-- slot stand in front of it. So it is the least length of a bundle that is not empty.
abbrev pub index_end : ℕ
index_end = 131136
