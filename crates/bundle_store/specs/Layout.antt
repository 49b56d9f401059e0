-- A new bundle of a map.
use Rattle.std.specs.Prelude.{ℕ, zero, suc, ◌+◌, max, List, [], ◌++◌, length, Option, Some, None}
use Rattle.bundle_index.specs.Sizes.{index_end, slot_count}
use Rattle.byteorder.specs.Endian.{little_bytes}
use Rattle.bundle_index.specs.Entry.{entry_bytes}
use Rattle.bundle_index.specs.Header.{fresh_header}
use Rattle.bundle_index.specs.declared.entry.Entry.{Entry}
use Rattle.bundle_store.specs.Tiles.{TileMap}

-- a tile behind its size
abbrev pub record_bytes : List ℕ → List ℕ
record_bytes tile = little_bytes 4 (length tile) ++ tile

abbrev pub record_of : Option (List ℕ) → List ℕ
record_of None = []
record_of (Some tile) = record_bytes tile

abbrev pub size_of : Option (List ℕ) → ℕ
size_of None = 0
size_of (Some tile) = length tile

-- the records of the slots below a number, in their order
unfoldable pub records : TileMap → ℕ → List ℕ
records map zero = []
records map (suc slot) = records map slot ++ record_of (map slot)

-- the entry of a slot whose record stands behind so many bytes of records
abbrev pub entry_behind : ℕ → Option (List ℕ) → Entry
entry_behind before None = record { offset = 0; size = 0 }
entry_behind before (Some tile) = record { offset = index_end + before + 4; size = length tile }

-- the entries of the slots below a number
unfoldable pub entries : TileMap → ℕ → List ℕ
entries map zero = []
entries map (suc slot) = entries map slot ++ entry_bytes (entry_behind (length (records map slot))
    (map slot))

-- the size of the greatest tile in the slots below a number
unfoldable pub greatest_size : TileMap → ℕ → ℕ
greatest_size map zero = 0
greatest_size map (suc slot) = max (greatest_size map slot) (size_of (map slot))

-- the fresh header, the index, and the records by slot without gaps
unfoldable pub layout : TileMap → List ℕ
layout map = fresh_header (greatest_size map slot_count)
    (index_end + length (records map slot_count)) ++
    (entries map slot_count ++ records map slot_count)
