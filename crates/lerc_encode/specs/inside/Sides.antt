-- Blocks of both sides as they are looked at: with each block of side 16 those of side 8 in it.
use Rattle.std.specs.Prelude.{◌≡◌, ℕ, ◌+◌, ◌*◌, ◌/◌, ◌%◌, ◌<◌, ◌≤◌, ◌⊎◌, ◌&&◌, nat_lt}
use Rattle.std.specs.Prelude.{if◌then◌else◌}
use Rattle.std.specs.Prelude.{List, ℤ, ◌++◌, length}
use Rattle.raster_values.specs.Raster.{Pixels}
use Rattle.raster_values.specs.Block.{block_values}
use Rattle.lerc_header.specs.declared.header.Header.{Header}
use Rattle.lerc_grammar.specs.Blocks.{blocks_across}
use Rattle.lerc_encode.specs.declared.blocks.chosen_blocks.BlockAt.{BlockAt}
use Rattle.lerc_encode.specs.inside.Blocked.{HasTable, HasTableAt, IsWithin, bytes_at}
use Rattle.lerc_encode.specs.declared.blocks.flags.Flags.{Flags}
use Rattle.lerc_encode.specs.inside.Flags.{IsMarked, room_of}

-- ---- one block more

-- a total of so many bytes more, unless it is above `most`; then it stays above
pub record IsMore (most n old new : ℕ) : Type 0 where
  pub within : new ≤ most → (old ≤ most) × (new ≡ old + n)
  pub over : most < new → most < old + n

-- no flag is cleared, and where each block has its own none is set of a block without a table
pub record AreMore (h : Header) (r : Pixels) (old new : Flags) : Type 0 where
  pub room : room_of new ≡ room_of old
  pub group : new.group ≡ old.group
  pub kept : (k : ℕ) → IsMarked old k → IsMarked new k
  pub sound : new.group ≡ 1 → (k : ℕ) → IsMarked new k → IsMarked old k ⊎ HasTable h r k

-- ---- the blocks of side 8 in one of side 16

-- the side is 8, and blocks of that begin here, at a depth of the raster
pub record IsPartBlockAt (h : Header) (spot : BlockAt) : Type 0 where
  pub side : h.side ≡ 8
  pub row : spot.row % 8 ≡ 0
  pub col : spot.col % 8 ≡ 0
  pub depth : spot.d < h.depth

-- the number of the block that stands here
abbrev pub number_at : Header → BlockAt → ℕ
number_at h spot = (spot.row / h.side * blocks_across h + spot.col / h.side) * h.depth + spot.d

-- how many bytes it takes: none where none stands here
abbrev pub size_at : Header → Pixels → BlockAt → ℕ
size_at h r spot =
    if nat_lt spot.row h.rows && nat_lt spot.col h.cols then length (bytes_at h r spot) else 0

-- the flag of its group is set where it has a table
abbrev pub IsFlaggedAt : Header → Pixels → BlockAt → Flags → Type 0
IsFlaggedAt h r spot tables =
    IsWithin h spot → HasTableAt h r spot → IsMarked tables (number_at h spot)

-- the spots to the right, below, and at the corner
abbrev pub right_of : BlockAt → BlockAt
right_of spot = record { row = spot.row; col = spot.col + 8; d = spot.d }

abbrev pub below : BlockAt → BlockAt
below spot = record { row = spot.row + 8; col = spot.col; d = spot.d }

abbrev pub corner : BlockAt → BlockAt
corner spot = record { row = spot.row + 8; col = spot.col + 8; d = spot.d }

-- the bytes of all four
abbrev pub four_sizes : Header → Pixels → BlockAt → ℕ
four_sizes h r spot =
    size_at h r spot
    + (size_at h r (right_of spot) + (size_at h r (below spot) + size_at h r (corner spot)))

-- their flags
pub record AreFlaggedAt (h : Header) (r : Pixels) (spot : BlockAt) (tables : Flags) : Type 0 where
  pub first : IsFlaggedAt h r spot tables
  pub right : IsFlaggedAt h r (right_of spot) tables
  pub under : IsFlaggedAt h r (below spot) tables
  pub last : IsFlaggedAt h r (corner spot) tables

-- their values, one block behind the other
abbrev pub four_values : Pixels → BlockAt → List ℤ
four_values r spot =
    ((block_values r spot.row spot.col 8 spot.d
    ++ block_values r spot.row (spot.col + 8) 8 spot.d)
    ++ block_values r (spot.row + 8) spot.col 8 spot.d)
    ++ block_values r (spot.row + 8) (spot.col + 8) 8 spot.d
