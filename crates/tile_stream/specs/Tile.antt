-- A tile of a stream, and what is wrong first in bytes that do not begin with one. Places count
-- from the first of the bytes.
use Rattle.std.specs.Prelude.{◌≡◌, ℕ, ◌+◌, ◌*◌, ◌<◌, ◌≤◌, List, [], ◌++◌, length, get_or, take, Option, None, Some, Result, Ok, Err}
use Rattle.first_fault.specs.Faults.{Faults, none, wrong, unless, moved, in_order}
use Rattle.first_fault.specs.Parts.{IsPart, IsDecided}
use Rattle.outside_io.specs.streams.Faults.{FailedBetween}
use Rattle.raster_grids.specs.Taken.{TookBytes}
use Rattle.raster_grids.specs.BandsGrid.{IsBandsGrid, bands_faults}
use Rattle.raster_grids.specs.declared.reading.GridReason.{GridReason}
use Rattle.raster_grids.specs.declared.reading.GridReason.TheVariants.{Truncated}
use Rattle.tile_stream.specs.declared.tile.Tile.{Tile}
use Rattle.tile_stream.specs.declared.tile.TileReason.{TileReason}
use Rattle.tile_stream.specs.declared.tile.TileReason.TheVariants.{BadTileMark, BadSlot, Grid}
use Rattle.tile_stream.specs.declared.tile.TileStop.{TileStop}
use Rattle.tile_stream.specs.declared.tile.TileStop.TheVariants.{Fault, Source, OutOfMemory}

-- `T`, a row and a column below 128: the tile goes to this slot
pub record IsTileHead (bytes : List ℕ) (slot : ℕ) : Type 0 where
  pub size : length bytes ≡ 3
  pub mark : get_or bytes 0 0 ≡ 84
  pub row : get_or bytes 1 0 ≤ 127
  pub col : get_or bytes 2 0 ≤ 127
  pub slot_is : slot ≡ 128 * get_or bytes 1 0 + get_or bytes 2 0

-- the bytes are this tile: its head, and behind it the grid of its bands
pub record IsTile (bytes : List ℕ) (tile : Tile) : Type 0 where
  pub head : List ℕ
  pub grid : List ℕ
  pub joined : bytes ≡ head ++ grid
  pub head_is : IsTileHead head tile.slot
  pub grid_is : IsBandsGrid grid tile.bands

-- the bytes end before the field does
abbrev pub tile_cut : List ℕ → Faults TileReason
tile_cut bytes = wrong (Grid Truncated) (length bytes)

-- what is wrong in the first three bytes, of which there may be fewer
abbrev pub col_faults : List ℕ → Faults TileReason
col_faults head =
    unless (3 ≤ length head) (tile_cut head) (unless (get_or head 2 0 ≤ 127) (wrong BadSlot 2) none)

abbrev pub row_faults : List ℕ → Faults TileReason
row_faults head =
    unless (2 ≤ length head) (tile_cut head)
    (unless (get_or head 1 0 ≤ 127) (wrong BadSlot 1) (col_faults head))

abbrev pub tile_mark_faults : List ℕ → Faults TileReason
tile_mark_faults head =
    unless (1 ≤ length head) (tile_cut head)
    (unless (get_or head 0 0 ≡ 84) (wrong BadTileMark 0) (row_faults head))

abbrev pub tile_head_faults : List ℕ → Faults TileReason
tile_head_faults bytes = tile_mark_faults (take 3 bytes)

-- what is wrong in a grid, as a fault of its tile
abbrev pub of_grid : Faults GridReason → Faults TileReason
of_grid faults place BadTileMark = ⊥
of_grid faults place BadSlot = ⊥
of_grid faults place (Grid reason) = faults place reason

-- What is wrong first in bytes that do not begin with a tile.
abbrev pub tile_faults : List ℕ → Faults TileReason
tile_faults bytes =
    in_order IsTileHead tile_head_faults (λ slot behind. of_grid (bands_faults behind)) bytes

-- ---- what a read leaves

-- The next tile was taken and nothing else; or none was left. The first two arguments are the
-- bytes left before and after, None for a source that does not tell them.
abbrev pub TookTile : Option (List ℕ) → Option (List ℕ) → Option Tile → Type 0
TookTile old new (Some tile) = (bytes : List ℕ) × (IsTile bytes tile × TookBytes old new bytes)
TookTile None new None = new ≡ None
TookTile (Some left) new None = (left ≡ []) × (new ≡ Some [])

-- Of the bytes left, where they are told, this is what is wrong first, places counting from `at`.
-- There is one at least: where none is left, the stream ends and nothing is wrong.
abbrev pub IsToldStop : Option (List ℕ) → ℕ → TileStop → Type 0
IsToldStop None at stop = Unit {0}
IsToldStop (Some left) at (Fault f) =
    (0 < length left) × moved at (tile_faults left) f.place f.reason
IsToldStop (Some left) at Source = Unit {0}
IsToldStop (Some left) at OutOfMemory = Unit {0}

-- a read answers Source only where the source failed in it, and otherwise leaves the count
abbrev pub CountsTileStop : {X : Type 0} → Result X TileStop → ℕ → ℕ → Type 0
CountsTileStop (Ok x) old new = new ≡ old
CountsTileStop (Err (Fault f)) old new = new ≡ old
CountsTileStop (Err Source) old new = (old ≤ new) × FailedBetween old new
CountsTileStop (Err OutOfMemory) old new = new ≡ old

-- ---- laws

-- A tile is read in one way, whatever follows it; bytes that begin with one have no fault; and
-- there is one first fault.
abbrev pub TilesAreParts : Type 0
TilesAreParts = IsPart IsTile tile_faults

-- bytes begin with a tile or have a first fault
abbrev pub TilesAreDecided : Type 0
TilesAreDecided = IsDecided IsTile tile_faults
