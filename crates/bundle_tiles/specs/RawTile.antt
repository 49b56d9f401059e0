-- A tile of a stream with its bytes as they are, and what is wrong first in bytes that do not begin
-- with one. Places count from the first of the bytes.
use Rattle.std.specs.Prelude.{◌≡◌, ℕ, ◌+◌, ◌*◌, ◌<◌, ◌≤◌, List, [], ◌++◌, length, drop, get_or, take, Option, None, Some, Result, Ok, Err}
use Rattle.byteorder.specs.Endian.{little_number}
use Rattle.first_fault.specs.Faults.{Faults, none, wrong, unless, moved, in_order}
use Rattle.first_fault.specs.Parts.{IsPart, IsDecided}
use Rattle.outside_io.specs.streams.Faults.{FailedBetween}
use Rattle.raster_grids.specs.Taken.{TookBytes}
use Rattle.bundle_store.specs.declared.tile_rec.TileRec.{TileRec}
use Rattle.bundle_tiles.specs.declared.raw_tile.RawHead.{RawHead}
use Rattle.bundle_tiles.specs.declared.raw_tile.RawReason.{RawReason}
use Rattle.bundle_tiles.specs.declared.raw_tile.RawReason.TheVariants.{BadTileMark, BadRow, BadCol, Truncated, BadSize}
use Rattle.bundle_tiles.specs.declared.raw_tile.RawStop.{RawStop}
use Rattle.bundle_tiles.specs.declared.raw_tile.RawStop.TheVariants.{Fault, Source, OutOfMemory}

-- ---- a tile

-- a bundle can hold a tile of so many bytes
abbrev pub IsRawSize : ℕ → Type 0
IsRawSize size = (0 < size) × (size ≤ 16777215)

-- the little-endian number of the four bytes behind the mark and the slot
abbrev pub size_in : List ℕ → ℕ
size_in head = little_number 4 (drop 3 head)

-- `R`, a row and a column below 128, and a size: a tile of so many bytes goes to this slot
pub record IsRawHead (bytes : List ℕ) (h : RawHead) : Type 0 where
  pub long : length bytes ≡ 7
  pub mark : get_or bytes 0 0 ≡ 82
  pub row : get_or bytes 1 0 ≤ 127
  pub col : get_or bytes 2 0 ≤ 127
  pub slot_is : h.slot ≡ 128 * get_or bytes 1 0 + get_or bytes 2 0
  pub size_is : h.size ≡ size_in bytes
  pub size : IsRawSize h.size

-- the bytes are this tile: its head, and behind it the tile's own bytes, whatever they are
pub record IsRawTile (bytes : List ℕ) (tile : TileRec) : Type 0 where
  pub head : List ℕ
  pub joined : bytes ≡ head ++ tile.bytes
  pub head_is : IsRawHead head (record { slot = tile.slot; size = length tile.bytes })

-- ---- the first fault

-- the bytes end before the field does
abbrev pub raw_cut : List ℕ → Faults RawReason
raw_cut bytes = wrong Truncated (length bytes)

-- what is wrong in the first seven bytes, field by field, of which there may be fewer
abbrev pub size_faults : List ℕ → Faults RawReason
size_faults head =
    unless (7 ≤ length head) (raw_cut head)
    (unless (IsRawSize (size_in head)) (wrong BadSize 3) none)

abbrev pub col_faults : List ℕ → Faults RawReason
col_faults head =
    unless (3 ≤ length head) (raw_cut head)
    (unless (get_or head 2 0 ≤ 127) (wrong BadCol 2) (size_faults head))

abbrev pub row_faults : List ℕ → Faults RawReason
row_faults head =
    unless (2 ≤ length head) (raw_cut head)
    (unless (get_or head 1 0 ≤ 127) (wrong BadRow 1) (col_faults head))

abbrev pub mark_faults : List ℕ → Faults RawReason
mark_faults head =
    unless (1 ≤ length head) (raw_cut head)
    (unless (get_or head 0 0 ≡ 82) (wrong BadTileMark 0) (row_faults head))

abbrev pub raw_head_faults : List ℕ → Faults RawReason
raw_head_faults bytes = mark_faults (take 7 bytes)

-- the tile's own bytes are one field
abbrev pub body_faults : ℕ → List ℕ → Faults RawReason
body_faults size behind = unless (size ≤ length behind) (raw_cut behind) none

-- What is wrong first in bytes that do not begin with a tile.
abbrev pub raw_faults : List ℕ → Faults RawReason
raw_faults bytes =
    in_order IsRawHead raw_head_faults (λ h behind. body_faults h.size behind) bytes

-- ---- what a read leaves

-- The next tile was taken and nothing else; or none was left. The first two arguments are the
-- bytes left before and after, None for a source that does not tell them.
abbrev pub TookRaw : Option (List ℕ) → Option (List ℕ) → Option TileRec → Type 0
TookRaw old new (Some tile) = (bytes : List ℕ) × (IsRawTile bytes tile × TookBytes old new bytes)
TookRaw None new None = new ≡ None
TookRaw (Some left) new None = (left ≡ []) × (new ≡ Some [])

-- Of the bytes left, where they are told, this is what is wrong first, places counting from `at`.
-- There is one at least: where none is left, the stream ends and nothing is wrong.
abbrev pub IsToldRaw : Option (List ℕ) → ℕ → RawStop → Type 0
IsToldRaw None at stop = Unit {0}
IsToldRaw (Some left) at (Fault f) =
    (0 < length left) × moved at (raw_faults left) f.place f.reason
IsToldRaw (Some left) at Source = Unit {0}
IsToldRaw (Some left) at OutOfMemory = Unit {0}

-- a read answers Source only where the source failed in it, and otherwise leaves the count
abbrev pub CountsRawStop : {X : Type 0} → Result X RawStop → ℕ → ℕ → Type 0
CountsRawStop (Ok x) old new = new ≡ old
CountsRawStop (Err (Fault f)) old new = new ≡ old
CountsRawStop (Err Source) old new = (old ≤ new) × FailedBetween old new
CountsRawStop (Err OutOfMemory) old new = new ≡ old

-- ---- laws

-- A tile is read in one way, whatever follows it; bytes that begin with one have no fault; and
-- there is one first fault.
abbrev pub RawTilesAreParts : Type 0
RawTilesAreParts = IsPart IsRawTile raw_faults

-- bytes begin with a tile or have a first fault
abbrev pub RawTilesAreDecided : Type 0
RawTilesAreDecided = IsDecided IsRawTile raw_faults
