-- Sessions.
use Rattle.std.specs.Prelude.{◌≡◌, ◌≢◌, ◌⊎◌, ℕ, ◌+◌, ◌-◌, ◌^◌, ◌<◌, ◌≤◌, ◌==◌, nat_lt, Bool, List, length, take, drop, Option, Some, None, if◌then◌else◌}
use Rattle.bundle_index.specs.Sizes.{index_end, slot_count}
use Rattle.bundle_index.specs.Entry.{entry_at}
use Rattle.bundle_index.specs.Header.{header_fault}
use Rattle.bundle_index.specs.declared.entry.Entry.{Entry}
use Rattle.bundle_index.specs.declared.header.HeaderFault.{HeaderFault}
use Rattle.bundle_store.specs.declared.fault.StoreFault.{StoreFault}
use Rattle.bundle_store.specs.declared.fault.StoreFault.TheVariants.{Device, BadBundle, NoTile, Beyond, TileTooLarge, EmptyTile, Full, NotEmpty, OutOfMemory, Stopped}
use Rattle.bundle_store.specs.declared.tile_rec.TileRec.{TileRec}
use Rattle.outside_io.specs.volume.Disk.{Disk, IsQuiet}
use Rattle.side_journal.specs.Says.{IsOpen}
use Rattle.bundle_store.specs.Build.{EachFits, bytes_at}
use Rattle.bundle_store.specs.GroupPuts.{NoRoom}
use Rattle.bundle_store.specs.Kept.{FrontBytes, Keeps}
use Rattle.bundle_store.specs.Tiles.{Opens}

-- all that a session keeps: whether a put or a build of it answered Device, and the header and the
-- index of its bundle
pub record SessionState : Type 0 where
  pub stopped : Bool
  pub front : FrontBytes

-- a session can serve a bundle
pub record Serves (s : SessionState) (bundle : List ℕ) : Type 0 where
  pub opens : Opens bundle
  pub keeps : Keeps s.front bundle

-- What a session needs to put or to build: it can serve the bundle, nothing is pending, and the
-- journal is not open.
pub record IsReadyToPut (s : SessionState) (d : Disk) : Type 0 where
  pub serves : Serves s d.bundle.now
  pub quiet : IsQuiet d
  pub closed : ¬ IsOpen d.journal.now

-- the first test that fails as a bundle is opened: its length, which is both numbers, or one of
-- its header
abbrev pub open_fault : List ℕ → Option HeaderFault
open_fault bundle =
    if length bundle == 0 then None
    else (if nat_lt (length bundle) index_end then Some
    (record { place = length bundle; found = length bundle }) else header_fault bundle)

-- why opening refuses
abbrev pub OpenRefuses : List ℕ → StoreFault → Type 0
OpenRefuses bundle Device = Unit {0}
OpenRefuses bundle (BadBundle at number) = open_fault bundle
    ≡ Some (record { place = at; found = number })
OpenRefuses bundle OutOfMemory = Opens bundle
OpenRefuses bundle _ = ⊥

-- A number that fails the test of its place as a bundle is opened, in whatever bundle.
abbrev pub IsHeaderFault : ℕ → ℕ → Type 0
IsHeaderFault place found = ((place ≡ 0) × (found ≢ 3))
    ⊎ (((place ≡ 4) × (found ≢ slot_count)) ⊎ ((place ≡ 12) × (found ≢ 5)))

abbrev pub OpenFails : StoreFault → Type 0
OpenFails Device = Unit {0}
OpenFails (BadBundle place found) =
    ((place ≡ found) × (0 < found) × (found < index_end)) ⊎ IsHeaderFault place found
OpenFails OutOfMemory = Unit {0}
OpenFails _ = ⊥

-- the bytes that the slot's entry names, where they are all there
pub record GetGives (bundle : List ℕ) (slot : ℕ) (tile : List ℕ) : Type 0 where
  pub some : 0 < (entry_at bundle slot).size
  pub within : (entry_at bundle slot).offset + (entry_at bundle slot).size ≤ length bundle
  pub bytes : tile ≡ take (entry_at bundle slot).size (drop (entry_at bundle slot).offset bundle)

-- the slot's entry names more bytes than the bundle has from its offset on
pub record IsBeyond (bundle : List ℕ) (slot : ℕ) (entry : Entry) (got : ℕ) : Type 0 where
  pub entry_is : entry ≡ entry_at bundle slot
  pub got_is : got ≡ length bundle - entry.offset

-- why a get refuses
abbrev pub GetRefuses : List ℕ → ℕ → StoreFault → Type 0
GetRefuses bundle slot Device = Unit {0}
GetRefuses bundle slot NoTile = (entry_at bundle slot).size ≡ 0
GetRefuses bundle slot (Beyond entry got) = IsBeyond bundle slot entry got
GetRefuses bundle slot OutOfMemory = 0 < (entry_at bundle slot).size
GetRefuses bundle slot Stopped = Unit {0}
GetRefuses bundle slot _ = ⊥

-- The kept numbers of a refusal of a get fail the test that they name, of whatever volume.
abbrev pub GetFails : StoreFault → Type 0
GetFails Device = Unit {0}
GetFails NoTile = Unit {0}
GetFails (Beyond entry got) = got < entry.size
GetFails OutOfMemory = Unit {0}
GetFails Stopped = Unit {0}
GetFails _ = ⊥

-- why a put of a tile of so many bytes refuses, over whatever volume
abbrev pub PutFails : ℕ → StoreFault → Type 0
PutFails size Device = (0 < size) × (size ≤ 16777215)
PutFails size (TileTooLarge at len) = (at ≡ 0) × (len ≡ size) × (16777215 < size)
PutFails size (EmptyTile at) = (at ≡ 0) × (size ≡ 0)
PutFails size (Full len) = (0 < size) × (size ≤ 16777215) × (2 ^ 40 < len + 4 + size)
PutFails size Stopped = Unit {0}
PutFails size _ = ⊥

-- the length that a refusal keeps, if it keeps one, is the bundle's
abbrev pub KeepsLength : ℕ → StoreFault → Type 0
KeepsLength size (Full len) = len ≡ size
KeepsLength size (NotEmpty len) = len ≡ size
KeepsLength size _ = Unit {0}

-- the first tile that no bundle can hold
pub record IsFirstEmpty (tiles : List TileRec) (at : ℕ) : Type 0 where
  pub within : at < length tiles
  pub empty : length (bytes_at tiles at) ≡ 0
  pub before : (i : ℕ) → i < at → (0 < length (bytes_at tiles i)) ×
      (length (bytes_at tiles i) < 16777216)

pub record IsFirstLarge (tiles : List TileRec) (at len : ℕ) : Type 0 where
  pub within : at < length tiles
  pub len_is : len ≡ length (bytes_at tiles at)
  pub large : 16777215 < len
  pub before : (i : ℕ) → i < at → (0 < length (bytes_at tiles i)) ×
      (length (bytes_at tiles i) < 16777216)

-- why a build of these tiles refuses, over whatever volume
abbrev pub BuildFails : List TileRec → StoreFault → Type 0
BuildFails tiles Device = EachFits tiles
BuildFails tiles (TileTooLarge at len) = IsFirstLarge tiles at len
BuildFails tiles (EmptyTile at) = IsFirstEmpty tiles at
BuildFails tiles (NotEmpty len) = EachFits tiles × (0 < len)
BuildFails tiles OutOfMemory = EachFits tiles
BuildFails tiles Stopped = Unit {0}
BuildFails tiles _ = ⊥

-- why a put of these tiles at once refuses, over whatever volume
abbrev pub GroupFails : List TileRec → StoreFault → Type 0
GroupFails tiles Device = EachFits tiles
GroupFails tiles (TileTooLarge at len) = IsFirstLarge tiles at len
GroupFails tiles (EmptyTile at) = IsFirstEmpty tiles at
GroupFails tiles (Full len) = EachFits tiles × ((size : ℕ) × NoRoom size tiles len)
GroupFails tiles Stopped = Unit {0}
GroupFails tiles _ = ⊥
