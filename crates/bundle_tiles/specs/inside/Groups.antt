-- A group of tiles, as it is read and put.
use Rattle.std.specs.Prelude.{◌≡◌, ℕ, ◌+◌, ◌<◌, ◌≤◌, List, length, Option, Some, Bool, Err}
use Rattle.outside_io.specs.streams.Source.{IsAtEnd}
use Rattle.outside_io.specs.volume.History.{History}
use Rattle.raster_grids.specs.Taken.{TookBytes}
use Rattle.bundle_store.specs.declared.tile_rec.TileRec.{TileRec}
use Rattle.bundle_store.specs.Session.{SessionState}
use Rattle.bundle_lines.specs.Puts.{PutsEnd}
use Rattle.bundle_lines.specs.declared.stop.PutStop.{PutStop}
use Rattle.bundle_lines.specs.declared.stop.PutStop.TheVariants as put
use Rattle.bundle_tiles.specs.declared.raw_tile.RawStop.{RawStop}
use Rattle.bundle_tiles.specs.declared.raw_tile.RawStop.TheVariants.{Fault, Source, OutOfMemory}
use Rattle.bundle_tiles.specs.declared.taking.Group.{Group}
use Rattle.bundle_tiles.specs.declared.taking.ImportStop.{ImportStop}
use Rattle.bundle_tiles.specs.declared.taking.ImportStop.TheVariants as stops
use Rattle.bundle_tiles.specs.Imported.{ImportEnd, puts_end_of}
use Rattle.bundle_tiles.specs.RawStream.{IsRawStream, IsStreamFault}

-- why reading ends an import
abbrev pub read_stop_of : RawStop → ImportStop
read_stop_of (Fault fault) = stops.Stream fault
read_stop_of Source = stops.Source
read_stop_of OutOfMemory = stops.OutOfMemory

-- why putting ends it
abbrev pub put_stop_of : PutStop → ImportStop
put_stop_of put.Output = stops.Output
put_stop_of put.Volume = stops.Volume
put_stop_of (put.Full len) = stops.Full len

-- such a stop, or want of memory
abbrev pub IsPutStop : ImportStop → Type 0
IsPutStop (stops.Stream fault) = ⊥
IsPutStop stops.Source = ⊥
IsPutStop stops.TooManyTiles = ⊥
IsPutStop stop = Unit {0}

-- these tiles were taken and nothing else, and the place behind them counts from `at`
pub record TookGroup (old new : Option (List ℕ)) (at end : ℕ) (tiles : List TileRec) : Type 0 where
  pub bytes : List ℕ
  pub stream : IsRawStream bytes tiles
  pub took : TookBytes old new bytes
  pub end_is : end ≡ at + length bytes

-- the same of all tiles of a group: 64, or fewer where these are the last
pub record IsGroup (old new : Option (List ℕ)) (at : ℕ) (group : Group) : Type 0 where
  pub took : TookGroup old new at group.end group.tiles.items
  pub most : length group.tiles.items ≤ 64
  pub last : length group.tiles.items < 64 → IsAtEnd new

-- of the bytes left, where they are told, this is the first fault as a stream, counted from `at`
abbrev pub IsToldStream : Option (List ℕ) → ℕ → RawStop → Type 0
IsToldStream (Some left) at (Fault f) = (place : ℕ)
    × ((f.place ≡ at + place)
    × IsStreamFault left (record { reason = f.reason; place = place }))
IsToldStream left at stop = Unit {0}

-- A group was put as `put` puts tiles; or memory for its marks was refused, and nothing was done.
abbrev pub PutsGroup : ImportEnd → List TileRec → SessionState → SessionState → Bool → History
    → History → Option (List ℕ) → Option (List ℕ) → Type 0
PutsGroup (Err stops.OutOfMemory) tiles s s_new told old new held held_new =
    (s_new ≡ s) × ((new ≡ old) × (held_new ≡ held))
PutsGroup end tiles s s_new told old new held held_new = (marks : List ℕ)
    × PutsEnd (puts_end_of end) tiles marks s_new told old new held held_new
