-- What an import leaves: of the stream so many tiles as were read in whole groups are put, as `put`
-- puts tiles.
use Rattle.std.specs.Prelude.{◌≡◌, ℕ, ◌*◌, ◌^◌, List, length, Option, Some, None, Bool, Result, Ok, Err}
use Rattle.outside_io.specs.volume.History.{History}
use Rattle.bundle_store.specs.declared.tile_rec.TileRec.{TileRec}
use Rattle.bundle_store.specs.Session.{SessionState}
use Rattle.bundle_lines.specs.Gave.{PutEnd}
use Rattle.bundle_lines.specs.Puts.{PutsEnd}
use Rattle.bundle_lines.specs.declared.stop.PutStop.TheVariants.{Output as PutOutput, Volume as PutVolume, Full as PutFull}
use Rattle.bundle_tiles.specs.declared.taking.ImportStop.{ImportStop}
use Rattle.bundle_tiles.specs.declared.taking.ImportStop.TheVariants.{Stream, Output, Volume, Full, TooManyTiles}
use Rattle.bundle_tiles.specs.RawStream.{BeginsWith, IsRawStream, IsStreamFault}

abbrev pub ImportEnd : Type 0
ImportEnd = Result (Unit {0}) ImportStop

-- How the puts of the tiles that were read end. What stops the reading lets them end well.
abbrev pub puts_end_of : ImportEnd → PutEnd
puts_end_of (Err Output) = Err PutOutput
puts_end_of (Err Volume) = Err PutVolume
puts_end_of (Err (Full len)) = Err (PutFull len)
puts_end_of end = Ok tt

-- the bytes begin with these tiles
abbrev pub StartsWith : List ℕ → List TileRec → Type 0
StartsWith bytes tiles = (rest : List ℕ) × BeginsWith bytes tiles rest

-- What an end says of the bytes of the source, and of the tiles that were read from it: these are
-- all that it has; or it begins with them, and a stop of the stream is its first fault, or it has
-- 2^38 tiles.
abbrev pub ReadsStream : ImportEnd → Option (List ℕ) → List TileRec → Type 0
ReadsStream end None tiles = Unit {0}
ReadsStream (Ok x) (Some bytes) tiles = IsRawStream bytes tiles
ReadsStream (Err (Stream fault)) (Some bytes) tiles =
    IsStreamFault bytes fault × StartsWith bytes tiles
ReadsStream (Err stop) (Some bytes) tiles = StartsWith bytes tiles

-- so many tiles are whole groups of 64
abbrev pub AreGroupsOf64 : ℕ → Type 0
AreGroupsOf64 count = (groups : ℕ) × (count ≡ 64 * groups)

-- Where the reading was stopped, whole groups were read before: nothing of the group that could not
-- be read whole is put.
abbrev pub InWholeGroups : ImportEnd → ℕ → Type 0
InWholeGroups (Ok x) count = Unit {0}
InWholeGroups (Err Output) count = Unit {0}
InWholeGroups (Err Volume) count = Unit {0}
InWholeGroups (Err (Full len)) count = Unit {0}
InWholeGroups (Err TooManyTiles) count = count ≡ 2 ^ 38
InWholeGroups (Err stop) count = AreGroupsOf64 count

-- How an import ends, and what it leaves. These tiles were read, and put as `put` puts tiles: at
-- each moment each image stands for the tiles of the start with the first few of them, those with a
-- mark by then, or also the next group of up to 64, whole; and the lines are those of tiles with a
-- mark.
pub record Imports (end : ImportEnd) (s : SessionState) (told : Bool) (old new : History)
    (left : Option (List ℕ)) (held_old held_new : Option (List ℕ)) : Type 0 where
  pub tiles : List TileRec
  pub marks : List ℕ
  pub reads : ReadsStream end left tiles
  pub groups : InWholeGroups end (length tiles)
  pub puts : PutsEnd (puts_end_of end) tiles marks s told old new held_old held_new
