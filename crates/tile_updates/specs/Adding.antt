-- Tiles whose updates are added to those that were made before, and the first that is refused.
use Rattle.std.specs.Prelude.{◌≡◌, ℕ, ◌^◌, ◌<◌, ◌≤◌, List, [], ◌∷◌, ◌++◌, length, All}
use Rattle.lerc_header.specs.declared.header.Version.{Version}
use Rattle.bundle_store.specs.declared.tile_rec.TileRec.{TileRec}
use Rattle.tile_stream.specs.declared.tile.Tile.{Tile}
use Rattle.tile_updates.specs.declared.stop.BatchStop.{BatchStop}
use Rattle.tile_updates.specs.declared.stop.BatchStop.TheVariants.{TileTooLarge, KeptTooMuch, OutOfMemory}
use Rattle.tile_updates.specs.Updates.{Passes, kept_bytes, updates_of, update_of}

-- each tile passes, and behind the updates before them their bytes are not too many
pub record MayBeAdded (v : Version) (step : ℕ) (before : List TileRec)
    (tiles : List Tile) : Type 0 where
  pub each : All (Passes v step) tiles
  pub kept : kept_bytes (before ++ updates_of v step tiles) ≤ 2 ^ 30

-- Behind these updates one more is refused so. The second test is made only where the first holds.
abbrev pub StopsAdding : List TileRec → TileRec → BatchStop → Type 0
StopsAdding before update (TileTooLarge at len) =
    (len ≡ length update.bytes) × ((16777215 < len) × (at ≡ length before))
StopsAdding before update (KeptTooMuch at) =
    (length update.bytes ≤ 16777215)
    × ((2 ^ 30 < kept_bytes (before ++ update ∷ [])) × (at ≡ length before))
StopsAdding before update OutOfMemory = Unit {0}

-- of these tiles the first ones may be added, and the next one is refused so
pub record StopsBatch (v : Version) (step : ℕ) (before : List TileRec) (tiles : List Tile)
    (stop : BatchStop) : Type 0 where
  pub front : List Tile
  pub tile : Tile
  pub behind : List Tile
  pub split : tiles ≡ front ++ tile ∷ behind
  pub added : MayBeAdded v step before front
  pub refused : StopsAdding (before ++ updates_of v step front) (update_of v step tile) stop

-- What a stop tells of the tiles: want of memory nothing.
abbrev pub TellsBatchStop : Version → ℕ → List TileRec → List Tile → BatchStop → Type 0
TellsBatchStop v step before tiles (TileTooLarge at len) =
    StopsBatch v step before tiles (TileTooLarge at len)
TellsBatchStop v step before tiles (KeptTooMuch at) =
    StopsBatch v step before tiles (KeptTooMuch at)
TellsBatchStop v step before tiles OutOfMemory = Unit {0}
