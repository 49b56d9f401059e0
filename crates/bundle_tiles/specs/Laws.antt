-- Export and import together: a map that is exported, and imported where there is nothing, is there
-- again, without slack.
use Rattle.std.specs.Prelude.{◌≡◌, ℕ, List, [], length}
use Rattle.bundle_index.specs.Numbers.{u64_at}
use Rattle.bundle_store.specs.declared.tile_rec.TileRec.{TileRec}
use Rattle.bundle_store.specs.GroupPuts.{bundle_after_puts}
use Rattle.bundle_store.specs.Tiles.{AreTiles, IsReadable, TileMap, tiles}
use Rattle.bundle_lines.specs.Puts.{HaveRoom}
use Rattle.bundle_tiles.specs.Exported.{IsStreamOf}
use Rattle.bundle_tiles.specs.RawStream.{IsRawStream}

-- a readable bundle of a map, whose header counts no slack
pub record HoldsWithoutSlack (bundle : List ℕ) (map : TileMap) : Type 0 where
  pub readable : IsReadable bundle
  pub tiles_are : tiles bundle ≡ map
  pub slack : u64_at bundle 16 ≡ 0

-- Bytes that are the stream of a map are a stream of tiles. Those, put on an empty file, where
-- there is room for them, leave the map without slack.
abbrev pub ExportsImportWhole : Type 0
ExportsImportWhole = (map : TileMap) (bytes : List ℕ) (read : List TileRec) → AreTiles map →
    IsStreamOf bytes map → IsRawStream bytes read → HaveRoom [] read (length read) →
    HoldsWithoutSlack (bundle_after_puts [] read) map

-- Bytes are the stream of one map at most.
abbrev pub StreamsAreOfOneMap : Type 0
StreamsAreOfOneMap = (bytes : List ℕ) (one two : TileMap) → AreTiles one → AreTiles two →
    IsStreamOf bytes one → IsStreamOf bytes two → one ≡ two
