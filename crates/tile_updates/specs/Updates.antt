-- The updates that an input of tiles asks for: for each tile, in order, its slot and the blobs that
-- are chosen for its bands.
use Rattle.std.specs.Prelude.{◌≡◌, ℕ, ◌^◌, ◌≤◌, List, length, map, sum, All, Option, None, Some}
use Rattle.lerc_header.specs.declared.header.Version.{Version}
use Rattle.lerc_encode.specs.Choice.{chosen_bands}
use Rattle.lerc_encode.specs.Encoded.{AreEncodedOnce, BandsNeedV4}
use Rattle.bundle_store.specs.declared.tile_rec.TileRec.{TileRec}
use Rattle.tile_stream.specs.declared.tile.Tile.{Tile}
use Rattle.tile_stream.specs.Stream.{IsStream}

-- the blobs of a tile's bands in this version and with this step, one behind the other
abbrev pub tile_bytes : Version → ℕ → Tile → List ℕ
tile_bytes v step t = chosen_bands None t.bands v step

-- the tile's slot, and these
abbrev pub update_of : Version → ℕ → Tile → TileRec
update_of v step t = record { slot = t.slot; bytes = tile_bytes v step t }

abbrev pub updates_of : Version → ℕ → List Tile → List TileRec
updates_of v step tiles = map (update_of v step) tiles

-- how many bytes all have together
abbrev pub kept_bytes : List TileRec → ℕ
kept_bytes updates = sum (map (λ u. length u.bytes) updates)

-- the version has a place for the tile's depths, and a bundle can hold so many bytes
pub record Passes (v : Version) (step : ℕ) (t : Tile) : Type 0 where
  pub taken : ¬ BandsNeedV4 v t.bands
  pub small : length (tile_bytes v step t) ≤ 16777215

-- each tile passes, and all together are not too many, nor are their bytes
pub record AllPass (v : Version) (step : ℕ) (tiles : List Tile) : Type 0 where
  pub few : length tiles ≤ 1048576
  pub each : All (Passes v step) tiles
  pub kept : kept_bytes (updates_of v step tiles) ≤ 2 ^ 30

-- the bytes are a stream of tiles that pass, and these are the updates of it
pub record IsUpdates (v : Version) (step : ℕ) (bytes : List ℕ)
    (updates : List TileRec) : Type 0 where
  pub tiles : List Tile
  pub stream : IsStream bytes tiles
  pub pass : AllPass v step tiles
  pub updates_are : updates ≡ updates_of v step tiles

-- It is so of the bytes of an input, or of some bytes where the input is not told.
abbrev pub OfBytes : Option (List ℕ) → (List ℕ → Type 0) → Type 0
OfBytes None P = (bytes : List ℕ) × P bytes
OfBytes (Some bytes) P = P bytes

-- The updates are those of some tiles, and the bytes of each are the blobs of exactly one list of
-- bands, which are near the tile's.
pub record AreEncoded (v : Version) (step : ℕ) (updates : List TileRec) : Type 0 where
  pub tiles : List Tile
  pub updates_are : updates ≡ updates_of v step tiles
  pub encoded : All (λ t. AreEncodedOnce (tile_bytes v step t) t.bands step) tiles
