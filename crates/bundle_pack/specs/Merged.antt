-- The tiles of several bundles as one map.
use Rattle.std.specs.Prelude.{◌≡◌, ℕ, List, [], ◌∷◌, length, slice_get, Some}
use Rattle.std.specs.Option.{option_or}
use Rattle.bundle_store.specs.Images.{StandsFor}
use Rattle.bundle_store.specs.Tiles.{TileMap, no_tiles}
use Rattle.opened_bundle.specs.Files.{Files}

-- at each slot the tile of the last map that has the slot
abbrev pub merged : List TileMap → TileMap
merged [] = no_tiles
merged (m ∷ ms) = λ slot. option_or (merged ms slot) (m slot)

-- each of the files is sound, and stands for the map of the same number
pub record StandFor (files : List Files) (maps : List TileMap) : Type 0 where
  pub many : length maps ≡ length files
  pub each : (i : ℕ) (f : Files) (m : TileMap) → slice_get files i ≡ Some f
      → slice_get maps i ≡ Some m → StandsFor f.bundle f.journal m
