-- What a build makes.
use Rattle.std.specs.Prelude.{◌≡◌, ℕ, zero, suc, ◌+◌, List, Option, Some, None}
use Rattle.bundle_store.specs.Tiles.{IsBundle, TileMap, tiles}

-- 1 for a tile, and 0 for none
abbrev pub one_of : Option (List ℕ) → ℕ
one_of None = 0
one_of (Some tile) = 1

-- how many of the slots below a number have a tile
unfoldable pub filled : TileMap → ℕ → ℕ
filled map zero = 0
filled map (suc slot) = filled map slot + one_of (map slot)

-- a bundle whose entries are believed, and whose tiles are these
pub record HoldsTiles (bundle : List ℕ) (map : TileMap) : Type 0 where
  pub stands : IsBundle bundle
  pub tiles_are : tiles bundle ≡ map
