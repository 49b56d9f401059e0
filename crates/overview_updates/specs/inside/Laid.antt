-- A mosaic that may not have begun.
use Rattle.std.specs.Prelude.{◌≡◌, ℕ, ◌<◌, true, false, List, Option, Some, None, get_or}
use Rattle.raster_values.specs.Raster.{Pixels}
use Rattle.overview_tiles.specs.Sums.{AreSums, Kept}
use Rattle.overview_tiles.specs.Tiles.{Tiles}
use Rattle.overview_updates.specs.Overview.{AreRead}

-- the mosaic has the numbers of these tiles, of which one is there
pub record HasSome (m : Kept) (tiles : Tiles) : Type 0 where
  pub sums : AreSums m tiles
  pub quarter : ℕ
  pub tile : List Pixels
  pub there : tiles quarter ≡ Some tile

-- there is a mosaic where there is a tile, and it has the numbers of them
abbrev pub HasTiles : Option Kept → Tiles → Type 0
HasTiles None tiles = (q : ℕ) → tiles q ≡ None
HasTiles (Some m) tiles = HasSome m tiles

-- the first n of the four tiles are read, and the mosaic has the numbers of them
pub record IsRead (bundle : List ℕ) (a b n : ℕ) (mosaic : Option Kept) : Type 0 where
  pub tiles : Tiles
  pub read : AreRead bundle a b n tiles
  pub has : HasTiles mosaic tiles

-- the quarters behind this one are free
abbrev pub IsFreeBehind : ℕ → Kept → Type 0
IsFreeBehind quarter m = (q : ℕ) → quarter < q → q < 4 → get_or m.laid q true ≡ false

-- no quarter before this one was laid, and unless it is the last of the four this one was
pub record IsFirstLaid (m : Kept) (quarter : ℕ) : Type 0 where
  pub before : (q : ℕ) → q < quarter → get_or m.laid q true ≡ false
  pub laid : quarter < 3 → get_or m.laid quarter true ≡ true
