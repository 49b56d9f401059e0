-- What is counted of a batch.
use Rattle.std.specs.Prelude.{◌≡◌, ℕ, ◌*◌, ◌≤◌, List, length}
use Rattle.raster_values.specs.Raster.{Pixels}
use Rattle.tile_updates.specs.Tiles.{tiles_of, values_of}

-- there are as many slots as tiles, which have so many values
pub record AreCounted (slots : List ℕ) (tiles : List (List Pixels)) (values : ℕ) : Type 0 where
  pub long : length slots ≡ length tiles
  pub values_are : values ≡ values_of (tiles_of slots tiles)
  pub few : values ≤ 16777216 * length tiles
