-- A raster of which the mask is known.
use Rattle.std.specs.Prelude.{◌≡◌, ℕ, ◌*◌, ◌<◌, List, get_or, None, is_some}
use Rattle.raster_cells.specs.declared.kind.PixelType.{PixelType}
use Rattle.raster_values.specs.Raster.{Pixels, IsRaster}
use Rattle.lerc_c.specs.Arrays.{mark_at}

pub record IsMarked (kind : PixelType) (rows cols depth : ℕ) (mask : List ℕ) (r : Pixels) :
    Type 0 where
  pub raster : IsRaster r
  pub kind_is : r.kind ≡ kind
  pub rows_are : r.rows ≡ rows
  pub cols_are : r.cols ≡ cols
  pub depth_is : r.depth ≡ depth
  pub marks : (k : ℕ) → k < rows * cols → is_some (get_or r.pixels k None) ≡ mark_at mask k
