-- A raster that lies in a caller's arrays: a bit for each pixel, row by row and the highest of each
-- byte first, and the bytes of all values as they lie in a raster, which are 0 where a pixel is
-- invalid.
use Rattle.std.specs.Prelude.{◌≡◌, ℕ, List}
use Rattle.std.specs.Borrow.{GName}
use Rattle.raster_cells.specs.declared.kind.PixelType.{PixelType}
use Rattle.raster_cells.specs.CellList.{CellList, cells_in}
use Rattle.raster_values.specs.declared.rasters.raster_mut.RasterMut.{RasterMut}
use Rattle.raster_values.specs.declared.rasters.raster.Raster.TheInside.{Inside}
use Rattle.raster_values.specs.Raster.{Pixels, IsRaster}
use Rattle.raster_values.specs.inside.Parts.{parts_of}
use Rattle.raster_values.specs.View.{seen}

-- what no call changes: all but the values, and which array these are
pub record Frame : Type 0 where
  pub kind : PixelType
  pub rows : ℕ
  pub cols : ℕ
  pub depth : ℕ
  pub count : ℕ
  pub valid : ℕ
  pub mask : List ℕ
  pub array : GName

abbrev pub frame_of : RasterMut → Frame
frame_of t =
    record {
      kind = t.kind;
      rows = t.rows;
      cols = t.cols;
      depth = t.depth;
      count = t.count;
      valid = t.valid;
      mask = t.mask.now;
      array = t.values.ghost_name;
    }

-- the array of the values, as a caller knows it
abbrev pub array_of : RasterMut → GName
array_of t = t.values.ghost_name

-- the bytes that it has now
abbrev pub bytes_in : RasterMut → List ℕ
bytes_in t = t.values.now

-- the values of all pixels
abbrev pub lent_cells : RasterMut → CellList
lent_cells t = cells_in t.kind t.count t.values.now

-- the arrays as the two vectors of a raster
abbrev pub inside_of : RasterMut → Inside
inside_of t = parts_of t.kind t.rows t.cols t.depth t.count t.mask.now t.values.now

-- the raster
abbrev pub lent_pixels : RasterMut → Pixels
lent_pixels t = seen (inside_of t)

-- a raster is left, and all but its values is as it was
pub record StaysLent (old new : RasterMut) : Type 0 where
  pub raster : IsRaster (lent_pixels new)
  pub kept : frame_of new ≡ frame_of old
