-- How a caller's arrays stand for the pixels of a raster.
use Rattle.std.specs.Prelude.{◌≡◌, ◌*◌, All, length}
use Rattle.raster_cells.specs.PixelType.{InRange}
use Rattle.raster_cells.specs.Shapes.{IsShape}
use Rattle.raster_values.specs.declared.rasters.raster.Raster.TheInside.{Inside}
use Rattle.raster_values.specs.declared.rasters.raster_ref.RasterRef.TheInside.{Inside as Arrays}
use Rattle.raster_values.specs.Raster.{Pixels}
use Rattle.raster_values.specs.View.{seen}

-- the marks and the values as those of a raster, but that the values of invalid pixels are free
abbrev pub vectors_of : Arrays → Inside
vectors_of a =
    record {
      rows = a.rows;
      cols = a.cols;
      depth = a.depth;
      marks = a.marks;
      values = a.values;
    }

abbrev pub seen_there : Arrays → Pixels
seen_there a = seen (vectors_of a)

pub record AreSeen (a : Arrays) : Type 0 where
  pub shape : IsShape a.rows a.cols a.depth
  pub marks : length a.marks ≡ a.rows * a.cols
  pub values : length a.values.values ≡ a.rows * a.cols * a.depth
  pub in_range : All (InRange a.values.kind) a.values.values
