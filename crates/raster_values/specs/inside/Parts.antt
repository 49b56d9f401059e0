-- Arrays as the two vectors of a raster.
use Rattle.std.specs.Prelude.{ℕ, ◌*◌, List}
use Rattle.raster_cells.specs.declared.kind.PixelType.{PixelType}
use Rattle.raster_cells.specs.Masks.{marks_in}
use Rattle.raster_cells.specs.CellList.{cells_in}
use Rattle.raster_values.specs.declared.rasters.raster.Raster.TheInside.{Inside}
use Rattle.raster_values.specs.View.{IsInside}

abbrev pub parts_of : PixelType → ℕ → ℕ → ℕ → ℕ → List ℕ → List ℕ → Inside
parts_of kind rows cols depth count mask values =
    record {
      rows = rows;
      cols = cols;
      depth = depth;
      marks = marks_in (rows * cols) mask;
      values = cells_in kind count values;
    }

-- what holds of the arrays of a raster
abbrev pub AreParts : PixelType → ℕ → ℕ → ℕ → ℕ → List ℕ → List ℕ → Type 0
AreParts kind rows cols depth count mask values =
    IsInside (parts_of kind rows cols depth count mask values)
