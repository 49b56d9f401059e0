-- Values in a caller's array.
use Rattle.std.specs.Prelude.{ℕ}
use Rattle.std.specs.Borrow.{GName}
use Rattle.raster_cells.specs.declared.kind.PixelType.{PixelType}
use Rattle.raster_cells.specs.CellList.{CellList, cells_in}
use Rattle.raster_values.specs.declared.rasters.lent_cells.LentCells.{LentCells}

-- what no call changes: all but the values, and which array these are
pub record CellFrame : Type 0 where
  pub kind : PixelType
  pub count : ℕ
  pub array : GName

abbrev pub cell_frame : LentCells → CellFrame
cell_frame c = record { kind = c.kind; count = c.count; array = c.values.ghost_name }

-- the values
abbrev pub cells_there : LentCells → CellList
cells_there c = cells_in c.kind c.count c.values.now
