use Rattle.std.proofs.Common.{◌≡◌, ◌++◌, ◌*◌, take, drop}
use Rattle.raster_cells.specs.PixelType.{bytes_of}
use Rattle.raster_cells.specs.Values.{values_bytes}
use Rattle.raster_cells.specs.CellList.{values_in}
use Rattle.raster_cells.proofs.values.cell_bytes.write_spelled.Given as goal

abbrev pub invariant-loop-i : goal.invariant-loop-i
invariant-loop-i l = l.out ≡ values_bytes l.kind (take l.i (take l.some (drop l.n (values_in l.of l.count l.bytes)))) ++ drop (l.i * bytes_of l.kind) l.initial.out
