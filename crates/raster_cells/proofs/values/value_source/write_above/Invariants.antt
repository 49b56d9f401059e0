use Rattle.std.proofs.Common.{◌≡◌, ◌++◌, ◌*◌, take, drop}
use Rattle.raster_cells.specs.PixelType.{bytes_of}
use Rattle.raster_cells.specs.Values.{values_above, values_bytes}
use Rattle.raster_cells.proofs.values.value_source.write_above.Given as goal

abbrev pub invariant-loop-i : goal.invariant-loop-i
invariant-loop-i l = l.out ≡ values_bytes l.kind (take l.i (values_above l.below l.bytes)) ++ drop (l.i * bytes_of l.kind) l.initial.out
