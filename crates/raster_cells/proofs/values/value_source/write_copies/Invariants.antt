use Rattle.std.proofs.Common.{◌≡◌, ◌++◌, ◌*◌, take, drop, replicate}
use Rattle.raster_cells.specs.PixelType.{bytes_of}
use Rattle.raster_cells.specs.Values.{values_bytes}
use Rattle.raster_cells.proofs.values.value_source.write_copies.Given as goal

abbrev pub invariant-loop-i : goal.invariant-loop-i
invariant-loop-i l = l.out ≡ values_bytes l.kind (take l.i (replicate l.count l.value)) ++ drop (l.i * bytes_of l.kind) l.initial.out
