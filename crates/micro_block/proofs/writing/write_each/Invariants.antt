use Rattle.std.proofs.Common.{◌≡◌, ◌++◌, ◌*◌, take, drop}
use Rattle.raster_cells.specs.PixelType.{bytes_of}
use Rattle.raster_cells.specs.Values.{values_bytes}
use Rattle.micro_block.specs.inside.Stepping.{values_above}
use Rattle.micro_block.proofs.writing.write_each.Given as goal

abbrev pub invariant-loop-i : goal.invariant-loop-i
invariant-loop-i l = l.out ≡ values_bytes l.kind (take l.i (values_above l.kind l.distances)) ++ drop (l.i * bytes_of l.kind) l.initial.out
