use Rattle.std.proofs.Common.{◌≡◌, ◌++◌, ◌*◌, take, drop}
use Rattle.lane_kernels.specs.Within.{sums_within}
use Rattle.raster_cells.specs.PixelType.{bytes_of}
use Rattle.raster_cells.specs.Values.{values_bytes}
use Rattle.raster_cells.proofs.values.value_source.write_sums.Given as goal

abbrev pub invariant-loop-i : goal.invariant-loop-i
invariant-loop-i l = l.out ≡ values_bytes l.kind (take l.i (sums_within l.numbers l.sums.offset l.sums.step l.sums.gap)) ++ drop (l.i * bytes_of l.kind) l.initial.out
