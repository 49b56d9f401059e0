use Rattle.std.proofs.Common.{◌≡◌, ◌++◌, ◌*◌, take, drop}
use Rattle.raster_cells.specs.PixelType.{bytes_of}
use Rattle.raster_cells.specs.Values.{values_bytes}
use Rattle.lerc_encode.specs.Ranges.{greatests, leasts}
use Rattle.lerc_encode.proofs.image.forms.write_ranges.Given as goal

abbrev pub invariant-loop-d : goal.invariant-loop-d
invariant-loop-d g l = record {
  low : l.low ≡ values_bytes l.kind (take l.d (leasts (g.V.View.pixels l.raster))) ++ drop (l.d * bytes_of l.kind) l.initial.low;
  high : l.high ≡ values_bytes l.kind (take l.d (greatests (g.V.View.pixels l.raster))) ++ drop (l.d * bytes_of l.kind) l.initial.high;
}
