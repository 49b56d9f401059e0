use Rattle.std.proofs.Common.{◌≡◌, length}
use Rattle.delta_mode.specs.inside.Starts.{AreStarts, HasSymbols}
use Rattle.delta_mode.proofs.starts.write_starts.Given as goal

abbrev pub invariant-loop-rest : goal.invariant-loop-rest
invariant-loop-rest g l = record {
  room : length l.out ≡ length l.fn.out;
  starts : AreStarts (g.V.View.pixels l.plane.raster.now) l.place l.count l.rest;
  symbols : HasSymbols (g.V.View.pixels l.plane.raster.now) l.plane.d l.place l.count l.rest l.out;
}

abbrev pub decreases-loop-rest : goal.decreases-loop-rest
decreases-loop-rest g l = l.rest
