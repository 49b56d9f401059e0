use Rattle.raster_cells.specs.Distance.{distance_of}
use Rattle.raster_values.proofs.MixedRuns.{IsMixed}
use Rattle.raster_values.proofs.blocks.gathering.gather_mixed.Given as goal

abbrev pub invariant-loop-i : goal.invariant-loop-i
invariant-loop-i l = IsMixed (distance_of l.plane.samples.now.kind) l.plane.depth l.plane.d l.plane.marks.now l.plane.samples.now.values l.from l.i l.initial.out l.out l.at l.n
