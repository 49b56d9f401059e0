use Rattle.std.proofs.Common.{◌≤◌, ◌-◌, map}
use Rattle.raster_cells.specs.Distance.{distance_of}
use Rattle.raster_values.specs.inside.Runs.{run_values, Gathers}
use Rattle.raster_values.proofs.blocks.gathering.gather_run.Given as goal

abbrev pub invariant-loop-k : goal.invariant-loop-k
invariant-loop-k l = record {
  within : l.k ≤ l.count;
  gathered : Gathers (map (distance_of l.plane.samples.now.kind) (run_values l.plane.depth l.plane.d l.plane.marks.now l.plane.samples.now.values l.from l.k)) l.initial.out l.out l.at l.n;
}

abbrev pub decreases-loop-k : goal.decreases-loop-k
decreases-loop-k l = l.count - l.k
