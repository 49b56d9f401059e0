use Rattle.std.proofs.Common.{◌≤◌, ◌-◌, length}
use Rattle.raster_values.specs.inside.Runs.{run_values, IsRange}
use Rattle.raster_values.proofs.blocks.ranging.range_by_runs.Given as goal

abbrev pub invariant-loop-k : goal.invariant-loop-k
invariant-loop-k l = record {
  within : l.k ≤ length l.marks;
  range : IsRange l.found (run_values l.plane.depth l.plane.d l.marks l.plane.samples.now.values 0 l.k);
}

abbrev pub decreases-loop-k : goal.decreases-loop-k
decreases-loop-k l = length l.marks - l.k
