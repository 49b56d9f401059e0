use Rattle.std.proofs.Common.{◌≡◌, ◌≤◌, ◌-◌, length}
use Rattle.raster_values.specs.inside.Runs.{IsRange, run_values}
use Rattle.raster_values.proofs.blocks.ranging.range_by_pieces.Given as goal

abbrev pub invariant-loop-k : goal.invariant-loop-k
invariant-loop-k l = record {
  within : l.k ≤ l.count;
  room : length l.distances ≡ 256;
  range : IsRange l.found (run_values l.plane.depth l.plane.d l.plane.marks.now l.plane.samples.now.values 0 l.k);
}

abbrev pub decreases-loop-k : goal.decreases-loop-k
decreases-loop-k l = l.count - l.k
