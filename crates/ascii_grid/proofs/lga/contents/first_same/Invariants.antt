use Rattle.std.proofs.Common.{◌-◌, ◌≤◌}
use Rattle.ascii_grid.proofs.ContentSteps.{NoneSame}
use Rattle.ascii_grid.proofs.lga.contents.first_same.Given as goal

abbrev pub invariant-loop-k : goal.invariant-loop-k
invariant-loop-k l = record {
  so_far : NoneSame l.nodata l.raster.pixels l.valid l.k;
  few : l.valid ≤ l.k;
}
