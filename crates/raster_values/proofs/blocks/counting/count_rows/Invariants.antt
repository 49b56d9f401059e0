use Rattle.std.proofs.Common.{◌≡◌, ◌≤◌, ◌-◌, ◌*◌, length}
use Rattle.raster_values.specs.inside.Runs.{rows_places}
use Rattle.raster_values.proofs.blocks.counting.count_rows.Given as goal

abbrev pub invariant-loop-i : goal.invariant-loop-i
invariant-loop-i g l = record {
  found : l.n ≡ length (rows_places (g.M.MarkSource.marks l.marks) l.window.cols l.window.row l.window.col (l.i - l.window.row) l.window.wide);
  within : l.n ≤ (l.i - l.window.row) * l.window.wide;
}
