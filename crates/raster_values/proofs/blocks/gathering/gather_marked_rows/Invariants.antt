use Rattle.std.proofs.Common.{◌≤◌, ◌-◌, ◌*◌, map}
use Rattle.raster_cells.specs.Distance.{distance_of}
use Rattle.raster_values.specs.inside.Runs.{rows_values, Gathers}
use Rattle.raster_values.proofs.blocks.gathering.gather_marked_rows.Given as goal

abbrev pub invariant-loop-i : goal.invariant-loop-i
invariant-loop-i l = record {
  gathered : Gathers (map (distance_of l.plane.samples.now.kind) (rows_values l.plane.depth l.plane.d l.plane.marks.now l.plane.samples.now.values l.window.cols l.window.row l.window.col (l.i - l.window.row) l.window.wide)) l.initial.out l.out 0 l.n;
  within : l.n ≤ (l.i - l.window.row) * l.window.wide;
}
