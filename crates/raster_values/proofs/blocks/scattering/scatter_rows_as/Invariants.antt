use Rattle.std.proofs.Common.{◌≡◌, ◌-◌, length, take}
use Rattle.raster_values.specs.inside.Runs.{rows_places, rows_values, LeavesRows}
use Rattle.raster_cells.specs.CellList.{KeepsForm}
use Rattle.raster_values.proofs.blocks.scattering.scatter_rows_as.Given as goal

abbrev pub invariant-loop-i : goal.invariant-loop-i
invariant-loop-i g l = record {
  kept : g.V.CellStore.kept l.values ≡ g.V.CellStore.kept l.initial.values;
  found : l.n ≡ length (rows_places (g.M.MarkSource.marks l.channel.marks.now) l.window.cols l.window.row l.window.col (l.i - l.window.row) l.window.wide);
  scattered : rows_values l.channel.depth l.channel.d (g.M.MarkSource.marks l.channel.marks.now) (g.V.CellStore.cells l.values).values l.window.cols l.window.row l.window.col (l.i - l.window.row) l.window.wide ≡ take l.n (g.G.ValueSource.listed l.given);
  form : KeepsForm (g.V.CellStore.cells l.initial.values) (g.V.CellStore.cells l.values);
  rest : LeavesRows l.channel.depth l.channel.d (g.M.MarkSource.marks l.channel.marks.now) l.window.cols l.window.row l.window.col (l.i - l.window.row) l.window.wide (g.V.CellStore.cells l.initial.values).values (g.V.CellStore.cells l.values).values;
}
