use Rattle.std.proofs.Common.{◌≡◌}
use Rattle.raster_values.specs.inside.Runs.{ScattersRun}
use Rattle.raster_cells.specs.CellList.{KeepsForm}
use Rattle.raster_values.proofs.blocks.scattering.scatter_mixed.Given as goal

abbrev pub invariant-loop-i : goal.invariant-loop-i
invariant-loop-i g l = record {
  scattered : ScattersRun l.channel.depth l.channel.d (g.M.MarkSource.marks l.channel.marks.now) (g.G.ValueSource.listed l.given) (g.V.CellStore.cells l.initial.values).values (g.V.CellStore.cells l.values).values l.from l.i l.at l.n;
  form : KeepsForm (g.V.CellStore.cells l.initial.values) (g.V.CellStore.cells l.values);
  kept : g.V.CellStore.kept l.values ≡ g.V.CellStore.kept l.initial.values;
}
