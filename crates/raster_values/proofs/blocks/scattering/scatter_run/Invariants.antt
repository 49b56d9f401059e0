use Rattle.std.proofs.Common.{◌≡◌, ◌≤◌, ◌-◌}
use Rattle.raster_values.specs.inside.Runs.{ScattersRun}
use Rattle.raster_cells.specs.CellList.{KeepsForm}
use Rattle.raster_values.proofs.blocks.scattering.scatter_run.Given as goal

abbrev pub invariant-loop-k : goal.invariant-loop-k
invariant-loop-k g l = record {
  low : l.from ≤ l.k;
  high : l.k ≤ l.end;
  scattered : ScattersRun l.channel.depth l.channel.d (g.M.MarkSource.marks l.channel.marks.now) (g.G.ValueSource.listed l.given) (g.V.CellStore.cells l.initial.values).values (g.V.CellStore.cells l.values).values l.from (l.k - l.from) l.at l.n;
  form : KeepsForm (g.V.CellStore.cells l.initial.values) (g.V.CellStore.cells l.values);
  kept : g.V.CellStore.kept l.values ≡ g.V.CellStore.kept l.initial.values;
}

abbrev pub decreases-loop-k : goal.decreases-loop-k
decreases-loop-k g l = l.end - l.k
