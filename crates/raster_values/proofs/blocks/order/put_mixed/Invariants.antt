use Rattle.std.proofs.Common.{◌≡◌, ◌≤◌, length}
use Rattle.raster_cells.specs.CellList.{KeepsForm}
use Rattle.raster_values.specs.Ordered.{PutsMarked}
use Rattle.raster_values.proofs.blocks.order.put_mixed.Given as goal

abbrev pub invariant-loop-i : goal.invariant-loop-i
invariant-loop-i g l = record {
  kept : g.V.CellStore.kept l.values ≡ g.V.CellStore.kept l.initial.values;
  within : l.i ≤ length l.input;
  form : KeepsForm (g.V.CellStore.cells l.initial.values) (g.V.CellStore.cells l.values);
  put : PutsMarked l.channel.depth l.channel.d (g.M.MarkSource.marks l.channel.marks.now) l.place l.i l.input (g.V.CellStore.cells l.initial.values).values (g.V.CellStore.cells l.values).values;
}
