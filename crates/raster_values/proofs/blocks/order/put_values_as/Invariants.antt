use Rattle.std.proofs.Common.{◌≡◌, ◌≤◌, ◌-◌, length}
use Rattle.raster_cells.specs.CellList.{KeepsForm}
use Rattle.raster_values.specs.Ordered.{PutsMarked}
use Rattle.raster_values.proofs.blocks.order.put_values_as.Given as goal

abbrev pub invariant-loop-k : goal.invariant-loop-k
invariant-loop-k g l = record {
  kept : g.V.CellStore.kept l.values ≡ g.V.CellStore.kept l.initial.values;
  within : l.k ≤ length l.input;
  form : KeepsForm (g.V.CellStore.cells l.initial.values) (g.V.CellStore.cells l.values);
  put : PutsMarked l.channel.depth l.channel.d (g.M.MarkSource.marks l.channel.marks.now) l.place l.k l.input (g.V.CellStore.cells l.initial.values).values (g.V.CellStore.cells l.values).values;
}

abbrev pub decreases-loop-k : goal.decreases-loop-k
decreases-loop-k g l = length l.input - l.k
