use Rattle.std.proofs.Common.{◌≡◌, ◌≤◌, ◌-◌, length}
use Rattle.raster_cells.specs.CellList.{KeepsForm}
use Rattle.raster_values.specs.Ordered.{FillsMarked}
use Rattle.raster_values.proofs.blocks.order.fill_marked.Given as goal

abbrev pub invariant-loop-at : goal.invariant-loop-at
invariant-loop-at g l = record {
  kept : g.V.CellStore.kept l.values ≡ g.V.CellStore.kept l.initial.values;
  within : l.at ≤ length (g.M.MarkSource.marks l.marks);
  form : KeepsForm (g.V.CellStore.cells l.initial.values) (g.V.CellStore.cells l.values);
  filled : FillsMarked l.at (g.M.MarkSource.marks l.marks) (g.G.ValueSource.listed l.pixel) (g.V.CellStore.cells l.initial.values).values (g.V.CellStore.cells l.values).values;
}

abbrev pub decreases-loop-at : goal.decreases-loop-at
decreases-loop-at g l = length (g.M.MarkSource.marks l.marks) - l.at
