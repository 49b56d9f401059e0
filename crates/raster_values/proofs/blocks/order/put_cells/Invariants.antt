use Rattle.std.proofs.Common.{◌≤◌, ◌-◌, length}
use Rattle.raster_cells.specs.CellList.{KeepsForm}
use Rattle.raster_values.specs.Ordered.{PutsMarkedBytes}
use Rattle.raster_values.proofs.blocks.order.put_cells.Given as goal

abbrev pub invariant-loop-at : goal.invariant-loop-at
invariant-loop-at l = record {
  within : l.at ≤ length l.marks;
  form : KeepsForm l.initial.values l.values;
  put : PutsMarkedBytes l.initial.values.kind l.depth l.at l.marks l.bytes l.initial.values.values l.values.values;
}

abbrev pub decreases-loop-at : goal.decreases-loop-at
decreases-loop-at l = length l.marks - l.at
