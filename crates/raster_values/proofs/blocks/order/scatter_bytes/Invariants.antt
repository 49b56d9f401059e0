use Rattle.std.proofs.Common.{◌≡◌, ◌-◌, length}
use Rattle.raster_values.proofs.Scattered.{Scatters}
use Rattle.raster_values.proofs.blocks.order.scatter_bytes.Given as goal

abbrev pub invariant-loop-at : goal.invariant-loop-at
invariant-loop-at g l = record {
  kind : (g.V.CellStore.cells l.values).kind ≡ (g.V.CellStore.cells l.initial.values).kind;
  kept : g.V.CellStore.kept l.values ≡ g.V.CellStore.kept l.initial.values;
  scatters : Scatters (g.V.CellStore.cells l.initial.values).kind l.depth (g.M.MarkSource.marks l.marks) l.bytes (g.V.CellStore.cells l.initial.values).values (g.V.CellStore.cells l.values).values l.at l.from;
}

abbrev pub decreases-loop-at : goal.decreases-loop-at
decreases-loop-at g l = length (g.M.MarkSource.marks l.marks) - l.at
