use Rattle.std.proofs.Common.{◌≡◌, ◌<◌, ◌≤◌, ◌-◌}
use Rattle.raster_cells.specs.CellList.{KeepsForm}
use Rattle.raster_cells.specs.Ordered.{FillsPixels}
use Rattle.raster_cells.proofs.values.cell_store.fill_pixels.Given as goal

abbrev pub invariant-loop-done : goal.invariant-loop-done
invariant-loop-done g l = record {
  some : 0 < l.done;
  within : l.done ≤ l.count;
  form : KeepsForm (g.V.CellStore.cells l.fn.cells) (g.V.CellStore.cells l.cells);
  kept : g.V.CellStore.kept l.cells ≡ g.V.CellStore.kept l.fn.cells;
  filled : FillsPixels l.first l.done (g.G.ValueSource.listed l.pixel) (g.V.CellStore.cells l.fn.cells).values (g.V.CellStore.cells l.cells).values;
}

abbrev pub decreases-loop-done : goal.decreases-loop-done
decreases-loop-done g l = l.count - l.done
