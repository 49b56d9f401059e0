use Rattle.std.proofs.Common.{◌≡◌, take, drop}
use Rattle.raster_cells.specs.CellList.{KeepsForm}
use Rattle.raster_cells.specs.Ordered.{PutsPixels}
use Rattle.raster_cells.proofs.values.cell_store.put_steps_as.Given as goal

abbrev pub invariant-loop-i : goal.invariant-loop-i
invariant-loop-i g l = record {
  form : KeepsForm (g.V.CellStore.cells l.fn.cells) (g.V.CellStore.cells l.cells);
  kept : g.V.CellStore.kept l.cells ≡ g.V.CellStore.kept l.fn.cells;
  put : PutsPixels l.pixels.depth l.pixels.d l.pixels.first l.i (take l.count (drop l.n (g.G.ValueSource.listed l.given))) (g.V.CellStore.cells l.fn.cells).values (g.V.CellStore.cells l.cells).values;
}
