use Rattle.std.proofs.Common.{◌≡◌, ◌≤◌, ◌+◌, length, subst, sym, take, drop}
use Rattle.raster_cells.specs.Values.{values_bytes}
use Rattle.raster_cells.specs.CellList.{CellList}
use Rattle.raster_cells.proofs.values.cells.Cells.bytes_of_run.Goals as goal

pub bytes_of_run-requires : goal.bytes_of_run-requires
bytes_of_run-requires c = subst (λ (l : CellList). c.args.at + c.args.count ≤ length l.values) (sym c.read.ensures) c.requires

pub returns : goal.returns
returns c = subst (λ (l : CellList). c.bytes_of_run.result.now ≡ values_bytes l.kind (take c.args.count (drop c.args.at l.values))) c.read.ensures c.bytes_of_run.ensures
