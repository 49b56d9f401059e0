use Rattle.std.proofs.Common.{sym, arith}
use Rattle.std.proofs.lemmas.List.{get_or_past}
use Rattle.raster_cells.specs.CellList.{values_in}
use Rattle.raster_cells.proofs.CellRuns.{are_cells, length-values_in}
use Rattle.raster_cells.proofs.Spelled.{AreBytes, bytes_of_values, values_fit}
use Rattle.raster_cells.proofs.values.cells.Cells.of_vec.Goals as goal

pub invariant_of-result : goal.invariant_of-result
invariant_of-result c =
    let kind = c.args.kind in
    let bytes = c.args.bytes.items in
    let are : AreBytes bytes = λ i. grind (arith, get_or_past bytes i 0, c.items_fit i 0) in
    are_cells _ (values_in kind c.args.count bytes) (sym (bytes_of_values kind c.args.count bytes are c.requires.size)) (length-values_in kind c.args.count bytes) (values_fit kind c.args.count bytes are) c.requires.few
