use Rattle.std.proofs.Common.{arith}
use Rattle.raster_cells.proofs.Spelled.{AreBytes}
use Rattle.raster_cells.proofs.ValueBytes.{held_bytes}
use Rattle.raster_cells.proofs.values.cell_bytes.CellBytes.over.Goals as goal

pub invariant_of-result : goal.invariant_of-result
invariant_of-result c =
    let are : AreBytes c.args.bytes.now = λ i. omega (arith, c.type_inv.bytes i) in
    held_bytes c.args.kind c.args.count c.args.bytes.now c.requires.few are c.requires.size
