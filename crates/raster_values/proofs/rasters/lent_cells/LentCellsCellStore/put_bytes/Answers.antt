use Rattle.std.proofs.Common.{◌≡◌, ◌+◌, ◌*◌, ◌≤◌, arith, ap, ◌∙◌, length}
use Rattle.std.proofs.Math.Nat.{mul-le-mul_right}
use Rattle.raster_cells.specs.PixelType.{bytes_of}
use Rattle.raster_cells.specs.Values.{values_bytes}
use Rattle.raster_values.specs.inside.LentCells.{cells_there}
use Rattle.raster_cells.proofs.CellRuns.{length-values_in, values_is}
use Rattle.raster_cells.proofs.ValueBytes.{are_value_bytes, value_bytes_long}
use Rattle.raster_cells.proofs.Spelled.{AreBytes, bytes_laid, bytes_put, length-bytes_put, bytes_put_in_range}
use Rattle.raster_values.proofs.rasters.lent_cells.LentCellsCellStore.put_bytes.Goals as goal

pub place-from-requires-clause-within : goal.place-from-requires-clause-within
place-from-requires-clause-within c = omega (arith, c.requires.within, length-values_in c.args.self.now.kind c.args.self.now.count c.args.self.now.values.now)

pub lay-requires : goal.lay-requires
lay-requires c =
    let t = c.args.self.now in
    let s = bytes_of t.kind in
    let up : (c.args.at + c.args.count) * s ≤ t.count * s = mul-le-mul_right s (omega (arith, c.requires.within, length-values_in t.kind t.count t.values.now)) in
    omega (arith, up, c.place-from.ensures.value, c.requires.size, value_bytes_long t.kind t.count t.values.now c.args.self.now.cells)

pub returns-clause-put : goal.returns-clause-put
returns-clause-put c =
    let t = c.args.self.now in
    let are : AreBytes c.args.bytes.now = λ i. omega (arith, c.type_inv.bytes i) in
    let put = bytes_put t.kind (cells_there t).values c.args.at c.args.count c.args.bytes.now in
    let laid : c.lay.new.bytes ≡ values_bytes t.kind put = c.lay.ensures ∙ bytes_laid t.kind (cells_there t).values t.values.now c.args.bytes.now c.args.at c.args.count c.place-from.result c.requires.within t.cells.bytes_are c.place-from.ensures.value c.requires.size are in
    let long : length put ≡ t.count = length-bytes_put t.kind (cells_there t).values c.args.at c.args.count c.args.bytes.now c.requires.within ∙ length-values_in t.kind t.count t.values.now in
    ap (λ vs. record { kind = t.kind; values = vs }) (values_is t.kind t.count c.lay.new.bytes put laid long (bytes_put_in_range t.kind (cells_there t).values c.args.at c.args.count c.args.bytes.now t.cells.in_range are))

pub invariant_of-self : goal.invariant_of-self
invariant_of-self c =
    let t = c.args.self.now in
    let are : AreBytes c.args.bytes.now = λ i. omega (arith, c.type_inv.bytes i) in
    let put = bytes_put t.kind (cells_there t).values c.args.at c.args.count c.args.bytes.now in
    let laid : c.lay.new.bytes ≡ values_bytes t.kind put = c.lay.ensures ∙ bytes_laid t.kind (cells_there t).values t.values.now c.args.bytes.now c.args.at c.args.count c.place-from.result c.requires.within t.cells.bytes_are c.place-from.ensures.value c.requires.size are in
    let long : length put ≡ t.count = length-bytes_put t.kind (cells_there t).values c.args.at c.args.count c.args.bytes.now c.requires.within ∙ length-values_in t.kind t.count t.values.now in
    record { cells = are_value_bytes t.kind t.count c.lay.new.bytes put laid long (bytes_put_in_range t.kind (cells_there t).values c.args.at c.args.count c.args.bytes.now t.cells.in_range are) t.cells.few }
