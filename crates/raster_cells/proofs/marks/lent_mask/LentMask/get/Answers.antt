use Rattle.std.proofs.Common.{Bool, List, ap, ◌∙◌, sym, length, get_or, false, arith}
use Rattle.raster_cells.proofs.LentMasks.{length-marks_with, some_with}
use Rattle.raster_cells.proofs.MaskBits.{get_or-marks_in}
use Rattle.raster_cells.proofs.marks.lent_mask.LentMask.get.Goals as goal

pub bit_at-requires : goal.bit_at-requires
bit_at-requires c =
    let a = c.self.inside in
    omega (arith, c.requires, ap length c.self.view_is, length-marks_with a.count a.valid a.bytes.now, (c.self.invariant.bits c.if-self.false).size)

pub returns-else-self : goal.returns-else-self
returns-else-self c =
    let a = c.self.inside in
    c.bit_at.ensures
    ∙ sym (ap (λ (xs : List Bool). get_or xs c.args.k false) (sym c.self.view_is ∙ some_with a.count a.valid a.bytes.now c.if-self.false)
    ∙ get_or-marks_in a.count a.bytes.now c.args.k (omega (arith, c.requires, ap length c.self.view_is, length-marks_with a.count a.valid a.bytes.now)))
