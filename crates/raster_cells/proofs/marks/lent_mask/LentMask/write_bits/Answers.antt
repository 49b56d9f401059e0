use Rattle.std.proofs.Common.{ap, ◌∙◌, sym, length, arith}
use Rattle.raster_cells.specs.Masks.{marks_in}
use Rattle.raster_cells.proofs.LentMasks.{all_with, bits_of, length-marks_with, some_with}
use Rattle.raster_cells.proofs.marks.lent_mask.LentMask.write_bits.Goals as goal

pub returns-then-self-clause-bits : goal.returns-then-self-clause-bits
returns-then-self-clause-bits c =
    let a = c.self.inside in
    bits_of a.count c.set_bits.new.bits c.args.self.now (c.set_bits.ensures.marks ∙ sym (all_with a.count a.valid a.bytes.now c.if-self.true) ∙ c.self.view_is) c.set_bits.ensures.spare

pub copy_from_slice-requires : goal.copy_from_slice-requires
copy_from_slice-requires c =
    let a = c.self.inside in
    omega (arith, c.requires, ap length c.self.view_is, length-marks_with a.count a.valid a.bytes.now, (c.self.invariant.bits c.if-self.false).size)

pub returns-clause-bits : goal.returns-clause-bits
returns-clause-bits c =
    let a = c.self.inside in
    bits_of a.count c.clear_spare.new.bytes c.args.self.now
    (c.clear_spare.ensures.marks ∙ ap (marks_in a.count) c.copy_from_slice.ensures.after ∙ sym (some_with a.count a.valid a.bytes.now c.if-self.false) ∙ c.self.view_is)
    c.clear_spare.ensures.spare
