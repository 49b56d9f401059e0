use Rattle.lerc_decode.proofs.Marks.{marks_found}
use Rattle.lerc_decode.proofs.blob.body.mark_by.Goals as goal

pub returns-clause-marks : goal.returns-clause-marks
returns-clause-marks c =
    let h = c.args.header.now in
    marks_found h.kind h.rows h.cols h.depth _ _ c.args.mask.now c.requires.blank c.mark_from_bits.ensures.sound c.mark_from_bits.ensures.marked
