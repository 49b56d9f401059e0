use Rattle.std.proofs.Common.{◌≡◌, ◌*◌, sym, ap, ◌∙◌}
use Rattle.raster_cells.specs.Masks.{marks_in}
use Rattle.lerc_grammar.specs.Mask.{Previous}
use Rattle.lerc_decode.proofs.Marks.{marks_found}
use Rattle.lerc_decode.proofs.blob.previous_mask.PreviousMask.mark.Goals as goal

pub returns-clause-marks : goal.returns-clause-marks
returns-clause-marks c =
    let h = c.args.header.now in
    let a = c.self.inside in
    let rows : h.rows ≡ a.rows = sym (ap (λ (p : Previous). p.rows) c.self.view_is ∙ c.requires.rows) in
    let cols : h.cols ≡ a.cols = sym (ap (λ (p : Previous). p.cols) c.self.view_is ∙ c.requires.cols) in
    marks_found h.kind h.rows h.cols h.depth _ _ c.deref.result.now c.requires.blank c.mark_from_bits.ensures.sound c.mark_from_bits.ensures.marked
    ∙ (λ i. marks_in (rows i * cols i) (c.deref.ensures.value i)) ∙ ap (λ (p : Previous). p.marks) c.self.view_is
