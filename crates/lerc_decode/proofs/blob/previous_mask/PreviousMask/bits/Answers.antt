use Rattle.std.proofs.Common.{◌≡◌, ◌*◌, sym, ap, ◌∙◌}
use Rattle.raster_cells.specs.Masks.{marks_in}
use Rattle.lerc_grammar.specs.Mask.{Previous}
use Rattle.lerc_decode.proofs.blob.previous_mask.PreviousMask.bits.Goals as goal

pub returns-clause-marks : goal.returns-clause-marks
returns-clause-marks c =
    let h = c.args.header.now in
    let a = c.self.inside in
    let rows : h.rows ≡ a.rows = sym (ap (λ (p : Previous). p.rows) c.self.view_is ∙ c.requires.rows) in
    let cols : h.cols ≡ a.cols = sym (ap (λ (p : Previous). p.cols) c.self.view_is ∙ c.requires.cols) in
    c.clear_spare.ensures.marks ∙ ap (marks_in (h.rows * h.cols)) (c.copy_from_slice.ensures.after ∙ c.deref.ensures.value)
    ∙ (λ i. marks_in (rows i * cols i) a.mask.items) ∙ ap (λ (p : Previous). p.marks) c.self.view_is
