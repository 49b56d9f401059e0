use Rattle.std.proofs.Common.{ap, ◌∙◌, sym, length}
use Rattle.raster_cells.proofs.LentMasks.{length-marks_with}
use Rattle.raster_cells.proofs.marks.lent_mask.LentMask.len.Goals as goal

pub returns-clause-value : goal.returns-clause-value
returns-clause-value c = sym (length-marks_with c.self.inside.count c.self.inside.valid c.self.inside.bytes.now) ∙ ap length c.self.view_is
