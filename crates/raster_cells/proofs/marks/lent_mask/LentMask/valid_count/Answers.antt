use Rattle.std.proofs.Common.{ap, ◌∙◌, sym}
use Rattle.std.specs.Prelude.{count_by}
use Rattle.raster_cells.proofs.LentMasks.{count_with}
use Rattle.raster_cells.proofs.marks.lent_mask.LentMask.valid_count.Goals as goal

pub returns : goal.returns
returns c = sym (count_with c.self.inside.count c.self.inside.valid c.self.inside.bytes.now c.self.invariant) ∙ ap (count_by (λ m. m)) c.self.view_is
