use Rattle.std.proofs.Common.{refl}
use Rattle.raster_cells.proofs.LentMasks.{all_with}
use Rattle.raster_cells.proofs.marks.lent_mask.LentMask.whole.Goals as goal

pub invariant_of-result : goal.invariant_of-result
invariant_of-result c = record { few = c.requires; bits = λ other. absurd (other refl) }

pub returns : goal.returns
returns c = all_with c.args.count c.args.count _ refl
