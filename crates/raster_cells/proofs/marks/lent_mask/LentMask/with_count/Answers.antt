use Rattle.raster_cells.proofs.LentMasks.{bits_with}
use Rattle.raster_cells.proofs.marks.lent_mask.LentMask.with_count.Goals as goal

pub invariant_of-result : goal.invariant_of-result
invariant_of-result c = record { few = c.requires.few; bits = λ _. c.requires }

pub returns : goal.returns
returns c = bits_with c.args.count c.args.valid c.args.bytes.now c.requires
