use Rattle.std.proofs.Common.{◌∙◌}
use Rattle.raster_cells.specs.LentMask.{AreBits}
use Rattle.raster_cells.proofs.LentMasks.{bits_with}
use Rattle.raster_cells.proofs.MaskCounts.{count_of_marks}
use Rattle.raster_cells.proofs.marks.lent_mask.LentMask.over.Goals as goal

bits : (c : goal.After-count_bits-valid) → AreBits c.args.count c.count_bits-valid.result c.args.bytes.now
bits c = record {
  few = c.requires.few;
  size = c.requires.size;
  counted = c.count_bits-valid.ensures ∙ count_of_marks c.args.count c.args.bytes.now;
}

pub invariant_of-result : goal.invariant_of-result
invariant_of-result c = record { few = c.requires.few; bits = λ _. bits c }

pub returns : goal.returns
returns c = bits_with c.args.count c.count_bits-valid.result c.args.bytes.now (bits c)
