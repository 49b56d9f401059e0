use Rattle.std.proofs.Common.{◌∙◌, arith}
use Rattle.raster_cells.specs.Masks.{mask_bit}
use Rattle.raster_cells.proofs.MaskCounts.{count_most, count_of_marks}
use Rattle.raster_cells.proofs.marks.mask_bits.count_marked.Goals as goal

pub returns-clause-value : goal.returns-clause-value
returns-clause-value c = c.count_bits.ensures ∙ count_of_marks c.args.pixels c.args.bits.now

pub returns-clause-within : goal.returns-clause-within
returns-clause-within c = omega (arith, c.count_bits.ensures, count_most (mask_bit c.args.bits.now) 0 c.args.pixels)
