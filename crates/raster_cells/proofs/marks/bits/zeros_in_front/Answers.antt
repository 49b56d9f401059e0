use Rattle.std.proofs.Common.{arith}
use Rattle.raster_cells.proofs.FrontBits.{word_one, word_zeros}
use Rattle.raster_cells.proofs.marks.bits.zeros_in_front.Goals as goal

pub returns-clause-zeros : goal.returns-clause-zeros
returns-clause-zeros c q low = word_zeros c.args.word c.args.count q c.requires.few c.requires.below (omega (arith, c.saturating_sub.ensures, low))

pub returns-clause-one : goal.returns-clause-one
returns-clause-one c less = word_one c.args.word c.args.count c.saturating_sub.result c.requires.few c.requires.below (omega (arith, c.saturating_sub.ensures)) less
