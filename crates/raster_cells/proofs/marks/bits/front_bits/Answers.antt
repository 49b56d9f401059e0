use Rattle.raster_cells.proofs.MaskBits.{bit_in_front}
use Rattle.raster_cells.proofs.marks.bits.front_bits.Goals as goal

pub returns : goal.returns
returns c q h = bit_in_front c.args.byte c.args.count q c.requires.above c.requires.below h
