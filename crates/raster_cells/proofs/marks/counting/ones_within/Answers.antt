use Rattle.raster_cells.proofs.MaskCounts.{ones_in_byte}
use Rattle.raster_cells.proofs.marks.counting.ones_within.Goals as goal

pub returns : goal.returns
returns c = ones_in_byte c.args.byte c.args.from c.args.count c.requires.above c.requires.within
