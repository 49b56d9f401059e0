use Rattle.raster_cells.proofs.MaskBytes.{count_in_byte}
use Rattle.raster_cells.proofs.marks.counting.count_part.Goals as goal

pub returns : goal.returns
returns c = count_in_byte c.args.bytes.now c.args.from c.args.count c.ones_within.result c.requires.one c.ones_within.ensures
