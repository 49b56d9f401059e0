use Rattle.std.proofs.Common.{arith}
use Rattle.raster_cells.proofs.MaskBytes.{spread_bit}
use Rattle.raster_cells.proofs.marks.mask.spread.Goals as goal

pub returns : goal.returns
returns c = λ q below. spread_bit c.args.byte q (omega (arith, c.ranges.byte)) below
