use Rattle.std.proofs.Common.{arith}
use Rattle.raster_grids.proofs.GridParts.{area_few}
use Rattle.raster_grids.proofs.reading.blank_parts.Goals as goal

pub new-requires : goal.new-requires
new-requires c = area_few c.args.head.rows c.args.head.cols c.args.head.depth c.requires

pub new-requires-2 : goal.new-requires-2
new-requires-2 c = omega (arith, c.requires.size)
