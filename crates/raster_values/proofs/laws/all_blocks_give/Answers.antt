use Rattle.raster_values.proofs.GivenBlocks.{all_give}
use Rattle.raster_values.proofs.laws.all_blocks_give.Goals as goal

pub returns : goal.returns
returns c = all_give
