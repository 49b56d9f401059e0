use Rattle.raster_values.proofs.GivenBlocks.{given_blocks}
use Rattle.raster_values.proofs.laws.given_blocks_are_there.Goals as goal

pub returns : goal.returns
returns c = given_blocks
