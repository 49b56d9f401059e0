use Rattle.raster_values.proofs.NumberedBlocks.{block_numbered, marked_by_bits, mask_says_marks}
use Rattle.raster_values.proofs.laws.numbers_are_places.Goals as goal

pub returns-clause-blocks : goal.returns-clause-blocks
returns-clause-blocks c = block_numbered

pub returns-clause-marked : goal.returns-clause-marked
returns-clause-marked c = marked_by_bits

pub returns-clause-said : goal.returns-clause-said
returns-clause-said c = mask_says_marks
