use Rattle.micro_block.proofs.BlockSteps.{block_in_range}
use Rattle.micro_block.proofs.laws.block_values_are_in_range.Goals as goal

pub returns : goal.returns
returns c = λ f bytes values are top block. block_in_range f bytes values are top block
