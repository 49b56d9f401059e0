use Rattle.micro_block.proofs.Blocks.{block_decided, block_part}
use Rattle.micro_block.proofs.laws.blocks_stand_or_have_one_fault.Goals as goal

pub returns-clause-part : goal.returns-clause-part
returns-clause-part c = λ f. block_part f

pub returns-clause-decided : goal.returns-clause-decided
returns-clause-decided c = λ f. block_decided f
