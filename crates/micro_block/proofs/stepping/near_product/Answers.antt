use Rattle.micro_block.proofs.Stepped.{near_is_product}
use Rattle.micro_block.proofs.stepping.near_product.Goals as goal

pub returns : goal.returns
returns c = near_is_product c.args.step c.requires.0
