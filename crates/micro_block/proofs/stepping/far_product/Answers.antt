use Rattle.std.proofs.Common.{arith}
use Rattle.micro_block.proofs.QuantiseSteps.{is_product}
use Rattle.micro_block.proofs.stepping.far_product.Goals as goal

pub returns-clause-product : goal.returns-clause-product
returns-clause-product c = is_product c.args.step _ (omega arith) (omega arith) c.if-step-digits.false c.if-factor-gt4294967295.false
