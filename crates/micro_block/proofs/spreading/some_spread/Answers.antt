use Rattle.std.proofs.Common.{arith}
use Rattle.micro_block.proofs.Above.{spread_some}
use Rattle.micro_block.proofs.BlockSteps.{step_small}
use Rattle.micro_block.proofs.spreading.some_spread.Goals as goal

pub returns : goal.returns
returns c =
    let s = step_small c.args.step c.requires.step in
    spread_some c.args.kind c.args.step c.args.distances.now c.ends-least.result.0 c.ends-least.result.1 c.steps_at-most.result c.rule_for-rule.result c.requires.some c.requires.in_range (omega (arith, s)) (omega (arith, s))
    c.ends-least.ensures c.rule_for-rule.ensures c.steps_at-most.ensures
