use Rattle.std.proofs.Common.{arith}
use Rattle.micro_block.proofs.SizeSteps.{head_few, stuffed_few}
use Rattle.micro_block.proofs.sizes.list_size.Goals as goal

pub stuffed_len-requires-clause-width : goal.stuffed_len-requires-clause-width
stuffed_len-requires-clause-width c = let few = c.digit_count.ensures.least 30 c.requires.most in omega (arith, few)

pub returns-clause-few : goal.returns-clause-few
returns-clause-few c =
    let few = c.digit_count.ensures.least 30 c.requires.most in
    omega (arith, c.head_len.ensures, head_few c.args.count, c.stuffed_len.ensures.value, stuffed_few c.args.count c.digit_count.result c.requires.count (omega (arith, few)))
