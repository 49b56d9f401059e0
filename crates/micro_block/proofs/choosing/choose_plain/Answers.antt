use Rattle.micro_block.proofs.Chosen.{chosen_plain}
use Rattle.micro_block.proofs.choosing.choose_plain.Goals as goal

pub returns : goal.returns
returns c =
    let ctx = c.args.ctx.now in
    chosen_plain ctx.kind ctx.col ctx.step c.args.distances.now c.args.spread c.fewest.result c.requires.spread c.requires.plain c.fewest.ensures.first c.fewest.ensures.least
