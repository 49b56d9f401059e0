use Rattle.micro_block.proofs.Chosen.{chosen_found}
use Rattle.micro_block.proofs.choosing.choose.Goals as goal

pub returns : goal.returns
returns c col =
    chosen_found c.args.kind col c.args.step c.args.distances.now c.spread_of-spread.result c.tabled_len-tabled.result c.fewest.result c.requires.in_range c.spread_of-spread.ensures c.tabled_len-tabled.ensures.value c.fewest.ensures.first c.fewest.ensures.least
