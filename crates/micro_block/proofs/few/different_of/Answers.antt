use Rattle.std.proofs.Common.{[]}
use Rattle.micro_block.proofs.few.different_of.Goals as goal

pub returns : goal.returns
returns c = c.count.ensures c.args.names.now (c.add_all.ensures [] c.new-set.ensures)
