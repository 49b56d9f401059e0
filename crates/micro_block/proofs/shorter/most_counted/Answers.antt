use Rattle.std.proofs.Common.{arith}
use Rattle.micro_block.proofs.ShortTables.{long_all, long_found, long_more, long_start}
use Rattle.micro_block.proofs.shorter.most_counted.Goals as goal

pub loop-i-init : goal.loop-i-init
loop-i-init c = long_start c.args.count c.args.width

pub returns-in-Some-clause-long : goal.returns-in-Some-clause-long
returns-in-Some-clause-long c = long_found c.args.count c.args.width c.loop-i.i c.in-Some.most (omega arith) c.loop-i.invariant c.in-Some.ensures

pub loop-i-preserved : goal.loop-i-preserved
loop-i-preserved c = long_more c.args.count c.args.width c.loop-i.i (omega arith) c.loop-i.invariant c.in_default.ensures

pub returns-clause-long : goal.returns-clause-long
returns-clause-long c = long_all c.args.count c.args.width c.loop-i.i (omega arith) (omega arith) c.loop-i.invariant
