use Rattle.std.proofs.Common.{◌*◌, arith}
use Rattle.bit_stuff.proofs.Eights.{group_shifted}
use Rattle.bit_stuff.proofs.groups.four.Goals as goal

pub returns : goal.returns
returns c = group_shifted c.args.width c.args.values.now c.args.i 2 c.two.result c.two-2.result (2 * c.args.width) 64 (omega arith) (omega arith) c.two.ensures c.two-2.ensures
