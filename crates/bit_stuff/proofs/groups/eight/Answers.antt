use Rattle.std.proofs.Common.{◌*◌, arith}
use Rattle.bit_stuff.proofs.Eights.{group_shifted}
use Rattle.bit_stuff.proofs.groups.eight.Goals as goal

pub returns : goal.returns
returns c = group_shifted c.args.width c.args.values.now c.args.i 4 c.four.result c.four-2.result (4 * c.args.width) 64 (omega arith) (omega arith) c.four.ensures c.four-2.ensures
