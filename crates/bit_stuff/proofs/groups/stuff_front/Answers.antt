use Rattle.std.proofs.Common.{◌*◌, arith}
use Rattle.bit_stuff.proofs.Eights.{nothing_put}
use Rattle.bit_stuff.proofs.groups.stuff_front.Goals as goal

pub returns-in-0-clause-number : goal.returns-in-0-clause-number
returns-in-0-clause-number c = nothing_put c.args.width (c.args.width * 0) c.args.values.now c.args.out.now (omega arith)
