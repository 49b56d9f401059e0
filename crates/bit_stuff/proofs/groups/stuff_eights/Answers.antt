use Rattle.std.proofs.Common.{◌*◌, length, arith}
use Rattle.bit_stuff.proofs.Eights.{eights_within, nothing_put}
use Rattle.bit_stuff.proofs.groups.stuff_eights.Goals as goal

pub loop-k-init : goal.loop-k-init
loop-k-init c = nothing_put c.args.width (c.args.width * 0) c.args.values.now c.args.out.now (omega arith)

pub put_eight-requires-clause-room : goal.put_eight-requires-clause-room
put_eight-requires-clause-room c = omega (arith, c.loop-k.auto.out, c.requires.size, eights_within (length c.args.values.now) c.args.width c.loop-k.k (omega arith))
