use Rattle.std.proofs.Common.{length, arith}
use Rattle.bit_stuff.proofs.Fronts.{front_stuffed}
use Rattle.bit_stuff.proofs.StuffedLaws.{stuffed_below}
use Rattle.bit_stuff.proofs.unpacking.unstuff_front.Goals as goal

pub returns-then-bytes-lt8-clause-stuffed : goal.returns-then-bytes-lt8-clause-stuffed
returns-then-bytes-lt8-clause-stuffed c =
    front_stuffed c.args.bytes.now c.args.width (length c.args.out.now) c.unstuff_short.new.out (λ i. omega (arith, c.type_inv.bytes i)) c.unstuff_short.auto.out c.requires.size c.unstuff_short.ensures

pub returns-then-bytes-lt8-clause-below : goal.returns-then-bytes-lt8-clause-below
returns-then-bytes-lt8-clause-below c = stuffed_below _ c.args.width c.unstuff_short.new.out (returns-then-bytes-lt8-clause-stuffed c)

pub returns-else-bytes-lt8-clause-stuffed : goal.returns-else-bytes-lt8-clause-stuffed
returns-else-bytes-lt8-clause-stuffed c =
    front_stuffed c.args.bytes.now c.args.width (length c.args.out.now) c.unstuff_long.new.out (λ i. omega (arith, c.type_inv.bytes i)) c.unstuff_long.auto.out c.requires.size c.unstuff_long.ensures

pub returns-else-bytes-lt8-clause-below : goal.returns-else-bytes-lt8-clause-below
returns-else-bytes-lt8-clause-below c = stuffed_below _ c.args.width c.unstuff_long.new.out (returns-else-bytes-lt8-clause-stuffed c)
