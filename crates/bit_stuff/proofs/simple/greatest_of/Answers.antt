use Rattle.std.proofs.Common.{arith}
use Rattle.bit_stuff.proofs.Digits.{greatest_take}
use Rattle.bit_stuff.proofs.simple.greatest_of.Goals as goal
use Rattle.bit_stuff.proofs.simple.greatest_of.Goals.{then-v-most, else-v-most}

pub loop-v-preserved : goal.loop-v-preserved
loop-v-preserved c =
    let step = greatest_take c.args.values.now c.loop-v.v-index c.loop-v-test.true in
    elim c.if-v-most.branch [ then-v-most w ↦ omega arith | else-v-most w ↦ omega arith ]
