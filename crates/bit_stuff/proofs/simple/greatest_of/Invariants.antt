use Rattle.std.proofs.Common.{◌≡◌, take}
use Rattle.bit_stuff.specs.Simple.{greatest_number}
use Rattle.bit_stuff.proofs.simple.greatest_of.Given as goal

abbrev pub invariant-loop-v : goal.invariant-loop-v
invariant-loop-v l = l.most ≡ greatest_number (take l.v-index l.values)
