use Rattle.std.proofs.Common.{◌*◌, map, take}
use Rattle.micro_block.specs.inside.Remainders.{AreAdded}
use Rattle.micro_block.specs.inside.Stepping.{steps_above}
use Rattle.micro_block.proofs.remainders.remainders_within.Given as goal

abbrev pub invariant-loop-i : goal.invariant-loop-i
invariant-loop-i l = AreAdded 1 (map (steps_above l.step l.least) (take (16 * l.i) l.distances)) l.bits
