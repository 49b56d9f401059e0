use Rattle.std.proofs.Common.{map, take}
use Rattle.micro_block.specs.inside.Remainders.{AreAdded}
use Rattle.micro_block.specs.inside.Stepping.{steps_above}
use Rattle.micro_block.proofs.remainders.with_remainders.Given as goal

abbrev pub invariant-loop-distance : goal.invariant-loop-distance
invariant-loop-distance l = AreAdded l.bits (map (steps_above l.step l.least) (take l.distance-index l.distances)) l.with
