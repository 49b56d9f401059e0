use Rattle.std.proofs.Common.{take}
use Rattle.micro_block.specs.inside.Stepping.{AreEndsOf}
use Rattle.micro_block.proofs.distances.ends.Given as goal

abbrev pub invariant-loop-distance : goal.invariant-loop-distance
invariant-loop-distance l = AreEndsOf (take l.distance-index l.distances) l.least l.greatest
