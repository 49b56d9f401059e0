use Rattle.std.proofs.Common.{take}
use Rattle.level_cache.specs.inside.Places.{AreNot}
use Rattle.level_cache.proofs.memory.place_of.Given as goal

abbrev pub invariant-loop-at : goal.invariant-loop-at
invariant-loop-at l = AreNot l.base (take l.at l.places)
