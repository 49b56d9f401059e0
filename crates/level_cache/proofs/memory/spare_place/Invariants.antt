use Rattle.std.proofs.Common.{◌≡◌, take}
use Rattle.level_cache.specs.Memory.{spare_of}
use Rattle.level_cache.proofs.memory.spare_place.Given as goal

abbrev pub invariant-loop-at : goal.invariant-loop-at
invariant-loop-at l = spare_of (take l.at l.places) ≡ 0
