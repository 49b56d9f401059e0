use Rattle.std.proofs.Common.{◌≡◌, map}
use Rattle.level_cache.specs.Memory.{fresh}
use Rattle.level_cache.proofs.memory.MemShelf.new.Given as goal

abbrev pub invariant-loop-vol : goal.invariant-loop-vol
invariant-loop-vol l = l.places.items ≡ map fresh l.yielded
