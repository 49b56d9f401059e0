use Rattle.std.proofs.Common.{◌∙◌, ap}
use Rattle.level_cache.specs.Memory.{MemState, volume_of}
use Rattle.level_cache.proofs.memory.MemShelfShelf.take.Goals as goal

pub invariant_of-self : goal.invariant_of-self
invariant_of-self c = record { spares = c.in-Some.ensures.takes.spares; lending = c.in-Some.ensures.takes.lending }

pub returns-in-Some-clause-beside : goal.returns-in-Some-clause-beside
returns-in-Some-clause-beside c = λ other differs. c.in-Some.ensures.takes.beside other differs ∙ ap (λ (s : MemState). volume_of s.places other) c.self.view_is
