use Rattle.std.proofs.Common.{refl}
use Rattle.lut_stuff.specs.inside.Slots.{slot_of}
use Rattle.lut_stuff.proofs.hashing.slot_of.Goals as goal

pub returns-clause-slot : goal.returns-clause-slot
unfolding slot_of
returns-clause-slot c = refl
