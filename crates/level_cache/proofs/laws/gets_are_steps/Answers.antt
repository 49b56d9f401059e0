use Rattle.level_cache.proofs.Returns.{get_returned, get_within}
use Rattle.level_cache.proofs.laws.gets_are_steps.Goals as goal

pub returns-clause-within : goal.returns-clause-within
returns-clause-within g c = λ base slot r old new tells l t from to. get_within g.H.Vol.Volume.told g.H.Vol.Volume.history g.H.Vol.Volume.faults base old new tells slot r l t from to

pub returns-clause-returned : goal.returns-clause-returned
returns-clause-returned g c = λ base slot result old new tells moves. get_returned g.H.Vol.Volume.told g.H.Vol.Volume.history g.H.Vol.Volume.faults base old new tells slot result moves
