use Rattle.level_cache.proofs.Returns.{put_returned, put_within}
use Rattle.level_cache.proofs.laws.puts_are_steps.Goals as goal

pub returns-clause-within : goal.returns-clause-within
returns-clause-within g c = λ base slot tile r old new tells l t from to. put_within g.H.Vol.Volume.told g.H.Vol.Volume.history g.H.Vol.Volume.faults base old new tells slot tile r l t from to

pub returns-clause-returned : goal.returns-clause-returned
returns-clause-returned g c = λ base slot tile result old new tells moves. put_returned g.H.Vol.Volume.told g.H.Vol.Volume.history g.H.Vol.Volume.faults base old new tells slot tile result moves
