use Rattle.level_cache.proofs.Levels.{either_place, no_place, one_place}
use Rattle.level_cache.proofs.laws.puts_change_one_place.Goals as goal

pub returns-clause-done : goal.returns-clause-done
returns-clause-done g c = λ base slot tile old new maps are moves. one_place g.H.Vol.Volume.told g.H.Vol.Volume.history g.H.Vol.Volume.faults base slot old new maps are tile moves.0 moves.1

pub returns-clause-refused : goal.returns-clause-refused
returns-clause-refused g c = λ fault base slot tile old new maps are moves. no_place g.H.Vol.Volume.told g.H.Vol.Volume.history g.H.Vol.Volume.faults base slot old new maps are tile fault moves.0 moves.1

pub returns-clause-either : goal.returns-clause-either
returns-clause-either g c = λ result base slot tile old new maps are quiet moves. either_place g.H.Vol.Volume.told g.H.Vol.Volume.history g.H.Vol.Volume.faults base slot old new maps are tile result quiet moves
