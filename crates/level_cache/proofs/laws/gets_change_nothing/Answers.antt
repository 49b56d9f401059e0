use Rattle.level_cache.specs.Places.{base_of, slot_of}
use Rattle.level_cache.proofs.Levels.{gives_tile, no_change, none_there}
use Rattle.level_cache.proofs.laws.gets_change_nothing.Goals as goal

pub returns-clause-unchanged : goal.returns-clause-unchanged
returns-clause-unchanged g c = λ result base slot old new maps are quiet moves. no_change g.H.Vol.Volume.told g.H.Vol.Volume.history g.H.Vol.Volume.faults base slot old new maps are result quiet moves

pub returns-clause-gives : goal.returns-clause-gives
returns-clause-gives g c = λ tile place old new maps are moves. gives_tile g.H.Vol.Volume.told g.H.Vol.Volume.history g.H.Vol.Volume.faults (base_of place) (slot_of place) old new maps are tile moves.0

pub returns-clause-none : goal.returns-clause-none
returns-clause-none g c = λ place old new maps are moves. none_there g.H.Vol.Volume.told g.H.Vol.Volume.history g.H.Vol.Volume.faults (base_of place) (slot_of place) old new maps are moves.0
