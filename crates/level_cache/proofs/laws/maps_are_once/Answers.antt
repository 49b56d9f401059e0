use Rattle.level_cache.proofs.Levels.{one_level}
use Rattle.level_cache.proofs.laws.maps_are_once.Goals as goal

pub returns : goal.returns
returns g c = λ volumes one two are so place. one_level g.H.Vol.Volume.told g.H.Vol.Volume.history volumes one two are so place
