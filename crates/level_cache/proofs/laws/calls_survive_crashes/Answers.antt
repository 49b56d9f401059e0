use Rattle.level_cache.proofs.Crashes.{steps_keep}
use Rattle.level_cache.proofs.laws.calls_survive_crashes.Goals as goal

pub returns : goal.returns
returns c = steps_keep
