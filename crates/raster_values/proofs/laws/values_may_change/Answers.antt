use Rattle.raster_values.proofs.Revalued.{may_change}
use Rattle.raster_values.proofs.laws.values_may_change.Goals as goal

pub returns : goal.returns
returns c = may_change
