use Rattle.raster_values.proofs.Revalued.{in_order_there, order_determines}
use Rattle.raster_values.proofs.laws.in_order_is_a_raster.Goals as goal

pub returns-clause-there : goal.returns-clause-there
returns-clause-there c = in_order_there

pub returns-clause-one : goal.returns-clause-one
returns-clause-one c = order_determines
