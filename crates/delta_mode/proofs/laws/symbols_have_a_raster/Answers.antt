use Rattle.delta_mode.proofs.Existence.{depth_there, raster_there, plain_there, deltas_low, plain_low}
use Rattle.delta_mode.proofs.laws.symbols_have_a_raster.Goals as goal

pub returns-clause-depth : goal.returns-clause-depth
returns-clause-depth c = depth_there

pub returns-clause-deltas : goal.returns-clause-deltas
returns-clause-deltas c = raster_there

pub returns-clause-plain : goal.returns-clause-plain
returns-clause-plain c = plain_there

pub returns-clause-deltas_are_symbols : goal.returns-clause-deltas_are_symbols
returns-clause-deltas_are_symbols c = deltas_low

pub returns-clause-plain_are_symbols : goal.returns-clause-plain_are_symbols
returns-clause-plain_are_symbols c = plain_low
