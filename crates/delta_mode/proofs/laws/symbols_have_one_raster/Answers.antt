use Rattle.delta_mode.proofs.SymbolLaws.{one_raster, one_plain}
use Rattle.delta_mode.proofs.laws.symbols_have_one_raster.Goals as goal

pub returns-clause-deltas : goal.returns-clause-deltas
returns-clause-deltas c = one_raster

pub returns-clause-plain : goal.returns-clause-plain
returns-clause-plain c = one_plain
