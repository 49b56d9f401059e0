use Rattle.delta_mode.proofs.SymbolLaws.{one_depth}
use Rattle.delta_mode.proofs.laws.symbols_have_one_depth.Goals as goal

pub returns : goal.returns
returns c = one_depth
