use Rattle.ascii_grid.proofs.Decided.{is_either}
use Rattle.ascii_grid.proofs.laws.is_either.Goals as goal

pub returns : goal.returns
returns c = is_either
