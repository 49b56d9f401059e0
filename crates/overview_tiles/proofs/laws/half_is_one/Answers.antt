use Rattle.overview_tiles.proofs.Halved.{one_half}
use Rattle.overview_tiles.proofs.laws.half_is_one.Goals as goal

pub returns : goal.returns
returns c = one_half
