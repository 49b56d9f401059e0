use Rattle.ascii_grid.proofs.CanonSteps.{canon_is}
use Rattle.ascii_grid.proofs.laws.canon_stands.Goals as goal

pub returns : goal.returns
returns c = canon_is
