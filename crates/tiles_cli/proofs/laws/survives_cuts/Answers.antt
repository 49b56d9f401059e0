use Rattle.tiles_cli.proofs.Cuts.{survives}
use Rattle.tiles_cli.proofs.laws.survives_cuts.Goals as goal

pub returns : goal.returns
returns c = survives
