use Rattle.lerc_cli.proofs.CrashLemmas.Idle.{keeps_from_rest}
use Rattle.lerc_cli.proofs.laws.runs_from_rest_keep_their_tiles.Goals as goal

pub returns : goal.returns
returns c = keeps_from_rest
