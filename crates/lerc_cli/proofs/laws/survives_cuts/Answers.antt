use Rattle.lerc_cli.proofs.CrashLemmas.CutRuns.{survives}
use Rattle.lerc_cli.proofs.laws.survives_cuts.Goals as goal

pub returns : goal.returns
returns c = survives
