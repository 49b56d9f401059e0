use Rattle.mask_runs.proofs.Decided.{runs_decided}
use Rattle.mask_runs.proofs.laws.bytes_are_runs_or_go_wrong.Goals as goal

pub returns : goal.returns
returns c = runs_decided
