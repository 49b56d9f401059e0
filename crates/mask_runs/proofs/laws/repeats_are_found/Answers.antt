use Rattle.mask_runs.proofs.Equal.{before_none, before_there}
use Rattle.mask_runs.proofs.laws.repeats_are_found.Goals as goal

pub returns-clause-none_before : goal.returns-clause-none_before
returns-clause-none_before c = before_none

pub returns-clause-there : goal.returns-clause-there
returns-clause-there c = before_there
