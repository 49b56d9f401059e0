use Rattle.mask_runs.proofs.Chosen.{are_chosen, only_chosen}
use Rattle.mask_runs.proofs.laws.pieces_are_chosen.Goals as goal

pub returns-clause-are : goal.returns-clause-are
returns-clause-are c = are_chosen

pub returns-clause-only : goal.returns-clause-only
returns-clause-only c = only_chosen
