use Rattle.mask_runs.proofs.Chosen.{pieces_go_on as go_on}
use Rattle.mask_runs.proofs.laws.pieces_go_on.Goals as goal

pub returns-clause-more : goal.returns-clause-more
returns-clause-more c = go_on
