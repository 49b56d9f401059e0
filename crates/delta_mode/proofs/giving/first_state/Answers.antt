use Rattle.std.proofs.Common.{refl}
use Rattle.delta_mode.proofs.EncodeStates.{first_on}
use Rattle.delta_mode.proofs.giving.first_state.Goals as goal

pub returns-clause-state : goal.returns-clause-state
returns-clause-state c = λ r sound. first_on r sound _ refl refl refl c.start.ensures.left c.start.ensures.last c.start.ensures.count
