use Rattle.std.proofs.Common.{refl}
use Rattle.delta_mode.proofs.PlainPieces.{plain_on}
use Rattle.delta_mode.proofs.giving_plain.first_plain.Goals as goal

pub returns-clause-state : goal.returns-clause-state
returns-clause-state c = λ r. plain_on r _ refl refl
