use Rattle.bit_stuff.proofs.HeadParts.{head_decided, head_part}
use Rattle.bit_stuff.proofs.laws.heads_stand_or_have_one_fault.Goals as goal

pub returns-clause-part : goal.returns-clause-part
returns-clause-part c = λ n. head_part n

pub returns-clause-decided : goal.returns-clause-decided
returns-clause-decided c = λ n. head_decided n
