use Rattle.lut_stuff.proofs.Lists.{list_decided, list_part}
use Rattle.lut_stuff.proofs.laws.lists_stand_or_have_one_fault.Goals as goal

pub returns-clause-part : goal.returns-clause-part
returns-clause-part c = λ n. list_part n

pub returns-clause-decided : goal.returns-clause-decided
returns-clause-decided c = λ n. list_decided n
