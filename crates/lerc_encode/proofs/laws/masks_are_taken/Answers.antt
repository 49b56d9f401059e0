use Rattle.lerc_encode.proofs.TakenMasks.{taken_is, taken_told}
use Rattle.lerc_encode.proofs.Own.{own_is}
use Rattle.lerc_encode.proofs.laws.masks_are_taken.Goals as goal

pub returns-clause-taken : goal.returns-clause-taken
returns-clause-taken c = λ before r. (taken_is before r, λ same. taken_told before r same.0 same.1)

pub returns-clause-own : goal.returns-clause-own
returns-clause-own c = own_is
