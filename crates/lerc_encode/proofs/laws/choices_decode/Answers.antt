use Rattle.lerc_encode.proofs.Asked.{asked_is}
use Rattle.lerc_encode.proofs.Own.{after_declares, after_once, encoded_once}
use Rattle.lerc_encode.proofs.laws.choices_decode.Goals as goal

pub returns-clause-own : goal.returns-clause-own
returns-clause-own c = λ r version step is allowed flat. encoded_once r version step (asked_is r version step is allowed flat)

pub returns-clause-after : goal.returns-clause-after
returns-clause-after c = λ before r version step is allowed flat. after_once before r version step (asked_is r version step is allowed flat)

pub returns-clause-declare : goal.returns-clause-declare
returns-clause-declare c = λ before r version step is allowed flat. after_declares before r version step (asked_is r version step is allowed flat)
