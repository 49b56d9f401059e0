use Rattle.first_fault.specs.Laws.{TestedPart, TestedFaults}
use Rattle.first_fault.proofs.Parts.{single-in_order}
use Rattle.first_fault.proofs.laws.a_part_and_its_rest_have_one_first_fault.Goals as goal

pub returns : goal.returns
returns c = λ part own behind is later.
    single-in_order (TestedPart part) (TestedFaults own) (λ x. TestedFaults (behind x)) is later
