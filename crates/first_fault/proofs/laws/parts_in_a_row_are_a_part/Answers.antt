use Rattle.first_fault.specs.Laws.{TestedPart, TestedFaults}
use Rattle.first_fault.proofs.Decided.{decided_numbered}
use Rattle.first_fault.proofs.Parts.{numbered_part}
use Rattle.first_fault.proofs.laws.parts_in_a_row_are_a_part.Goals as goal

pub returns-clause-part : goal.returns-clause-part
returns-clause-part c = λ part own is n.
    numbered_part (λ k. TestedPart (part k)) (λ k. TestedFaults (own k)) is n

pub returns-clause-decided : goal.returns-clause-decided
returns-clause-decided c = λ part own is n.
    decided_numbered (λ k. TestedPart (part k)) (λ k. TestedFaults (own k)) is n
