use Rattle.ascii_grid.proofs.LgaLaws.{lga_has_no_fault, one_lga_fault}
use Rattle.ascii_grid.proofs.laws.one_lga_fault.Goals as goal

pub returns-clause-fault : goal.returns-clause-fault
returns-clause-fault c = one_lga_fault

pub returns-clause-grid : goal.returns-clause-grid
returns-clause-grid c = lga_has_no_fault
