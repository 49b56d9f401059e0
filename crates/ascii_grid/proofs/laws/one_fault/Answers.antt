use Rattle.ascii_grid.proofs.OneFault.{no_fault, one_fault}
use Rattle.ascii_grid.proofs.laws.one_fault.Goals as goal

pub returns-clause-fault : goal.returns-clause-fault
returns-clause-fault c = one_fault

pub returns-clause-grid : goal.returns-clause-grid
returns-clause-grid c = no_fault
