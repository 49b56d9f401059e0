use Rattle.ascii_grid.proofs.LgaLaws.{lga_is_lawful, one_lga}
use Rattle.ascii_grid.proofs.laws.one_lga.Goals as goal

pub returns-clause-grid : goal.returns-clause-grid
returns-clause-grid c = one_lga

pub returns-clause-lawful : goal.returns-clause-lawful
returns-clause-lawful c = lga_is_lawful
