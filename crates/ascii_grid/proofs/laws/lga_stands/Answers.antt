use Rattle.ascii_grid.proofs.LgaLaws.{lga_stands}
use Rattle.ascii_grid.proofs.laws.lga_stands.Goals as goal

pub returns : goal.returns
returns c = lga_stands
