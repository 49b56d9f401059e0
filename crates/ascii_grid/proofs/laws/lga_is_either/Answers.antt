use Rattle.ascii_grid.proofs.LgaLaws.{lga_is_either}
use Rattle.ascii_grid.proofs.laws.lga_is_either.Goals as goal

pub returns : goal.returns
returns c = lga_is_either
