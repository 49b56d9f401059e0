use Rattle.raster_values.proofs.AllCells.{all_stand, putting_all_is_one, all_put_give}
use Rattle.raster_values.proofs.laws.cells_are_values.Goals as goal

pub returns-clause-placed : goal.returns-clause-placed
returns-clause-placed c = all_stand

pub returns-clause-one : goal.returns-clause-one
returns-clause-one c = putting_all_is_one

pub returns-clause-back : goal.returns-clause-back
returns-clause-back c = all_put_give
