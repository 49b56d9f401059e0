use Rattle.raster_grids.proofs.OneGrid.{grid_determines as law}
use Rattle.raster_grids.proofs.laws.grid_determines.Goals as goal

pub returns : goal.returns
returns c = law
