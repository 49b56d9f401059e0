use Rattle.raster_cells.proofs.Distances.{stand}
use Rattle.raster_cells.proofs.laws.distances_stand.Goals as goal

pub returns : goal.returns
returns c = stand
