use Rattle.raster_grids.proofs.GridLaws.{written_grid, grids_are_parts}
use Rattle.raster_grids.proofs.GridDecided.{grids_are_decided}
use Rattle.raster_grids.proofs.laws.grids_are_parts.Goals as goal

pub returns-clause-written : goal.returns-clause-written
returns-clause-written c = written_grid

pub returns-clause-part : goal.returns-clause-part
returns-clause-part c = grids_are_parts

pub returns-clause-decided : goal.returns-clause-decided
returns-clause-decided c = grids_are_decided
