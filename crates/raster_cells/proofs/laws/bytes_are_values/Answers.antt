use Rattle.raster_cells.proofs.Spelled.{written_values, values_once, values_there}
use Rattle.raster_cells.proofs.laws.bytes_are_values.Goals as goal

pub returns-clause-written : goal.returns-clause-written
returns-clause-written c = written_values

pub returns-clause-one : goal.returns-clause-one
returns-clause-one c = values_once

pub returns-clause-there : goal.returns-clause-there
returns-clause-there c = values_there
