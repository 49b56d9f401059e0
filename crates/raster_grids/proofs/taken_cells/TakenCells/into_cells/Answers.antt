use Rattle.std.proofs.Common.{◌∙◌}
use Rattle.raster_grids.proofs.taken_cells.TakenCells.into_cells.Goals as goal

pub of_vec-requires-clause-few : goal.of_vec-requires-clause-few
of_vec-requires-clause-few c = c.self.invariant.few

pub of_vec-requires-clause-size : goal.of_vec-requires-clause-size
of_vec-requires-clause-size c = c.self.invariant.size

pub returns : goal.returns
returns c = c.of_vec.ensures ∙ c.self.view_is
