use Rattle.std.proofs.Common.{◌∙◌, arith}
use Rattle.raster_cells.proofs.CellDistances.{few_there, bytes_within, distance_there}
use Rattle.raster_cells.proofs.values.cell_bytes.CellBytes.distance_as.Goals as goal

pub distance_at-requires-clause-within : goal.distance_at-requires-clause-within
distance_at-requires-clause-within c =
    bytes_within c.self.inside c.args.self.now c.args.kind c.args.at c.self.invariant c.self.view_is c.requires.kind c.requires.within

pub returns : goal.returns
returns c =
    c.distance_at.ensures ∙ distance_there c.self.inside c.args.self.now c.args.kind c.args.at c.self.view_is c.requires.kind c.requires.within

pub distance_at-requires-clause-few : goal.distance_at-requires-clause-few
distance_at-requires-clause-few c = omega (arith, c.requires.within, few_there c.self.inside c.args.self.now c.self.invariant c.self.view_is)
