use Rattle.raster_values.specs.declared.rasters.raster.Raster.TheInside.{Inside}
use Rattle.raster_values.proofs.Views.{sound}
use Rattle.raster_values.proofs.FlatViews.{inside_vectors}
use Rattle.raster_values.proofs.rasters.raster.Raster.of_parts.Goals as goal

pub invariant_of-result : goal.invariant_of-result
invariant_of-result c = inside_vectors c.args.rows c.args.cols c.args.depth c.args.marks c.args.values c.requires

pub returns-clause-sound : goal.returns-clause-sound
returns-clause-sound c =
    let a : Inside = record { rows = c.args.rows; cols = c.args.cols; depth = c.args.depth; marks = c.args.marks; values = c.args.values } in
    sound a (inside_vectors c.args.rows c.args.cols c.args.depth c.args.marks c.args.values c.requires)
