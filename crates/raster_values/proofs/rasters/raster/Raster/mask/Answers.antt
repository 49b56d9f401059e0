use Rattle.std.proofs.Common.{ap, ◌∙◌, sym}
use Rattle.raster_values.specs.Flat.{marks_of}
use Rattle.raster_values.proofs.FlatViews.{marks_of-pixels_of}
use Rattle.raster_values.proofs.rasters.raster.Raster.mask.Goals as goal

pub returns : goal.returns
returns c =
    let a = c.self.inside in
    sym (marks_of-pixels_of a.depth a.marks a.values.values) ∙ ap marks_of c.self.view_is
