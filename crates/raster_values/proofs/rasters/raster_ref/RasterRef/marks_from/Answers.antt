use Rattle.std.proofs.Common.{◌+◌, ap, ◌∙◌, sym, get_or}
use Rattle.std.specs.Prelude.{is_some, None}
use Rattle.raster_values.specs.Raster.{Pixels}
use Rattle.raster_values.specs.inside.RasterRefView.{vectors_of}
use Rattle.raster_values.proofs.FlatViews.{mark_flat}
use Rattle.raster_values.proofs.rasters.raster_ref.RasterRef.marks_from.Goals as goal

pub returns-clause-marks : goal.returns-clause-marks
returns-clause-marks c i below =
    c.copy_run.ensures i below ∙ sym (mark_flat (vectors_of c.self.inside) (c.args.place + i)) ∙ ap (λ (r : Pixels). is_some (get_or r.pixels (c.args.place + i) None)) c.self.view_is
