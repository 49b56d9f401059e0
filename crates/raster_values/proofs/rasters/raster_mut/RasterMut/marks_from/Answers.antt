use Rattle.std.proofs.Common.{◌+◌, List, Bool, ap, ◌∙◌, sym, get_or, false}
use Rattle.raster_values.specs.RasterMut.{inside_of}
use Rattle.raster_values.proofs.FlatViews.{mark_flat}
use Rattle.raster_values.proofs.rasters.raster_mut.RasterMut.marks_from.Goals as goal

pub returns-clause-marks : goal.returns-clause-marks
returns-clause-marks c i below =
    c.copy_run.ensures i below ∙ ap (λ (ms : List Bool). get_or ms (c.args.place + i) false) c.marks.ensures ∙ sym (mark_flat (inside_of c.args.self.now) (c.args.place + i))
