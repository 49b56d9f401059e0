use Rattle.std.proofs.Common.{◌+◌, ◌*◌, ◌/◌, ap, ◌∙◌, sym, get_or}
use Rattle.std.specs.Prelude.{None, is_some}
use Rattle.raster_values.specs.Raster.{Pixels}
use Rattle.raster_values.proofs.FlatViews.{mark_flat}
use Rattle.raster_values.proofs.rasters.raster.Raster.mask_slice.Goals as goal

pub returns-clause-size : goal.returns-clause-size
returns-clause-size c =
    c.bytes.ensures.size ∙ ap (λ n. (n + 7) / 8) c.self.invariant.marks ∙ ap (λ (r : Pixels). (r.rows * r.cols + 7) / 8) c.self.view_is

pub returns-clause-bits : goal.returns-clause-bits
returns-clause-bits c k below =
    c.bytes.ensures.bits k ∙ sym (mark_flat c.self.inside k) ∙ ap (λ (r : Pixels). is_some (get_or r.pixels k None)) c.self.view_is
