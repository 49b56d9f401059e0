use Rattle.std.proofs.Common.{◌≡◌, ap, ◌∙◌, sym}
use Rattle.raster_values.specs.Flat.{marks_of}
use Rattle.raster_values.proofs.FlatViews.{marks_of-pixels_of}
use Rattle.raster_values.proofs.rasters.raster.Raster.has_mask_of.Goals as goal

pub returns : goal.returns
returns c =
    let a = c.self.inside in
    let b = c.other.inside in
    let one : marks_of c.args.self.now ≡ a.marks = sym (ap marks_of c.self.view_is) ∙ marks_of-pixels_of a.depth a.marks a.values.values in
    let two : marks_of c.args.other.now ≡ b.marks = sym (ap marks_of c.other.view_is) ∙ marks_of-pixels_of b.depth b.marks b.values.values in
    (λ told. one ∙ c.is_same.ensures.0 told ∙ sym two, λ e. c.is_same.ensures.1 (sym one ∙ e ∙ two))
