use Rattle.std.proofs.Common.{◌≡◌, Bool, List, ap, ◌∙◌, subst, length, get_or, false}
use Rattle.raster_values.specs.Raster.{Pixels, valid_count}
use Rattle.raster_values.specs.Order.{MarksBits}
use Rattle.raster_values.specs.declared.rasters.raster.Raster.TheInside.{Inside}
use Rattle.raster_values.specs.View.{seen, pixels_of, IsInside}
use Rattle.raster_values.proofs.Views.{sound}
use Rattle.raster_values.proofs.Blank.{still_zero, bits_mark}
use Rattle.raster_cells.proofs.MaskBits.{length-marks_in, get_or-marks_in}
use Rattle.raster_values.proofs.rasters.raster.Raster.mark_from_bits.Goals as goal

-- the vectors with these marks
abbrev marked : (a : Inside) (ms : List Bool) → Inside
marked a ms = record { rows = a.rows; cols = a.cols; depth = a.depth; marks = ms; values = a.values }

inside : (a : Inside) (ms : List Bool) → IsInside a → valid_count (seen a) ≡ 0 → length ms ≡ length a.marks → IsInside (marked a ms)
inside a ms h none long = record { shape = h.shape; marks = long ∙ h.marks; values = h.values; in_range = h.in_range; zeros = still_zero a ms h none long }

pub invariant_of-self : goal.invariant_of-self
invariant_of-self c =
    let long : length c.set_all.new.self ≡ length c.self.inside.marks = ap length c.set_all.ensures ∙ length-marks_in (length c.self.inside.marks) c.args.mask.now in
    inside c.self.inside c.set_all.new.self c.self.invariant (ap valid_count c.self.view_is ∙ c.requires.none) long

pub returns-clause-sound : goal.returns-clause-sound
returns-clause-sound c =
    let long : length c.set_all.new.self ≡ length c.self.inside.marks = ap length c.set_all.ensures ∙ length-marks_in (length c.self.inside.marks) c.args.mask.now in
    sound (marked c.self.inside c.set_all.new.self) (inside c.self.inside c.set_all.new.self c.self.invariant (ap valid_count c.self.view_is ∙ c.requires.none) long)

pub returns-clause-marked : goal.returns-clause-marked
returns-clause-marked c =
    let a = c.self.inside in
    let ms = c.set_all.new.self in
    let long : length ms ≡ length a.marks = ap length c.set_all.ensures ∙ length-marks_in (length a.marks) c.args.mask.now in
    subst (λ (r : Pixels). MarksBits r (record (seen a) { pixels = pixels_of a.depth ms a.values.values }) c.args.mask.now) c.self.view_is
    (bits_mark a ms c.args.mask.now c.self.invariant (ap valid_count c.self.view_is ∙ c.requires.none) long
    (λ k below. ap (λ xs. get_or xs k false) c.set_all.ensures ∙ get_or-marks_in (length a.marks) c.args.mask.now k below))
