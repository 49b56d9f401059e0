use Rattle.std.proofs.Common.{◌≡◌, ap, ◌∙◌, replicate, length, true}
use Rattle.std.specs.Prelude.{pos}
use Rattle.std.proofs.lemmas.List.{length-replicate}
use Rattle.raster_values.specs.Raster.{Pixels, filled, valid_count}
use Rattle.raster_values.proofs.Views.{fill_leaves, fill_keeps, KeepsValues}
use Rattle.raster_cells.proofs.ValueBits.{zero_in_range}
use Rattle.raster_values.proofs.Blank.{all_zero}
use Rattle.raster_values.proofs.rasters.raster.Raster.mark_all.Goals as goal

pub invariant_of-self : goal.invariant_of-self
invariant_of-self c =
    let a = c.self.inside in
    let zeros : a.values.values ≡ replicate (length a.values.values) (pos 0) = all_zero a c.self.invariant (ap valid_count c.self.view_is ∙ c.requires) in
    let values : KeepsValues a c.fill.new.self a.values.values =
    fill_keeps a (pos 0) c.fill.new.self a.values.values c.self.invariant c.fill.ensures zeros (zero_in_range a.values.kind) in
    record { shape = c.self.invariant.shape; marks = ap length c.fill.ensures ∙ length-replicate (length a.marks) true ∙ c.self.invariant.marks; values = values.values; in_range = values.in_range; zeros = values.zeros }

pub returns : goal.returns
returns c =
    let a = c.self.inside in
    let zeros : a.values.values ≡ replicate (length a.values.values) (pos 0) = all_zero a c.self.invariant (ap valid_count c.self.view_is ∙ c.requires) in
    fill_leaves a (pos 0) c.fill.new.self a.values.values c.self.invariant c.fill.ensures zeros
    ∙ ap (λ (r : Pixels). filled r (pos 0)) c.self.view_is
