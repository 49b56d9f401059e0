use Rattle.std.proofs.Common.{◌≡◌, ◌+◌, ◌*◌, ◌/◌, ap, ◌∙◌, subst, length, arith}
use Rattle.raster_values.specs.Raster.{Pixels}
use Rattle.raster_values.specs.Order.{IsMaskOf}
use Rattle.raster_cells.specs.Masks.{mask_bit}
use Rattle.raster_values.proofs.FlatViews.{mask_is}
use Rattle.raster_values.proofs.rasters.raster.Raster.mask_bytes.Goals as goal

pub returns : goal.returns
returns c =
    let a = c.self.inside in
    subst (λ (r : Pixels). length c.args.out.now ≡ (r.rows * r.cols + 7) / 8 → IsMaskOf r c.copy_from_slice.new.self) c.self.view_is
    (λ size. mask_is a c.copy_from_slice.new.self c.self.invariant.marks (c.copy_from_slice.auto.self ∙ size) (λ k. omega (arith, c.type_inv.out k))
    (λ k. ap (λ xs. mask_bit xs k) c.copy_from_slice.ensures.after ∙ c.bytes.ensures.bits k)) c.requires
