use Rattle.std.proofs.Common.{◌≡◌, ◌+◌, ◌*◌, ◌/◌, ◌∙◌, subst, length, arith}
use Rattle.raster_values.specs.Raster.{Pixels}
use Rattle.raster_values.specs.Order.{IsMaskOf}
use Rattle.raster_values.specs.inside.RasterRefView.{vectors_of}
use Rattle.raster_values.proofs.FlatViews.{mask_is}
use Rattle.raster_values.proofs.rasters.raster_ref.RasterRef.mask_bytes.Goals as goal

pub returns : goal.returns
returns c =
    let out = c.write_bits.new.out in
    subst (λ (r : Pixels). length c.args.out.now ≡ (r.rows * r.cols + 7) / 8 → IsMaskOf r out) c.self.view_is
    (λ size. mask_is (vectors_of c.self.inside) out c.self.invariant.marks (c.write_bits.ensures.size ∙ size) (λ k. omega (arith, c.type_inv.out k)) c.write_bits.ensures.bits) c.requires
