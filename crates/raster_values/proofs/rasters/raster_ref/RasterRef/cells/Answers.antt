use Rattle.std.proofs.Common.{◌≡◌, ◌*◌, ap, ◌∙◌, sym, subst, length}
use Rattle.raster_cells.specs.PixelType.{bytes_of}
use Rattle.raster_values.specs.Raster.{Pixels, valid_count}
use Rattle.raster_cells.specs.Values.{values_bytes}
use Rattle.raster_values.specs.Flat.{all_values}
use Rattle.raster_cells.proofs.Pack.{length-values_bytes}
use Rattle.raster_values.proofs.RasterRefArrays.{seen_whole}
use Rattle.raster_values.proofs.rasters.raster_ref.RasterRef.cells.Goals as goal

pub returns-clause-bytes : goal.returns-clause-bytes
returns-clause-bytes c =
    let a = c.self.inside in
    subst (λ (r : Pixels). valid_count r ≡ r.rows * r.cols → c.bytes.result.now ≡ values_bytes r.kind (all_values r)) c.self.view_is
    (λ full. c.bytes.ensures ∙ ap (values_bytes a.values.kind) (sym (seen_whole a c.self.invariant full))) c.requires

pub returns-clause-size : goal.returns-clause-size
returns-clause-size c =
    let a = c.self.inside in
    ap length c.bytes.ensures ∙ length-values_bytes a.values.kind a.values.values ∙ ap (λ n. n * bytes_of a.values.kind) c.self.invariant.values
    ∙ ap (λ (r : Pixels). r.rows * r.cols * r.depth * bytes_of r.kind) c.self.view_is
