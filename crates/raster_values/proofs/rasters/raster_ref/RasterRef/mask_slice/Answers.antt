use Rattle.std.proofs.Common.{◌≡◌, ◌+◌, ◌*◌, ◌/◌, ◌<◌, ℕ, ap, ◌∙◌, sym, subst, length, get_or, arith}
use Rattle.std.specs.Prelude.{None, count_by, is_some}
use Rattle.raster_values.specs.Raster.{Pixels, valid_count}
use Rattle.raster_cells.specs.Masks.{mask_bit}
use Rattle.raster_values.specs.inside.RasterRefView.{seen_there, vectors_of}
use Rattle.raster_values.proofs.FlatViews.{mark_flat}
use Rattle.raster_values.proofs.Views.{count-pixels_of}
use Rattle.raster_values.proofs.rasters.raster_ref.RasterRef.mask_slice.Goals as goal

pub bytes-requires : goal.bytes-requires
bytes-requires c =
    let a = c.self.inside in
    subst (λ (r : Pixels). valid_count r < r.rows * r.cols → count_by (λ m. m) a.marks < length a.marks) c.self.view_is
    (λ (few : valid_count (seen_there a) < a.rows * a.cols). omega (arith, few, count-pixels_of a.depth a.marks a.values.values, c.self.invariant.marks)) c.requires

pub returns-clause-size : goal.returns-clause-size
returns-clause-size c =
    c.bytes.ensures.size ∙ ap (λ n. (n + 7) / 8) c.self.invariant.marks ∙ ap (λ (r : Pixels). (r.rows * r.cols + 7) / 8) c.self.view_is

pub returns-clause-bits : goal.returns-clause-bits
returns-clause-bits c =
    let a = c.self.inside in
    subst (λ (r : Pixels). (k : ℕ) → k < r.rows * r.cols → mask_bit c.bytes.result.now k ≡ is_some (get_or r.pixels k None)) c.self.view_is
    (λ k below. c.bytes.ensures.bits k (omega (arith, below, c.self.invariant.marks)) ∙ sym (mark_flat (vectors_of a) k))
