use Rattle.std.proofs.Common.{◌≡◌, ◌≤◌, ◌*◌, ap, ◌∙◌, sym, subst, arith}
use Rattle.std.specs.Prelude.{count_by, is_some}
use Rattle.std.proofs.lemmas.List.Sums.{count_by-le-length}
use Rattle.raster_values.specs.Raster.{Pixels}
use Rattle.raster_values.proofs.Views.{count-pixels_of}
use Rattle.raster_values.proofs.rasters.raster_ref.RasterRef.valid_count.Goals as goal

pub returns-clause-value : goal.returns-clause-value
returns-clause-value c =
    let counted : c.valid_count.result ≡ count_by (λ m. m) c.self.inside.marks = c.valid_count.ensures in
    counted ∙ sym (count-pixels_of c.self.inside.depth c.self.inside.marks c.self.inside.values.values) ∙ ap (λ r. count_by is_some r.pixels) c.self.view_is

pub returns-clause-within : goal.returns-clause-within
returns-clause-within c =
    let counted : c.valid_count.result ≡ count_by (λ m. m) c.self.inside.marks = c.valid_count.ensures in
    subst (λ (r : Pixels). c.valid_count.result ≤ r.rows * r.cols) c.self.view_is
    (let within : c.valid_count.result ≤ c.self.inside.rows * c.self.inside.cols = omega (arith, counted, count_by-le-length (λ m. m) c.self.inside.marks, c.self.invariant.marks) in within)
