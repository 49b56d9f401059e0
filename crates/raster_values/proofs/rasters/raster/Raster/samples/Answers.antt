use Rattle.std.proofs.Common.{◌≡◌, List, Bool, ap, sym, subst}
use Rattle.raster_values.specs.Raster.{Pixels}
use Rattle.raster_values.specs.Flat.{marks_of}
use Rattle.raster_values.specs.View.{AreVectors, raster_of}
use Rattle.raster_values.proofs.FlatViews.{marks_of-pixels_of, vectors_inside}
use Rattle.raster_values.proofs.rasters.raster.Raster.samples.Goals as goal

pub returns-clause-value : goal.returns-clause-value
returns-clause-value c =
    let a = c.self.inside in
    subst (λ (r : Pixels). r ≡ raster_of r.rows r.cols r.depth (marks_of r) a.values) c.self.view_is
    (ap (λ (ms : List Bool). raster_of a.rows a.cols a.depth ms a.values) (sym (marks_of-pixels_of a.depth a.marks a.values.values)))

pub returns-clause-vectors : goal.returns-clause-vectors
returns-clause-vectors c =
    let a = c.self.inside in
    subst (λ (r : Pixels). AreVectors r.rows r.cols r.depth (marks_of r) a.values) c.self.view_is
    (subst (λ (ms : List Bool). AreVectors a.rows a.cols a.depth ms a.values) (sym (marks_of-pixels_of a.depth a.marks a.values.values)) (vectors_inside a c.self.invariant))
