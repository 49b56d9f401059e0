use Rattle.std.proofs.Common.{◌≡◌, ◌∙◌, Bool, List, ap, false, get_or, subst, sym}
use Rattle.raster_values.specs.Flat.{marks_of}
use Rattle.raster_values.specs.RasterMut.{inside_of, lent_pixels}
use Rattle.raster_cells.specs.MarkRuns.{AreRuns}
use Rattle.raster_values.proofs.FlatViews.{marks_of-pixels_of}
use Rattle.raster_values.proofs.rasters.raster_mut.RasterMut.next_run.Goals as goal

-- the mask is the marks of the pixels
are : (c : goal.After-next_run) → marks_of (lent_pixels c.args.self.now) ≡ c.marks.result
are c =
    let a = inside_of c.args.self.now in
    marks_of-pixels_of a.depth a.marks a.values.values ∙ sym c.marks.ensures

pub returns-clause-begins : goal.returns-clause-begins
returns-clause-begins c less = ap (λ (ms : List Bool). get_or ms c.next_run.result.start false) (are c) ∙ c.next_run.ensures.begins less

pub returns-clause-ends : goal.returns-clause-ends
returns-clause-ends c less = ap (λ (ms : List Bool). get_or ms c.next_run.result.end false) (are c) ∙ c.next_run.ensures.ends less

pub returns-clause-runs : goal.returns-clause-runs
returns-clause-runs c =
    subst (λ ms. AreRuns ms c.args.place c.next_run.result.start c.next_run.result.end) (sym (are c)) c.next_run.ensures.runs
