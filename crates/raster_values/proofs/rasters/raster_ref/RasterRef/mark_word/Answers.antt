use Rattle.std.proofs.Common.{sym, ap, ◌∙◌, subst}
use Rattle.raster_values.specs.Flat.{marks_of}
use Rattle.raster_cells.specs.Words.{AreMarks}
use Rattle.raster_values.proofs.FlatViews.{marks_of-pixels_of}
use Rattle.raster_values.proofs.rasters.raster_ref.RasterRef.mark_word.Goals as goal

pub returns : goal.returns
returns c =
    let a = c.self.inside in
    record {
      marks =
          subst (λ ms. AreMarks ms c.args.place c.args.count c.word.result) (sym (marks_of-pixels_of a.depth a.marks a.values.values) ∙ ap marks_of c.self.view_is) c.word.ensures;
    }
