use Rattle.std.proofs.Common.{◌≡◌, ap, ◌∙◌, sym, subst, length}
use Rattle.raster_values.specs.Raster.{Pixels, IsRaster}
use Rattle.raster_values.specs.Order.{FillsValid}
use Rattle.raster_cells.specs.CellList.{CellList}
use Rattle.raster_values.specs.Ordered.{FillsMarked}
use Rattle.raster_values.specs.View.{pixels_of}
use Rattle.raster_values.proofs.FlatViews.{fills_keep, fills_valid, with_values, keeps_inside}
use Rattle.raster_values.proofs.rasters.raster.Raster.fill_given.Goals as goal

pub returns-clause-filled : goal.returns-clause-filled
returns-clause-filled g c =
    let a = c.self.inside in
    let pixel = g.G.ValueSource.listed c.args.given.now in
    let vs = c.fill_marked.new.values.values in
    let cells : c.fill_marked.new.values ≡ record a.values { values = vs } = λ i. record { kind = c.fill_marked.ensures.form.kind i; values = vs } in
    let fills : FillsMarked (length a.marks) a.marks pixel a.values.values vs =
    c.fill_marked.ensures.filled in
    subst (λ (l : CellList). FillsValid c.args.self.now (record { kind = l.kind; rows = a.rows; cols = a.cols; depth = a.depth; pixels = pixels_of a.depth a.marks l.values }) pixel) (sym cells)
    (subst (λ (r : Pixels). length pixel ≡ r.depth → FillsValid r (with_values a vs) pixel) c.self.view_is
    (λ deep. fills_valid a pixel vs c.self.invariant deep
    (fills_keep a pixel vs c.self.invariant deep c.fill_marked.ensures.form.size (c.fill_marked.ensures.form.in_range c.self.invariant.in_range) fills) fills) c.requires.count)

pub returns-clause-sound : goal.returns-clause-sound
returns-clause-sound g c =
    let a = c.self.inside in
    let vs = c.fill_marked.new.values.values in
    let cells : c.fill_marked.new.values ≡ record a.values { values = vs } = λ i. record { kind = c.fill_marked.ensures.form.kind i; values = vs } in
    subst (λ (l : CellList). IsRaster (record { kind = l.kind; rows = a.rows; cols = a.cols; depth = a.depth; pixels = pixels_of a.depth a.marks l.values })) (sym cells) (keeps_inside a vs c.self.invariant (fills_keep a (g.G.ValueSource.listed c.args.given.now) vs c.self.invariant (c.requires.count ∙ ap (λ (r : Pixels). r.depth) (sym c.self.view_is)) c.fill_marked.ensures.form.size (c.fill_marked.ensures.form.in_range c.self.invariant.in_range) c.fill_marked.ensures.filled))
