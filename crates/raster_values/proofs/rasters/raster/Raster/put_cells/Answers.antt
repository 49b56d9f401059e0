use Rattle.std.proofs.Common.{◌≡◌, ◌*◌, ap, ◌∙◌, sym, subst, length}
use Rattle.raster_cells.specs.PixelType.{bytes_of}
use Rattle.raster_values.specs.Raster.{Pixels, IsRaster}
use Rattle.raster_values.specs.Flat.{PutsAll}
use Rattle.raster_cells.specs.CellList.{CellList}
use Rattle.raster_values.specs.Ordered.{PutsMarkedBytes}
use Rattle.raster_values.specs.View.{pixels_of}
use Rattle.raster_values.proofs.FlatViews.{with_values, keeps_inside}
use Rattle.raster_values.proofs.AllCells.{puts_keep_marks, puts_all}
use Rattle.raster_values.proofs.rasters.raster.Raster.put_cells.Goals as goal

pub put_cells-requires-clause-bytes : goal.put_cells-requires-clause-bytes
put_cells-requires-clause-bytes c =
    let a = c.self.inside in
    c.requires ∙ ap (λ (r : Pixels). r.rows * r.cols * r.depth * bytes_of r.kind) (sym c.self.view_is) ∙ ap (λ n. n * bytes_of a.values.kind) (sym c.self.invariant.values)

pub returns-clause-put : goal.returns-clause-put
returns-clause-put c =
    let a = c.self.inside in
    let vs = c.put_cells.new.values.values in
    let cells : c.put_cells.new.values ≡ record a.values { values = vs } = λ i. record { kind = c.put_cells.ensures.form.kind i; values = vs } in
    let puts : PutsMarkedBytes a.values.kind a.depth (length a.marks) a.marks c.args.bytes.now a.values.values vs =
    c.put_cells.ensures.put in
    subst (λ (l : CellList). PutsAll c.args.self.now (record { kind = l.kind; rows = a.rows; cols = a.cols; depth = a.depth; pixels = pixels_of a.depth a.marks l.values }) c.args.bytes.now) (sym cells)
    (subst (λ (r : Pixels). PutsAll r (with_values a vs) c.args.bytes.now) c.self.view_is
    (puts_all a c.args.bytes.now vs c.self.invariant (puts_keep_marks a c.args.bytes.now vs c.self.invariant c.put_cells.ensures.form.size (c.put_cells.ensures.form.in_range c.self.invariant.in_range) puts) puts))

pub returns-clause-sound : goal.returns-clause-sound
returns-clause-sound c =
    let a = c.self.inside in
    let vs = c.put_cells.new.values.values in
    let cells : c.put_cells.new.values ≡ record a.values { values = vs } = λ i. record { kind = c.put_cells.ensures.form.kind i; values = vs } in
    subst (λ (l : CellList). IsRaster (record { kind = l.kind; rows = a.rows; cols = a.cols; depth = a.depth; pixels = pixels_of a.depth a.marks l.values })) (sym cells) (keeps_inside a vs c.self.invariant (puts_keep_marks a c.args.bytes.now vs c.self.invariant c.put_cells.ensures.form.size (c.put_cells.ensures.form.in_range c.self.invariant.in_range) c.put_cells.ensures.put))
