use Rattle.std.proofs.Common.{◌≡◌, ◌<◌, ◌≤◌, ◌+◌, ◌*◌, sym, subst, length, arith}
use Rattle.raster_values.specs.Raster.{Pixels, IsRaster}
use Rattle.raster_values.specs.Flat.{PutsFrom}
use Rattle.raster_cells.specs.CellList.{CellList}
use Rattle.raster_values.specs.Ordered.{PutsMarked}
use Rattle.raster_values.specs.View.{pixels_of}
use Rattle.raster_values.proofs.FlatViews.{puts_keep, puts_from, with_values, keeps_inside}
use Rattle.raster_values.proofs.rasters.raster.Raster.put_from.Goals as goal

pub returns-clause-put : goal.returns-clause-put
returns-clause-put c =
    let a = c.self.inside in
    let vs = c.put_values.new.values.values in
    let cells : c.put_values.new.values ≡ record a.values { values = vs } = λ i. record { kind = c.put_values.ensures.form.kind i; values = vs } in
    let puts : PutsMarked a.depth c.args.d a.marks c.args.place (length c.args.values.now) c.args.values.now a.values.values vs =
    c.put_values.ensures.put in
    subst (λ (l : CellList). PutsFrom c.args.self.now (record { kind = l.kind; rows = a.rows; cols = a.cols; depth = a.depth; pixels = pixels_of a.depth a.marks l.values }) c.args.place c.args.d c.args.values.now) (sym cells)
    (subst (λ (r : Pixels). c.args.place + length c.args.values.now ≤ r.rows * r.cols → c.args.d < r.depth → PutsFrom r (with_values a vs) c.args.place c.args.d c.args.values.now) c.self.view_is
    (λ within below.
    puts_from a c.args.d c.args.place c.args.values.now vs c.self.invariant
    (puts_keep a c.args.d c.args.place (length c.args.values.now) c.args.values.now vs c.self.invariant c.put_values.ensures.form.size (c.put_values.ensures.form.in_range c.self.invariant.in_range) puts)
    below (omega (arith, within, c.self.invariant.marks)) puts) c.requires.place c.requires.depth)

pub returns-clause-sound : goal.returns-clause-sound
returns-clause-sound c =
    let a = c.self.inside in
    let vs = c.put_values.new.values.values in
    let cells : c.put_values.new.values ≡ record a.values { values = vs } = λ i. record { kind = c.put_values.ensures.form.kind i; values = vs } in
    subst (λ (l : CellList). IsRaster (record { kind = l.kind; rows = a.rows; cols = a.cols; depth = a.depth; pixels = pixels_of a.depth a.marks l.values })) (sym cells) (keeps_inside a vs c.self.invariant (puts_keep a c.args.d c.args.place (length c.args.values.now) c.args.values.now vs c.self.invariant c.put_values.ensures.form.size (c.put_values.ensures.form.in_range c.self.invariant.in_range) c.put_values.ensures.put))
