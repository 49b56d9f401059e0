use Rattle.std.proofs.Common.{◌≡◌, ◌<◌, ◌≤◌, ◌+◌, ◌*◌, ◌∙◌, List, Bool, false, get_or, ap, sym, subst, length, arith}
use Rattle.raster_cells.specs.Values.{values_above}
use Rattle.raster_cells.proofs.GivenBytes.{length-above}
use Rattle.raster_values.specs.Raster.{Pixels, IsRaster}
use Rattle.raster_values.specs.Flat.{PutsFrom, marks_of}
use Rattle.raster_cells.specs.CellList.{CellList}
use Rattle.raster_values.specs.Ordered.{PutsMarked}
use Rattle.raster_values.specs.View.{pixels_of}
use Rattle.raster_values.proofs.FlatViews.{marks_of-pixels_of, puts_keep, puts_from, with_values, keeps_inside}
use Rattle.raster_values.proofs.rasters.raster.Raster.put_run.Goals as goal

pub put_run-requires-clause-within : goal.put_run-requires-clause-within
put_run-requires-clause-within c =
    let n = length c.args.bytes.now in
    let within = subst (λ (r : Pixels). c.args.place + n ≤ r.rows * r.cols) (sym c.self.view_is) c.requires.place in
    omega (arith, within, c.self.invariant.marks, length-above c.args.below c.args.bytes.now)

pub put_run-requires-clause-marked : goal.put_run-requires-clause-marked
put_run-requires-clause-marked c = λ k ge lt.
    let a = c.self.inside in
    let are : marks_of c.args.self.now ≡ a.marks = ap marks_of (sym c.self.view_is) ∙ marks_of-pixels_of a.depth a.marks a.values.values in
    sym (ap (λ (ms : List Bool). get_or ms k false) are) ∙ c.requires.marked k ge (omega (arith, lt, length-above c.args.below c.args.bytes.now))

pub returns-clause-put : goal.returns-clause-put
returns-clause-put c =
    let a = c.self.inside in
    let vs = c.put_run.new.values.values in
    let cells : c.put_run.new.values ≡ record a.values { values = vs } = λ i. record { kind = c.put_run.ensures.form.kind i; values = vs } in
    let puts : PutsMarked a.depth c.args.d a.marks c.args.place (length (values_above c.args.below c.args.bytes.now)) (values_above c.args.below c.args.bytes.now) a.values.values vs =
    c.put_run.ensures.put in
    subst (λ (l : CellList). PutsFrom c.args.self.now (record { kind = l.kind; rows = a.rows; cols = a.cols; depth = a.depth; pixels = pixels_of a.depth a.marks l.values }) c.args.place c.args.d (values_above c.args.below c.args.bytes.now)) (sym cells)
    (subst (λ (r : Pixels). c.args.place + length c.args.bytes.now ≤ r.rows * r.cols → c.args.d < r.depth → PutsFrom r (with_values a vs) c.args.place c.args.d (values_above c.args.below c.args.bytes.now)) c.self.view_is
    (λ within below.
    puts_from a c.args.d c.args.place (values_above c.args.below c.args.bytes.now) vs c.self.invariant
    (puts_keep a c.args.d c.args.place (length (values_above c.args.below c.args.bytes.now)) (values_above c.args.below c.args.bytes.now) vs c.self.invariant c.put_run.ensures.form.size (c.put_run.ensures.form.in_range c.self.invariant.in_range) puts)
    below (omega (arith, within, c.self.invariant.marks, length-above c.args.below c.args.bytes.now)) puts) c.requires.place c.requires.depth)

pub returns-clause-sound : goal.returns-clause-sound
returns-clause-sound c =
    let a = c.self.inside in
    let vs = c.put_run.new.values.values in
    let cells : c.put_run.new.values ≡ record a.values { values = vs } = λ i. record { kind = c.put_run.ensures.form.kind i; values = vs } in
    subst (λ (l : CellList). IsRaster (record { kind = l.kind; rows = a.rows; cols = a.cols; depth = a.depth; pixels = pixels_of a.depth a.marks l.values })) (sym cells) (keeps_inside a vs c.self.invariant (puts_keep a c.args.d c.args.place (length (values_above c.args.below c.args.bytes.now)) (values_above c.args.below c.args.bytes.now) vs c.self.invariant c.put_run.ensures.form.size (c.put_run.ensures.form.in_range c.self.invariant.in_range) c.put_run.ensures.put))
