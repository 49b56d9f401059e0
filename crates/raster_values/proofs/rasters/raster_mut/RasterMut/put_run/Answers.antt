use Rattle.std.proofs.Common.{◌≡◌, ◌*◌, ◌∙◌, List, Bool, false, get_or, ap, sym, subst, length, arith, rules}
use Rattle.raster_cells.specs.Values.{values_above}
use Rattle.raster_cells.proofs.GivenBytes.{length-above}
use Rattle.raster_values.specs.Flat.{marks_of}
use Rattle.raster_values.specs.Ordered.{PutsMarked}
use Rattle.raster_values.proofs.Views.{KeepsValues}
use Rattle.raster_values.proofs.FlatViews.{marks_of-pixels_of, puts_keep, puts_from}
use Rattle.raster_cells.specs.CellList.{values_in}
use Rattle.raster_values.specs.RasterMut.{inside_of, lent_pixels}
use Rattle.raster_values.proofs.RasterMutArrays.{still_inside, still_raster}
use Rattle.raster_values.proofs.rasters.raster_mut.RasterMut.put_run.Goals as goal

pub put_run_over-requires-clause-within : goal.put_run_over-requires-clause-within
put_run_over-requires-clause-within c = omega (arith, c.requires.place, c.args.self.now.inside.marks, ap length c.marks-marks.ensures, length-above c.args.below c.args.bytes.now)

pub put_run_over-requires-clause-marked : goal.put_run_over-requires-clause-marked
put_run_over-requires-clause-marked c = λ k ge lt.
    let a = inside_of c.args.self.now in
    let are : marks_of (lent_pixels c.args.self.now) ≡ c.marks-marks.result = marks_of-pixels_of a.depth a.marks a.values.values ∙ sym c.marks-marks.ensures in
    sym (ap (λ (ms : List Bool). get_or ms k false) are) ∙ c.requires.marked k ge (omega (arith, lt, length-above c.args.below c.args.bytes.now))

pub returns-clause-put : goal.returns-clause-put
returns-clause-put c =
    let t = c.args.self.now in
    let new = c.put_run_over.new.values in
    let done = subst (λ (ms : List Bool). PutsMarked t.depth c.args.d ms c.args.place (length (values_above c.args.below c.args.bytes.now)) (values_above c.args.below c.args.bytes.now) (inside_of t).values.values (values_in t.kind t.count new)) c.marks-marks.ensures c.put_run_over.ensures.put in
    let keeps : KeepsValues (inside_of t) (inside_of t).marks (values_in t.kind t.count new) = puts_keep (inside_of t) c.args.d c.args.place (length (values_above c.args.below c.args.bytes.now)) (values_above c.args.below c.args.bytes.now) (values_in t.kind t.count new) t.inside c.put_run_over.ensures.form.size (c.put_run_over.ensures.form.in_range t.inside.in_range) done in
    puts_from (inside_of t) c.args.d c.args.place (values_above c.args.below c.args.bytes.now) (values_in t.kind t.count new) t.inside keeps c.requires.depth (omega (arith, c.requires.place, t.inside.marks, length-above c.args.below c.args.bytes.now)) done

pub returns-clause-stays : goal.returns-clause-stays
returns-clause-stays c =
    let t = c.args.self.now in
    let new = c.put_run_over.new.values in
    let done = subst (λ (ms : List Bool). PutsMarked t.depth c.args.d ms c.args.place (length (values_above c.args.below c.args.bytes.now)) (values_above c.args.below c.args.bytes.now) (inside_of t).values.values (values_in t.kind t.count new)) c.marks-marks.ensures c.put_run_over.ensures.put in
    let keeps : KeepsValues (inside_of t) (inside_of t).marks (values_in t.kind t.count new) = puts_keep (inside_of t) c.args.d c.args.place (length (values_above c.args.below c.args.bytes.now)) (values_above c.args.below c.args.bytes.now) (values_in t.kind t.count new) t.inside c.put_run_over.ensures.form.size (c.put_run_over.ensures.form.in_range t.inside.in_range) done in
    record { raster = still_raster t new keeps; kept = search rules }

pub invariant_of-self : goal.invariant_of-self
invariant_of-self c =
    let t = c.args.self.now in
    let new = c.put_run_over.new.values in
    let done = subst (λ (ms : List Bool). PutsMarked t.depth c.args.d ms c.args.place (length (values_above c.args.below c.args.bytes.now)) (values_above c.args.below c.args.bytes.now) (inside_of t).values.values (values_in t.kind t.count new)) c.marks-marks.ensures c.put_run_over.ensures.put in
    let keeps : KeepsValues (inside_of t) (inside_of t).marks (values_in t.kind t.count new) = puts_keep (inside_of t) c.args.d c.args.place (length (values_above c.args.below c.args.bytes.now)) (values_above c.args.below c.args.bytes.now) (values_in t.kind t.count new) t.inside c.put_run_over.ensures.form.size (c.put_run_over.ensures.form.in_range t.inside.in_range) done in
    record { inside = still_inside t new keeps; bits = t.bits; cells = c.put_run_over.ensures.cells }
