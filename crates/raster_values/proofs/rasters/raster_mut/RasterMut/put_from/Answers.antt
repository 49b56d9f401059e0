use Rattle.std.proofs.Common.{List, Bool, ap, subst, length, arith, rules}
use Rattle.raster_values.specs.Ordered.{PutsMarked}
use Rattle.raster_values.proofs.Views.{KeepsValues}
use Rattle.raster_values.proofs.FlatViews.{puts_keep, puts_from}
use Rattle.raster_cells.specs.CellList.{values_in}
use Rattle.raster_values.specs.RasterMut.{inside_of}
use Rattle.raster_values.proofs.RasterMutArrays.{still_inside, still_raster}
use Rattle.raster_values.proofs.rasters.raster_mut.RasterMut.put_from.Goals as goal

pub put_over-requires-clause-within : goal.put_over-requires-clause-within
put_over-requires-clause-within c = omega (arith, c.requires.place, c.args.self.now.inside.marks, ap length c.marks-marks.ensures)

pub returns-clause-put : goal.returns-clause-put
returns-clause-put c =
    let t = c.args.self.now in
    let new = c.put_over.new.values in
    let done = subst (λ (ms : List Bool). PutsMarked t.depth c.args.d ms c.args.place (length c.args.values.now) c.args.values.now (inside_of t).values.values (values_in t.kind t.count new)) c.marks-marks.ensures c.put_over.ensures.put in
    let keeps : KeepsValues (inside_of t) (inside_of t).marks (values_in t.kind t.count new) = puts_keep (inside_of t) c.args.d c.args.place (length c.args.values.now) c.args.values.now (values_in t.kind t.count new) t.inside c.put_over.ensures.form.size (c.put_over.ensures.form.in_range t.inside.in_range) done in
    puts_from (inside_of t) c.args.d c.args.place c.args.values.now (values_in t.kind t.count new) t.inside keeps c.requires.depth (omega (arith, c.requires.place, t.inside.marks)) done

pub returns-clause-stays : goal.returns-clause-stays
returns-clause-stays c =
    let t = c.args.self.now in
    let new = c.put_over.new.values in
    let done = subst (λ (ms : List Bool). PutsMarked t.depth c.args.d ms c.args.place (length c.args.values.now) c.args.values.now (inside_of t).values.values (values_in t.kind t.count new)) c.marks-marks.ensures c.put_over.ensures.put in
    let keeps : KeepsValues (inside_of t) (inside_of t).marks (values_in t.kind t.count new) = puts_keep (inside_of t) c.args.d c.args.place (length c.args.values.now) c.args.values.now (values_in t.kind t.count new) t.inside c.put_over.ensures.form.size (c.put_over.ensures.form.in_range t.inside.in_range) done in
    record { raster = still_raster t new keeps; kept = search rules }

pub invariant_of-self : goal.invariant_of-self
invariant_of-self c =
    let t = c.args.self.now in
    let new = c.put_over.new.values in
    let done = subst (λ (ms : List Bool). PutsMarked t.depth c.args.d ms c.args.place (length c.args.values.now) c.args.values.now (inside_of t).values.values (values_in t.kind t.count new)) c.marks-marks.ensures c.put_over.ensures.put in
    let keeps : KeepsValues (inside_of t) (inside_of t).marks (values_in t.kind t.count new) = puts_keep (inside_of t) c.args.d c.args.place (length c.args.values.now) c.args.values.now (values_in t.kind t.count new) t.inside c.put_over.ensures.form.size (c.put_over.ensures.form.in_range t.inside.in_range) done in
    record { inside = still_inside t new keeps; bits = t.bits; cells = c.put_over.ensures.cells }
