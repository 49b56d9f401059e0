use Rattle.std.proofs.Common.{◌*◌, List, Bool, ap, ◌∙◌, sym, subst, length, rules}
use Rattle.raster_values.specs.Ordered.{FillsMarked}
use Rattle.raster_values.proofs.Views.{full, KeepsValues}
use Rattle.raster_values.proofs.FlatViews.{fills_keep, fills_valid}
use Rattle.raster_cells.specs.CellList.{values_in}
use Rattle.raster_values.specs.RasterMut.{inside_of}
use Rattle.raster_values.proofs.RasterMutArrays.{still_inside, still_raster}
use Rattle.raster_values.proofs.rasters.raster_mut.RasterMut.fill_given.Goals as goal

pub fill_over-requires-clause-size : goal.fill_over-requires-clause-size
fill_over-requires-clause-size g c =
    let a = inside_of c.args.self.now in
    full a c.args.self.now.inside ∙ ap (λ (ms : List Bool). length ms * a.depth) (sym c.marks-marks.ensures) ∙ ap (λ n. length c.marks-marks.result * n) (sym c.requires.count)

pub returns-clause-filled : goal.returns-clause-filled
returns-clause-filled g c =
    let t = c.args.self.now in
    let new = c.fill_over.new.values in
    let done = subst (λ (ms : List Bool). FillsMarked (length ms) ms (g.G.ValueSource.listed c.args.given.now) (inside_of t).values.values (values_in t.kind t.count new)) c.marks-marks.ensures c.fill_over.ensures.filled in
    let keeps : KeepsValues (inside_of t) (inside_of t).marks (values_in t.kind t.count new) = fills_keep (inside_of t) (g.G.ValueSource.listed c.args.given.now) (values_in t.kind t.count new) t.inside c.requires.count c.fill_over.ensures.form.size (c.fill_over.ensures.form.in_range t.inside.in_range) done in
    fills_valid (inside_of t) (g.G.ValueSource.listed c.args.given.now) (values_in t.kind t.count new) t.inside c.requires.count keeps done

pub returns-clause-stays : goal.returns-clause-stays
returns-clause-stays g c =
    let t = c.args.self.now in
    let new = c.fill_over.new.values in
    let done = subst (λ (ms : List Bool). FillsMarked (length ms) ms (g.G.ValueSource.listed c.args.given.now) (inside_of t).values.values (values_in t.kind t.count new)) c.marks-marks.ensures c.fill_over.ensures.filled in
    let keeps : KeepsValues (inside_of t) (inside_of t).marks (values_in t.kind t.count new) = fills_keep (inside_of t) (g.G.ValueSource.listed c.args.given.now) (values_in t.kind t.count new) t.inside c.requires.count c.fill_over.ensures.form.size (c.fill_over.ensures.form.in_range t.inside.in_range) done in
    record { raster = still_raster t new keeps; kept = search rules }

pub invariant_of-self : goal.invariant_of-self
invariant_of-self g c =
    let t = c.args.self.now in
    let new = c.fill_over.new.values in
    let done = subst (λ (ms : List Bool). FillsMarked (length ms) ms (g.G.ValueSource.listed c.args.given.now) (inside_of t).values.values (values_in t.kind t.count new)) c.marks-marks.ensures c.fill_over.ensures.filled in
    let keeps : KeepsValues (inside_of t) (inside_of t).marks (values_in t.kind t.count new) = fills_keep (inside_of t) (g.G.ValueSource.listed c.args.given.now) (values_in t.kind t.count new) t.inside c.requires.count c.fill_over.ensures.form.size (c.fill_over.ensures.form.in_range t.inside.in_range) done in
    record { inside = still_inside t new keeps; bits = t.bits; cells = c.fill_over.ensures.cells }
