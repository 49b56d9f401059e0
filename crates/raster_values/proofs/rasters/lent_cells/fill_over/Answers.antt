use Rattle.std.proofs.Common.{List, ℕ, ap, sym, subst, length}
use Rattle.raster_cells.specs.CellList.{KeepsForm, cells_in, values_in}
use Rattle.raster_values.specs.inside.LentCells.{CellFrame}
use Rattle.raster_values.specs.Ordered.{FillsMarked}
use Rattle.raster_values.proofs.rasters.lent_cells.fill_over.Goals as goal

pub returns-clause-form : goal.returns-clause-form
returns-clause-form g c =
    let kept = c.fill_marked.ensures.kept in
    let array = sym (ap (λ (f : CellFrame). f.array) kept) in
    let old = cells_in c.args.kind c.args.count c.args.values.now in
    let done = subst (λ (f : CellFrame). KeepsForm old (cells_in f.kind f.count c.fill_marked.new.values.values.now)) kept c.fill_marked.ensures.form in
    subst (λ (bytes : List ℕ). KeepsForm old (cells_in c.args.kind c.args.count bytes)) (sym (c.values-1.given.1.1 array)) done

pub returns-clause-filled : goal.returns-clause-filled
returns-clause-filled g c =
    let kept = c.fill_marked.ensures.kept in
    let array = sym (ap (λ (f : CellFrame). f.array) kept) in
    let old = values_in c.args.kind c.args.count c.args.values.now in
    let done = subst (λ (f : CellFrame). FillsMarked (length c.args.marks.now) c.args.marks.now (g.G.ValueSource.listed c.args.pixel.now) old (values_in f.kind f.count c.fill_marked.new.values.values.now)) kept c.fill_marked.ensures.filled in
    subst (λ (bytes : List ℕ). FillsMarked (length c.args.marks.now) c.args.marks.now (g.G.ValueSource.listed c.args.pixel.now) old (values_in c.args.kind c.args.count bytes)) (sym (c.values-1.given.1.1 array)) done
