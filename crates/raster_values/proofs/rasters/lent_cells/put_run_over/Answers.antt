use Rattle.std.proofs.Common.{List, ℕ, ap, sym, subst, length}
use Rattle.raster_cells.specs.CellList.{KeepsForm, cells_in, values_in}
use Rattle.raster_values.specs.inside.LentCells.{CellFrame}
use Rattle.raster_values.specs.Ordered.{PutsMarked}
use Rattle.raster_values.proofs.rasters.lent_cells.put_run_over.Goals as goal

pub returns-clause-put : goal.returns-clause-put
returns-clause-put g c =
    let kept = c.put_run.ensures.kept in
    let array = sym (ap (λ (f : CellFrame). f.array) kept) in
    let old = values_in c.args.channel.now.kind c.args.count c.args.values.now in
    let done = subst (λ (f : CellFrame). PutsMarked c.args.channel.now.depth c.args.channel.now.d c.args.channel.now.marks.now c.args.place (length (g.G.ValueSource.listed c.args.given.now)) (g.G.ValueSource.listed c.args.given.now) old (values_in f.kind f.count c.put_run.new.values.values.now)) kept c.put_run.ensures.put in
    subst (λ (bytes : List ℕ). PutsMarked c.args.channel.now.depth c.args.channel.now.d c.args.channel.now.marks.now c.args.place (length (g.G.ValueSource.listed c.args.given.now)) (g.G.ValueSource.listed c.args.given.now) old (values_in c.args.channel.now.kind c.args.count bytes)) (sym (c.values-1.given.1.1 array)) done

pub returns-clause-form : goal.returns-clause-form
returns-clause-form g c =
    let kept = c.put_run.ensures.kept in
    let array = sym (ap (λ (f : CellFrame). f.array) kept) in
    let old = cells_in c.args.channel.now.kind c.args.count c.args.values.now in
    let done = subst (λ (f : CellFrame). KeepsForm old (cells_in f.kind f.count c.put_run.new.values.values.now)) kept c.put_run.ensures.form in
    subst (λ (bytes : List ℕ). KeepsForm old (cells_in c.args.channel.now.kind c.args.count bytes)) (sym (c.values-1.given.1.1 array)) done
