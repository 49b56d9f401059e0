use Rattle.std.proofs.Common.{List, ℕ, ap, sym, subst, arith}
use Rattle.raster_cells.specs.CellList.{cells_in}
use Rattle.raster_values.specs.inside.LentCells.{CellFrame}
use Rattle.raster_values.specs.inside.Windows.{ScattersRows}
use Rattle.raster_values.proofs.rasters.lent_cells.scatter_over.Goals as goal

pub returns-clause-scattered : goal.returns-clause-scattered
returns-clause-scattered g c =
    let kept = c.scatter_rows.ensures.kept in
    let array = sym (ap (λ (f : CellFrame). f.array) kept) in
    let old = cells_in c.args.channel.now.kind c.args.count c.args.values.now in
    let done = subst (λ (f : CellFrame). ScattersRows c.args.channel.now.depth c.args.channel.now.d c.args.channel.now.marks.now c.args.window (g.G.ValueSource.listed c.args.given.now) old (cells_in f.kind f.count c.scatter_rows.new.values.values.now)) kept c.scatter_rows.ensures.scattered in
    subst (λ (bytes : List ℕ). ScattersRows c.args.channel.now.depth c.args.channel.now.d c.args.channel.now.marks.now c.args.window (g.G.ValueSource.listed c.args.given.now) old (cells_in c.args.channel.now.kind c.args.count bytes)) (grind (arith, array)) done
