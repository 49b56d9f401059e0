use Rattle.std.proofs.Common.{◌∙◌, ℕ, List, length, ap, sym, arith}
use Rattle.raster_values.proofs.Windows.{few_pixels, one_row_places, one_row_scatters}
use Rattle.raster_values.proofs.blocks.scattering.scatter_rows.Goals as goal

pub scatter_each_row-requires-clause-count : goal.scatter_each_row-requires-clause-count
scatter_each_row-requires-clause-count g c =
    c.requires.count ∙ sym (ap (λ (ks : List ℕ). length ks) (one_row_places c.args.window c.one_row.result c.one_row.ensures c.if-window.true (g.M.MarkSource.marks c.args.channel.now.marks.now)))

pub returns-then-window-gt0-clause-scattered : goal.returns-then-window-gt0-clause-scattered
returns-then-window-gt0-clause-scattered g c =
    one_row_scatters c.args.window c.one_row.result c.one_row.ensures c.if-window.true c.args.channel.now.depth c.args.channel.now.d (g.M.MarkSource.marks c.args.channel.now.marks.now) (g.G.ValueSource.listed c.args.given.now) (g.V.CellStore.cells c.args.values.now) (g.V.CellStore.cells c.scatter_each_row.new.values) c.scatter_each_row.ensures.scattered

pub one_row-requires-clause-few : goal.one_row-requires-clause-few
one_row-requires-clause-few g c =
    let few = few_pixels c.args.channel.now.kind c.args.channel.now.depth c.args.channel.now.d (length (g.M.MarkSource.marks c.args.channel.now.marks.now)) (g.V.CellStore.cells c.args.values.now) c.requires.values c.args.channel.now.below in
    omega (arith, few, c.requires.within.all)
