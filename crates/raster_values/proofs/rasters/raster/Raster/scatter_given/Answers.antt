use Rattle.std.proofs.Common.{◌≡◌, ◌<◌, ◌-◌, ℕ, List, ap, ◌∙◌, subst, min, length, sym}
use Rattle.std.specs.Prelude.{All}
use Rattle.raster_cells.specs.CellList.{CellList}
use Rattle.raster_cells.specs.PixelType.{InRange}
use Rattle.raster_values.specs.View.{seen, pixels_of}
use Rattle.raster_values.specs.Raster.{Pixels, IsRaster}
use Rattle.raster_values.specs.Block.{block_count, ScattersBlock}
use Rattle.raster_values.specs.inside.Runs.{rows_values, LeavesRows}
use Rattle.raster_values.proofs.BlockViews.{count_of_rows, scatter_keeps, scatter_scatters}
use Rattle.raster_values.proofs.Windows.{block_places_are, block_values_are, block_leaves}
use Rattle.raster_values.proofs.FlatViews.{keeps_inside}
use Rattle.raster_values.proofs.rasters.raster.Raster.scatter_given.Goals as goal

pub scatter_rows-requires-clause-count : goal.scatter_rows-requires-clause-count
scatter_rows-requires-clause-count g c =
    let a = c.self.inside in
    c.requires.count
    ∙ ap (λ (r : Pixels). block_count r c.args.row c.args.col c.args.side) (sym c.self.view_is)
    ∙ count_of_rows a.values.kind a.rows a.cols a.depth a.marks a.values.values c.args.row c.args.col c.args.side c.self.invariant.zeros c.self.invariant.marks c.self.invariant.shape.depth_above
    ∙ sym (ap (λ (ks : List ℕ). length ks) (block_places_are a.rows a.cols c.args.row c.args.col c.args.side c.block-window.result c.block-window.ensures a.marks))

pub returns-clause-scattered : goal.returns-clause-scattered
returns-clause-scattered g c =
    let a = c.self.inside in
    let w = c.block-window.result in
    let is = c.block-window.ensures in
    let scatters = c.scatter_rows.ensures.scattered in
    let vs = c.scatter_rows.new.values.values in
    let cells : c.scatter_rows.new.values ≡ record a.values { values = vs } = λ i. record { kind = scatters.form.kind i; values = vs } in
    let high = min c.args.side (a.rows - c.args.row) in
    let wide = min c.args.side (a.cols - c.args.col) in
    let scattered : rows_values a.depth c.args.d a.marks vs a.cols c.args.row c.args.col high wide ≡ (g.G.ValueSource.listed c.args.given.now) =
    sym (block_values_are a.rows a.cols c.args.row c.args.col c.args.side w is a.depth c.args.d a.marks vs) ∙ scatters.scattered in
    let leaves : LeavesRows a.depth c.args.d a.marks a.cols c.args.row c.args.col high wide a.values.values vs =
    block_leaves a.rows a.cols c.args.row c.args.col c.args.side w is a.depth c.args.d a.marks a.values.values vs scatters.rest in
    subst (λ (l : CellList). ScattersBlock c.args.self.now (record { kind = l.kind; rows = a.rows; cols = a.cols; depth = a.depth; pixels = pixels_of a.depth a.marks l.values }) c.args.row c.args.col c.args.side c.args.d (g.G.ValueSource.listed c.args.given.now)) (sym cells)
    (subst (λ (r : Pixels). c.args.d < r.depth → All (InRange r.kind) (g.G.ValueSource.listed c.args.given.now)
    → ScattersBlock r (record (seen a) { pixels = pixels_of a.depth a.marks vs }) c.args.row c.args.col c.args.side c.args.d (g.G.ValueSource.listed c.args.given.now)) c.self.view_is
    (λ below fits.
    scatter_scatters a c.args.row c.args.col c.args.side c.args.d (g.G.ValueSource.listed c.args.given.now) vs c.self.invariant below
    (scatter_keeps a c.args.row c.args.col c.args.side c.args.d (g.G.ValueSource.listed c.args.given.now) vs c.self.invariant scatters.form.size (scatters.form.in_range c.self.invariant.in_range) leaves)
    scattered leaves) c.requires.depth c.requires.in_range)

pub returns-clause-sound : goal.returns-clause-sound
returns-clause-sound g c =
    let a = c.self.inside in
    let vs = c.scatter_rows.new.values.values in
    let cells : c.scatter_rows.new.values ≡ record a.values { values = vs } = λ i. record { kind = c.scatter_rows.ensures.scattered.form.kind i; values = vs } in
    let leaves : LeavesRows a.depth c.args.d a.marks a.cols c.args.row c.args.col (min c.args.side (a.rows - c.args.row)) (min c.args.side (a.cols - c.args.col)) a.values.values vs =
    block_leaves a.rows a.cols c.args.row c.args.col c.args.side c.block-window.result c.block-window.ensures a.depth c.args.d a.marks a.values.values vs c.scatter_rows.ensures.scattered.rest in
    subst (λ (l : CellList). IsRaster (record { kind = l.kind; rows = a.rows; cols = a.cols; depth = a.depth; pixels = pixels_of a.depth a.marks l.values })) (sym cells) (keeps_inside a vs c.self.invariant (scatter_keeps a c.args.row c.args.col c.args.side c.args.d (g.G.ValueSource.listed c.args.given.now) vs c.self.invariant c.scatter_rows.ensures.scattered.form.size (c.scatter_rows.ensures.scattered.form.in_range c.self.invariant.in_range) leaves))
