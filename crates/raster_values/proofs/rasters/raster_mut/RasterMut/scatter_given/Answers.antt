use Rattle.std.proofs.Common.{◌-◌, ℕ, List, Bool, ap, ◌∙◌, sym, subst, min, length, rules}
use Rattle.std.specs.Prelude.{ℤ}
use Rattle.raster_cells.specs.CellList.{cells_in, values_in}
use Rattle.raster_values.specs.declared.blocks.window.Window.{Window}
use Rattle.raster_values.specs.declared.rasters.raster_mut.RasterMut.{RasterMut}
use Rattle.raster_values.specs.RasterMut.{inside_of, lent_cells}
use Rattle.raster_values.specs.inside.Runs.{LeavesRows}
use Rattle.raster_values.specs.inside.Windows.{IsBlockOf, ScattersRows, window_places}
use Rattle.raster_values.proofs.BlockViews.{count_of_rows, scatter_keeps, scatter_scatters}
use Rattle.raster_values.proofs.Views.{KeepsValues}
use Rattle.raster_values.proofs.RasterMutArrays.{still_inside, still_raster}
use Rattle.raster_values.proofs.Windows.{block_places_are, block_values_are, block_leaves}
use Rattle.raster_values.proofs.rasters.raster_mut.RasterMut.scatter_given.Goals as goal

pub scatter_over-requires-clause-count : goal.scatter_over-requires-clause-count
scatter_over-requires-clause-count g c =
    let a = inside_of c.args.self.now in
    let h = c.args.self.now.inside in
    c.requires.count
    ∙ count_of_rows a.values.kind a.rows a.cols a.depth a.marks a.values.values c.args.row c.args.col c.args.side h.zeros h.marks h.shape.depth_above
    ∙ sym (ap (λ (ms : List Bool). length (window_places c.block-window.result ms)) c.marks-marks.ensures
    ∙ ap (λ (ks : List ℕ). length ks) (block_places_are a.rows a.cols c.args.row c.args.col c.args.side c.block-window.result c.block-window.ensures a.marks))

-- what was scattered into the block
module _ (t : RasterMut) (row col side d : ℕ) (w : Window) (is : IsBlockOf t.rows t.cols row col side w) (given : List ℤ) (new : List ℕ) (scatters : ScattersRows t.depth d (inside_of t).marks w given (lent_cells t) (cells_in t.kind t.count new)) where
  leaves : LeavesRows t.depth d (inside_of t).marks t.cols row col (min side (t.rows - row)) (min side (t.cols - col)) (inside_of t).values.values (values_in t.kind t.count new)
  leaves = block_leaves t.rows t.cols row col side w is t.depth d (inside_of t).marks (inside_of t).values.values (values_in t.kind t.count new) scatters.rest

  keeps : KeepsValues (inside_of t) (inside_of t).marks (values_in t.kind t.count new)
  keeps = scatter_keeps (inside_of t) row col side d given (values_in t.kind t.count new) t.inside scatters.form.size (scatters.form.in_range t.inside.in_range) leaves

pub returns-clause-scattered : goal.returns-clause-scattered
returns-clause-scattered g c =
    let t = c.args.self.now in
    let a = inside_of t in
    let w = c.block-window.result in
    let is = c.block-window.ensures in
    let given = g.G.ValueSource.listed c.args.given.now in
    let new = c.scatter_over.new.values in
    let vs = values_in t.kind t.count new in
    let scatters = subst (λ (ms : List Bool). ScattersRows t.depth c.args.d ms w given (lent_cells t) (cells_in t.kind t.count new)) c.marks-marks.ensures c.scatter_over.ensures.scattered in
    scatter_scatters a c.args.row c.args.col c.args.side c.args.d given vs t.inside c.requires.depth (keeps t c.args.row c.args.col c.args.side c.args.d w is given new scatters)
    (sym (block_values_are a.rows a.cols c.args.row c.args.col c.args.side w is a.depth c.args.d a.marks vs) ∙ scatters.scattered) (leaves t c.args.row c.args.col c.args.side c.args.d w is given new scatters)

pub returns-clause-stays : goal.returns-clause-stays
returns-clause-stays g c =
    let t = c.args.self.now in
    let w = c.block-window.result in
    let given = g.G.ValueSource.listed c.args.given.now in
    let new = c.scatter_over.new.values in
    let scatters = subst (λ (ms : List Bool). ScattersRows t.depth c.args.d ms w given (lent_cells t) (cells_in t.kind t.count new)) c.marks-marks.ensures c.scatter_over.ensures.scattered in
    record { raster = still_raster t new (keeps t c.args.row c.args.col c.args.side c.args.d w c.block-window.ensures given new scatters); kept = search rules }

pub invariant_of-self : goal.invariant_of-self
invariant_of-self g c =
    let t = c.args.self.now in
    let w = c.block-window.result in
    let given = g.G.ValueSource.listed c.args.given.now in
    let new = c.scatter_over.new.values in
    let scatters = subst (λ (ms : List Bool). ScattersRows t.depth c.args.d ms w given (lent_cells t) (cells_in t.kind t.count new)) c.marks-marks.ensures c.scatter_over.ensures.scattered in
    record {
      inside = still_inside t new (keeps t c.args.row c.args.col c.args.side c.args.d w c.block-window.ensures given new scatters);
      bits = t.bits;
      cells = c.scatter_over.ensures.cells;
    }
