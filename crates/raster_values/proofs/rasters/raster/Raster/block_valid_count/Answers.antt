use Rattle.std.proofs.Common.{◌≡◌, ℕ, List, ap, ◌∙◌, subst, sym, length, arith}
use Rattle.raster_values.specs.Raster.{Pixels}
use Rattle.raster_values.specs.Block.{block_count}
use Rattle.raster_values.specs.inside.Windows.{IsWithin}
use Rattle.raster_values.proofs.BlockViews.{count_is}
use Rattle.raster_values.proofs.Windows.{few_places, block_area, block_places_are, block_within}
use Rattle.raster_values.proofs.rasters.raster.Raster.block_valid_count.Goals as goal

pub count_rows-requires-clause-within : goal.count_rows-requires-clause-within
count_rows-requires-clause-within c =
    let a = c.self.inside in
    subst (IsWithin c.block-window.result) (sym c.self.invariant.marks)
    (block_within a.rows a.cols c.args.row c.args.col c.args.side c.block-window.result c.block-window.ensures (omega (arith, c.requires, ap (λ (r : Pixels). r.rows) c.self.view_is)) (omega (arith, c.requires, ap (λ (r : Pixels). r.cols) c.self.view_is)) (few_places a.rows a.cols a.depth c.self.invariant.shape))

pub returns-clause-value : goal.returns-clause-value
returns-clause-value c =
    let a = c.self.inside in
    let found = c.count_rows.ensures.value ∙ ap (λ (ks : List ℕ). length ks) (block_places_are a.rows a.cols c.args.row c.args.col c.args.side c.block-window.result c.block-window.ensures a.marks) in
    subst (λ (r : Pixels). c.count_rows.result ≡ block_count r c.args.row c.args.col c.args.side) c.self.view_is (count_is a c.args.row c.args.col c.args.side c.count_rows.result c.self.invariant found)

pub returns-clause-within : goal.returns-clause-within
returns-clause-within c =
    let a = c.self.inside in
    omega (arith, c.count_rows.ensures.within, block_area a.rows a.cols c.args.row c.args.col c.args.side c.block-window.result c.block-window.ensures)
