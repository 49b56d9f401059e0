use Rattle.std.proofs.Common.{ℕ, List, Bool, ap, ◌∙◌, subst, sym, length, arith}
use Rattle.raster_values.specs.RasterMut.{inside_of}
use Rattle.raster_values.specs.inside.Windows.{IsWithin, window_places}
use Rattle.raster_values.proofs.BlockViews.{count_is}
use Rattle.raster_values.proofs.Windows.{few_places, block_area, block_places_are, block_within}
use Rattle.raster_values.proofs.rasters.raster_mut.RasterMut.block_valid_count.Goals as goal

pub count_rows-requires-clause-within : goal.count_rows-requires-clause-within
count_rows-requires-clause-within c =
    let a = inside_of c.args.self.now in
    subst (IsWithin c.block-window.result) (sym (ap (λ (ms : List Bool). length ms) c.marks.ensures ∙ c.args.self.now.inside.marks))
    (block_within a.rows a.cols c.args.row c.args.col c.args.side c.block-window.result c.block-window.ensures (omega (arith, c.requires.place)) (omega (arith, c.requires.place)) (few_places a.rows a.cols a.depth c.args.self.now.inside.shape))

pub returns-clause-value : goal.returns-clause-value
returns-clause-value c =
    let a = inside_of c.args.self.now in
    let found = c.count_rows.ensures.value ∙ ap (λ (ms : List Bool). length (window_places c.block-window.result ms)) c.marks.ensures
    ∙ ap (λ (ks : List ℕ). length ks) (block_places_are a.rows a.cols c.args.row c.args.col c.args.side c.block-window.result c.block-window.ensures a.marks) in
    count_is a c.args.row c.args.col c.args.side c.count_rows.result c.args.self.now.inside found

pub returns-clause-within : goal.returns-clause-within
returns-clause-within c =
    let a = inside_of c.args.self.now in
    omega (arith, c.count_rows.ensures.within, block_area a.rows a.cols c.args.row c.args.col c.args.side c.block-window.result c.block-window.ensures)
