use Rattle.std.proofs.Common.{◌≡◌, ◌<◌, ◌++◌, ap, subst, sym, min, ◌-◌, drop, map, ℕ, arith}
use Rattle.std.specs.Prelude.{ℤ}
use Rattle.raster_values.specs.Raster.{Pixels}
use Rattle.raster_values.specs.Block.{block_count, block_values}
use Rattle.raster_cells.specs.Distance.{distance_of}
use Rattle.raster_values.specs.inside.RasterRefView.{vectors_of}
use Rattle.raster_values.specs.inside.Runs.{rows_values, Gathers}
use Rattle.raster_values.specs.inside.Windows.{IsWithin}
use Rattle.raster_values.proofs.BlockViews.{gathered_is}
use Rattle.raster_values.proofs.Windows.{few_places, block_area, block_values_are, block_within}
use Rattle.raster_values.proofs.rasters.raster_ref.RasterRef.gather_distances.Goals as goal

both : (c : goal.After-slice_known-2-1) → (c.gather_rows.result ≡ block_count c.args.self.now c.args.row c.args.col c.args.side)
    × (c.gather_rows.new.out
    ≡ map (distance_of c.args.self.now.kind) (block_values c.args.self.now c.args.row c.args.col c.args.side c.args.d) ++ drop (block_count c.args.self.now c.args.row c.args.col c.args.side) c.args.out.now)
both c =
    let a = vectors_of c.self.inside in
    let g : ℤ → ℕ = distance_of a.values.kind in
    let w = c.block-window.result in
    let new = c.gather_rows.new.out in
    let n = c.gather_rows.result in
    let gathers : Gathers (map g (rows_values a.depth c.args.d a.marks a.values.values a.cols c.args.row c.args.col (min c.args.side (a.rows - c.args.row)) (min c.args.side (a.cols - c.args.col)))) c.args.out.now new 0 n =
    subst (λ vs. Gathers (map g vs) c.args.out.now new 0 n) (block_values_are a.rows a.cols c.args.row c.args.col c.args.side w c.block-window.ensures a.depth c.args.d a.marks a.values.values)
    c.gather_rows.ensures.gathered in
    subst (λ (r : Pixels). c.args.d < r.depth → (n ≡ block_count r c.args.row c.args.col c.args.side)
    × (new ≡ map (distance_of r.kind) (block_values r c.args.row c.args.col c.args.side c.args.d) ++ drop (block_count r c.args.row c.args.col c.args.side) c.args.out.now)) c.self.view_is
    (λ below. gathered_is g a c.args.row c.args.col c.args.side c.args.d n c.args.out.now new below gathers) c.requires.depth

pub returns-clause-count : goal.returns-clause-count
returns-clause-count c = (both c).0

pub returns-clause-distances : goal.returns-clause-distances
returns-clause-distances c = (both c).1

pub gather_rows-requires : goal.gather_rows-requires
gather_rows-requires c =
    let a = vectors_of c.self.inside in
    record {
      fits = record {
        within = subst (IsWithin c.block-window.result) (sym c.self.invariant.marks)
            (block_within a.rows a.cols c.args.row c.args.col c.args.side c.block-window.result c.block-window.ensures (omega (arith, c.requires.place, ap (λ (r : Pixels). r.rows) c.self.view_is)) (omega (arith, c.requires.place, ap (λ (r : Pixels). r.cols) c.self.view_is)) (few_places a.rows a.cols a.depth c.self.invariant.shape));
        room = omega (arith, block_area a.rows a.cols c.args.row c.args.col c.args.side c.block-window.result c.block-window.ensures, c.requires.room);
      };
    }

pub returns-clause-within : goal.returns-clause-within
returns-clause-within c =
    let a = vectors_of c.self.inside in
    omega (arith, block_area a.rows a.cols c.args.row c.args.col c.args.side c.block-window.result c.block-window.ensures, c.gather_rows.ensures.within)
