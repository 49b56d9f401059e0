use Rattle.std.proofs.Common.{◌≡◌, ◌≤◌, ◌+◌, ◌-◌, ◌*◌, map, subst, arith}
use Rattle.overview_tiles.specs.inside.Lays.{CountsFit}
use Rattle.overview_tiles.proofs.Steps.{fits_front, fits_part, marks_join, marks_none, values_join, values_none, within_more, within_rest}
use Rattle.overview_tiles.proofs.layer.lay_row.Goals as goal

pub loop-col-init : goal.loop-col-init
loop-col-init g c = record {
  high = omega arith;
  marks = marks_none c.args.frame c.args.raster.now (c.args.row * c.args.frame.cols) c.args.counts.now;
  values = values_none c.args.frame c.args.raster.now (c.args.row * c.args.frame.cols) (c.args.raster.now.rows * c.args.raster.now.cols) (map g.S.Sum.number c.args.sums.now);
}

pub lay_piece-requires-clause-fits : goal.lay_piece-requires-clause-fits
lay_piece-requires-clause-fits g c =
    fits_part c.args.frame c.args.raster.now (c.args.row * c.args.frame.cols) c.loop-col.col c.piece_of-count.result c.args.frame.cols c.args.counts.now c.loop-col.counts
    (omega (arith, c.piece_of-count.ensures.within, c.loop-col.invariant.high)) c.loop-col.auto.counts c.requires.fits c.loop-col.invariant.marks

pub lay_piece-requires-clause-within : goal.lay_piece-requires-clause-within
lay_piece-requires-clause-within g c =
    let f = c.args.frame in
    let r = c.args.raster.now in
    let reach = g.S.Sum.reach in
    let from = c.args.row * f.cols in
    let n = c.loop-col.col in
    let high : n ≤ f.cols = c.loop-col.invariant.high in
    let rest : f.cols ≡ n + (f.cols - n) = omega (arith, high) in
    let fits : CountsFit f r from n c.args.counts.now = fits_front f r from n (f.cols - n) c.args.counts.now (subst (λ k. CountsFit f r from k c.args.counts.now) rest c.requires.fits) in
    within_more (512 * reach + 255 * reach) (1024 * reach) (r.rows * r.cols) f.depth (map g.S.Sum.number c.loop-col.sums) (omega arith)
    (within_rest reach f r from n (512 * reach) (r.rows * r.cols) c.args.counts.now (map g.S.Sum.number c.args.sums.now) (map g.S.Sum.number c.loop-col.sums) c.requires.placed.raster
    c.requires.reach (omega (arith, c.requires.counts)) fits c.requires.within c.loop-col.invariant.values)

pub loop-col-preserved : goal.loop-col-preserved
loop-col-preserved g c =
    let f = c.args.frame in
    let r = c.args.raster.now in
    let from = c.args.row * f.cols in
    let n = c.loop-col.col in
    let m = c.piece_of-count.result in
    record {
      high = omega (arith, c.piece_of-count.ensures.within, c.loop-col.invariant.high);
      marks = marks_join f r from n m c.args.counts.now c.loop-col.counts c.lay_piece.new.counts c.loop-col.auto.counts c.loop-col.invariant.marks c.lay_piece.ensures.counts;
      values = values_join f r from n m (r.rows * r.cols) (map g.S.Sum.number c.args.sums.now) (map g.S.Sum.number c.loop-col.sums) (map g.S.Sum.number c.lay_piece.new.sums) c.loop-col.invariant.values c.lay_piece.ensures.sums;
    }
