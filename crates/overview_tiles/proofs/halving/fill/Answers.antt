use Rattle.std.proofs.Common.{◌≡◌, ◌*◌, ap, ◌∙◌, arith, map}
use Rattle.overview_tiles.proofs.Filling.{fills_join, fills_start}
use Rattle.overview_tiles.proofs.halving.fill.Goals as goal

pub loop-place-init : goal.loop-place-init
loop-place-init g c = record { high = omega arith; filled = fills_start c.args.counts.now (map g.S.Sum.number c.args.sums.now) 0 c.args.raster.now }

pub loop-place-preserved : goal.loop-place-preserved
loop-place-preserved g c =
    let r0 = c.args.raster.now in
    let n = c.loop-place.place in
    let m = c.min-count.result in
    let places : c.rows.result * c.cols.result ≡ r0.rows * r0.cols = ap (λ j. j * c.cols.result) c.rows.ensures.value ∙ ap (λ j. r0.rows * j) c.cols.ensures.value in
    record {
      high = omega (arith, c.min-count.ensures, c.loop-place.invariant.high);
      filled = fills_join c.args.counts.now (map g.S.Sum.number c.args.sums.now) n m r0 c.loop-place.raster c.fill_depths.new.raster c.rows.ensures.sound.shape.cols_above (omega (arith, c.min-count.ensures, c.loop-place.invariant.high, places)) c.loop-place.invariant.filled c.fill_depths.ensures;
    }
