use Rattle.std.proofs.Common.{◌≡◌, ◌∙◌, ◌+◌, length, arith, ap, map}
use Rattle.overview_tiles.specs.inside.Means.{mean_at}
use Rattle.overview_tiles.proofs.Filling.{fills_all, fills_more, fills_none}
use Rattle.overview_tiles.proofs.halving.fill_depths.Goals as goal

pub loop-d-init : goal.loop-d-init
loop-d-init g c = fills_none _ _ _ _ _

pub loop-d-preserved : goal.loop-d-preserved
loop-d-preserved g c =
    let r0 = c.args.raster.now in
    let d = c.loop-d.d in
    let size : length c.means.new.out ≡ c.args.count = c.means.auto.out ∙ c.loop-d.auto.room ∙ c.requires.size in
    fills_more c.args.counts.now (map g.S.Sum.number c.args.sums.now) c.args.place c.args.count d c.means.new.out r0 c.loop-d.raster c.put_from.new.self
    c.depth-depth.ensures.sound.shape.cols_above (omega (arith, c.depth-depth.ensures.value)) c.requires.within size
    (λ i less. c.means.ensures.values i (omega (arith, less, size, c.means.auto.out)) ∙ (let e : mean_at c.depth-depth.result c.args.counts.now (map g.S.Sum.number c.args.sums.now) d (c.args.place + i) ≡ mean_at r0.depth c.args.counts.now (map g.S.Sum.number c.args.sums.now) d (c.args.place + i) = ap (λ n. mean_at n c.args.counts.now (map g.S.Sum.number c.args.sums.now) d (c.args.place + i)) c.depth-depth.ensures.value in e))
    c.put_from.ensures.put c.loop-d.invariant

pub returns : goal.returns
returns g c = fills_all c.args.counts.now (map g.S.Sum.number c.args.sums.now) c.args.place c.args.count c.loop-d.d c.args.raster.now c.loop-d.raster (omega (arith, c.depth-depth.ensures.value)) c.loop-d.invariant
