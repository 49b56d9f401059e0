use Rattle.std.proofs.Common.{◌≡◌, arith}
use Rattle.lerc_encode.proofs.FirstRanges.{all_known, first_more, first_one, greatest_at, least_at}
use Rattle.lerc_encode.proofs.image.ranging.ranges_of.Goals as goal

pub loop-d-init : goal.loop-d-init
loop-d-init g c =
    let r = (g.V.View.pixels c.args.raster.now) in
    let known = c.known_of-ranges.ensures in
    first_one (least_at r) (greatest_at r) c.known_of-ranges.result c.range_of.result c.range_of.ensures.least c.range_of.ensures.greatest known.least known.greatest known.equal known.kept_least known.kept_greatest

pub loop-d-preserved : goal.loop-d-preserved
loop-d-preserved g c =
    let r = (g.V.View.pixels c.args.raster.now) in
    let found = c.range_of-in-loop-d in
    let more = c.add.ensures in
    first_more (least_at r) (greatest_at r) c.loop-d.d c.loop-d.ranges c.add.new.ranges found.result (omega (arith, c.loop-d.auto.d)) c.loop-d.invariant found.ensures.least found.ensures.greatest
    more.least more.greatest more.equal more.kept_least more.kept_greatest more.other_leasts more.other_greatests

pub returns : goal.returns
returns g c =
    let r = (g.V.View.pixels c.args.raster.now) in
    let sound = c.depth-depth.ensures.sound in
    let some = sound.shape.depth_above in
    let all : c.loop-d.d ≡ r.depth = omega (arith, c.loop-d.auto.d, c.loop-d.auto.d-end, c.loop-d-test.false, c.depth-depth.ensures.value, some) in
    all_known r c.loop-d.d c.loop-d.ranges sound all c.loop-d.invariant
