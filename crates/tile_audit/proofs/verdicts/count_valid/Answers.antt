use Rattle.std.proofs.Common.{◌≡◌, ◌<◌, ◌∙◌, length, arith}
use Rattle.raster_values.specs.Raster.{valid_count}
use Rattle.tile_audit.proofs.Shapes.{sum_more}
use Rattle.tile_audit.proofs.verdicts.count_valid.Goals as goal

pub loop-i-preserved : goal.loop-i-preserved
loop-i-preserved c =
    let inv = c.loop-i.invariant in
    let below : c.loop-i.i < length c.args.bands.now = omega (arith, c.loop-i-test.true, c.len-i-end.ensures.value) in
    let one : c.from-valid.result ≡ valid_count c.at.result.now = c.from-valid.ensures ∙ c.valid_count.ensures.value in
    let more = sum_more valid_count c.args.bands.now c.loop-i.i c.at.result.now below c.at.ensures in
    (omega (arith, inv.0, one, more), omega (arith, inv.1, c.valid_count.type_inv, c.from-valid.ensures))
