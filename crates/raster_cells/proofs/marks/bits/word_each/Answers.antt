use Rattle.std.proofs.Common.{◌+◌, ◌∙◌, ap}
use mir.Val.{bool_byte}
use Rattle.raster_cells.specs.Masks.{mask_bit}
use Rattle.raster_cells.proofs.MarkWords.{byte_is}
use Rattle.raster_cells.proofs.MarkWords.{word_more}
use Rattle.raster_cells.proofs.marks.bits.word_each.Goals as goal

pub loop-i-preserved : goal.loop-i-preserved
loop-i-preserved c =
    let i = c.loop-i.i in
    let more = word_more (λ q. mask_bit c.args.bytes.now (c.args.from + q)) i c.loop-i.word c.from.result
    (c.from.ensures ∙ ap bool_byte c.bit_at.ensures ∙ byte_is (mask_bit c.args.bytes.now (c.args.from + i))) c.loop-i.invariant.below c.loop-i.invariant.bits in
    record { below = more.0; bits = more.1 }
