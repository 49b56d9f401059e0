use Rattle.std.proofs.Common.{◌+◌, length, ◌∙◌, arith}
use Rattle.delta_mode.proofs.FullPieces.{one_whole}
use Rattle.delta_mode.proofs.depth.deltas_of.Goals as goal

pub write_full-requires-clause-full : goal.write_full-requires-clause-full
write_full-requires-clause-full g c = c.is_full.ensures.full.0 c.if-is_full.true

pub write_full-requires-clause-within : goal.write_full-requires-clause-within
write_full-requires-clause-within g c =
    let full = c.is_full.ensures.full.0 c.if-is_full.true in
    omega (arith, full, c.requires.count)

pub returns-then-is_full : goal.returns-then-is_full
returns-then-is_full g c =
    let r = g.V.View.pixels c.args.raster.now in
    let full = c.is_full.ensures.full.0 c.if-is_full.true in
    let w = c.write_full.ensures in
    one_whole r c.is_full.ensures.sound c.args.d (0 + length c.args.out.now) c.write_full.new.out (omega (arith, full, c.requires.count)) w.symbols (c.write_full.auto.out ∙ c.requires.count)
