use Rattle.std.proofs.Common.{arith}
use Rattle.huff_codes.proofs.Tallies.{added_more}
use Rattle.huff_codes.proofs.lengths.symbol_counter.add_four.Goals as goal

pub loop-i-preserved : goal.loop-i-preserved
loop-i-preserved c =
    let i = c.loop-i.i in
    let inv = c.loop-i.invariant in
    let test = c.loop-i-test.true in
    let one = c.type_inv.one i in
    let two = c.type_inv.two i in
    let three = c.type_inv.three i in
    let four = c.type_inv.four i in
    record {
      one = added_more c.args.one.now c.args.counts.now.first c.loop-i.counts.first i c.from.result test c.from.ensures (omega (arith, c.from.ensures, one)) inv.one;
      two = added_more c.args.two.now c.args.counts.now.second c.loop-i.counts.second i c.from-in-loop-i.result (omega (arith, test, c.requires.two)) c.from-in-loop-i.ensures (omega (arith, c.from-in-loop-i.ensures, two)) inv.two;
      three = added_more c.args.three.now c.args.counts.now.third c.loop-i.counts.third i c.from-in-loop-i-2.result (omega (arith, test, c.requires.three)) c.from-in-loop-i-2.ensures (omega (arith, c.from-in-loop-i-2.ensures, three)) inv.three;
      four = added_more c.args.four.now c.args.counts.now.fourth c.loop-i.counts.fourth i c.from-in-loop-i-3.result (omega (arith, test, c.requires.four)) c.from-in-loop-i-3.ensures (omega (arith, c.from-in-loop-i-3.ensures, four)) inv.four;
    }
