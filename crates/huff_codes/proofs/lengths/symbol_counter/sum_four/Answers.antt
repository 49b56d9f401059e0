use Rattle.std.proofs.Common.{rules, arith}
use Rattle.huff_codes.proofs.Tallies.{sum_fits, sums_all}
use Rattle.huff_codes.proofs.lengths.symbol_counter.sum_four.Goals as goal

pub overflow_add-counts : goal.overflow_add-counts
overflow_add-counts c =
    let fits = sum_fits c.args.four.now.first c.args.four.now.second c.args.four.now.third c.args.four.now.fourth c.loop-s.s c.loop-s-test.true c.requires in
    search rules

pub overflow_add-counts-in-loop-s : goal.overflow_add-counts-in-loop-s
overflow_add-counts-in-loop-s c =
    let fits = sum_fits c.args.four.now.first c.args.four.now.second c.args.four.now.third c.args.four.now.fourth c.loop-s.s c.loop-s-test.true c.requires in
    search rules

pub overflow_add-counts-in-loop-s-2 : goal.overflow_add-counts-in-loop-s-2
overflow_add-counts-in-loop-s-2 c =
    let fits = sum_fits c.args.four.now.first c.args.four.now.second c.args.four.now.third c.args.four.now.fourth c.loop-s.s c.loop-s-test.true c.requires in
    search rules

pub returns : goal.returns
returns c =
    let past = c.loop-s-test.false in
    sums_all c.args.four.now.first c.args.four.now.second c.args.four.now.third c.args.four.now.fourth c.loop-s.counts c.loop-s.invariant.room
    (λ s lt. c.loop-s.invariant.done s (omega (arith, past, lt)))
