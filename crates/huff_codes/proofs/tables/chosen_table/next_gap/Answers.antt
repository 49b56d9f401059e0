use Rattle.std.proofs.Common.{◌≡◌, slice_index, arith}
use Rattle.huff_codes.proofs.ChosenRuns.{gap_closed, gap_short, gap_grown}
use Rattle.huff_codes.proofs.tables.chosen_table.next_gap.Goals as goal

pub returns-then-lengths-symbol-gt0-clause-gap : goal.returns-then-lengths-symbol-gt0-clause-gap
returns-then-lengths-symbol-gt0-clause-gap c = gap_closed c.args.lengths.now c.args.symbol (omega arith) c.if-lengths-symbol-gt0.true

pub returns-else-lengths-symbol-gt0-clause-low : goal.returns-else-lengths-symbol-gt0-clause-low
returns-else-lengths-symbol-gt0-clause-low c =
    let none : slice_index c.args.lengths.now c.args.symbol ≡ 0 = (let h = c.if-lengths-symbol-gt0.false in omega arith) in
    omega (arith, gap_short c.args.lengths.now c.args.symbol c.args.gap (omega arith) c.requires.low c.requires.gap none)

pub returns-else-lengths-symbol-gt0-clause-gap : goal.returns-else-lengths-symbol-gt0-clause-gap
returns-else-lengths-symbol-gt0-clause-gap c =
    let none : slice_index c.args.lengths.now c.args.symbol ≡ 0 = (let h = c.if-lengths-symbol-gt0.false in omega arith) in
    gap_grown c.args.lengths.now c.args.symbol c.args.gap (omega arith) c.requires.low c.requires.gap none
