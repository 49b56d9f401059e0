use Rattle.std.proofs.Common.{arith}
use Rattle.huff_codes.proofs.ChosenRuns.{gap_found, gap_whole}
use Rattle.huff_codes.proofs.tables.chosen_table.first_gap.Goals as goal

pub returns-then-lengths-gap-gt0-clause-gap : goal.returns-then-lengths-gap-gt0-clause-gap
returns-then-lengths-gap-gt0-clause-gap c = gap_found c.args.lengths.now c.loop-gap.gap (omega arith) c.loop-gap.invariant c.if-lengths-gap-gt0.true

pub returns-clause-gap : goal.returns-clause-gap
returns-clause-gap c = gap_whole c.args.lengths.now c.requires (λ g lt. c.loop-gap.invariant g (omega (arith, lt, c.loop-gap-test.false)))
