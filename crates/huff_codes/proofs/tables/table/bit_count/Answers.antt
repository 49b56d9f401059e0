use Rattle.std.proofs.Common.{arith}
use Rattle.std.proofs.lemmas.List.Sums.{sum_by_more_le, sum_by-le}
use Rattle.huff_codes.proofs.tables.table.bit_count.Goals as goal

pub overflow_add-bits : goal.overflow_add-bits
overflow_add-bits c =
    let lengths = c.args.lengths.now in
    omega (arith, c.loop-length.invariant, sum_by_more_le (λ l. l) lengths c.loop-length.length-index 0 (omega arith), sum_by-le (λ l. l) 32 lengths c.requires.low)
