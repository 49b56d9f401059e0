use Rattle.std.proofs.Common.{refl, arith}
use Rattle.std.proofs.lemmas.List.Sums.{sum_by-le}
use Rattle.huff_codes.proofs.Cutting.{cut_none, cut_more, before_within, before-le}
use Rattle.huff_codes.proofs.tables.table.cut_codes.Goals as goal

pub loop-k-init : goal.loop-k-init
loop-k-init c = cut_none c.args.first c.args.lengths.now c.args.words.now _ refl

pub ahead-requires : goal.ahead-requires
ahead-requires c =
    omega (arith, c.loop-k.invariant.bit_is, before-le c.args.lengths.now c.loop-k.k, c.requires.size)

pub overflow_add-bit : goal.overflow_add-bit
overflow_add-bit c =
    omega (arith, c.loop-k.invariant.bit_is, before_within c.args.lengths.now c.loop-k.k (omega arith), sum_by-le (λ l. l) 32 c.args.lengths.now c.requires.low)

pub loop-k-preserved : goal.loop-k-preserved
loop-k-preserved c =
    cut_more c.args.first c.args.lengths.now c.args.words.now c.loop-k.k c.loop-k.bit c.loop-k.codes c.ahead.result c.code_of.result c.requires.first c.requires.few (omega arith) c.requires.low
    c.requires.size c.loop-k.invariant c.ahead.ensures c.code_of.ensures.laid c.code_of.ensures.bits
