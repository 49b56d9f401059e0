use Rattle.std.proofs.Common.{◌≤◌, arith}
use Rattle.std.specs.Prelude.{All, SomeIndex, ◌<◌, slice_index}
use Rattle.std.proofs.lemmas.Bool.{MatchBool-at_true}
use Rattle.huff_codes.proofs.Uses.{are_lengths}
use Rattle.huff_codes.proofs.lengths.code_lengths.Lengths.of.Goals as goal

pub invariant_of-result : goal.invariant_of-result
invariant_of-result c =
    let lengths = c.all_lengths-lengths.result in
    are_lengths c.args.counts.now lengths c.all_lengths-lengths.ensures (omega (arith, c.count_used.ensures, c.if-count_used-lt2.false))
    (MatchBool-at_true (All (λ l. l ≤ 32) lengths) (SomeIndex lengths (λ s. 32 < slice_index lengths s)) c.if-not-are_short.false c.are_short.ensures)
