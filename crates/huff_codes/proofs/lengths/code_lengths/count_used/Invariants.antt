use Rattle.std.proofs.Common.{◌≡◌, ◌≤◌}
use Rattle.huff_codes.specs.Sums.{sum_below}
use Rattle.huff_codes.proofs.Uses.{use_at}
use Rattle.huff_codes.proofs.lengths.code_lengths.count_used.Given as goal

abbrev pub invariant-loop-count : goal.invariant-loop-count
invariant-loop-count l = record {
  small : l.n ≤ l.count-index;
  sum : l.n ≡ sum_below l.count-index (use_at l.counts);
}
