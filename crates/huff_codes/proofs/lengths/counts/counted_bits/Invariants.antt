use Rattle.std.proofs.Common.{◌≡◌, ◌*◌, ◌^◌, ◌≤◌}
use Rattle.huff_codes.specs.Sums.{sum_below}
use Rattle.huff_codes.proofs.Tallies.{bits_at}
use Rattle.huff_codes.proofs.lengths.counts.counted_bits.Given as goal

abbrev pub invariant-loop-s : goal.invariant-loop-s
invariant-loop-s l = record {
  small : l.bits ≤ l.s * 2 ^ 40;
  bits_are : l.bits ≡ sum_below l.s (bits_at l.counts l.lengths);
}
