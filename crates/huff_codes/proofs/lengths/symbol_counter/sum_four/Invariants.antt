use Rattle.std.proofs.Common.{◌≡◌, ℕ, ◌+◌, ◌<◌, length, get_or}
use Rattle.huff_codes.proofs.lengths.symbol_counter.sum_four.Given as goal

abbrev pub invariant-loop-s : goal.invariant-loop-s
invariant-loop-s l = record {
  room : length l.counts ≡ 256;
  done : (k : ℕ) → k < l.s → get_or l.counts k 0 ≡ get_or l.four.first k 0 + get_or l.four.second k 0 + get_or l.four.third k 0 + get_or l.four.fourth k 0;
}
