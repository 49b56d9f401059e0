use Rattle.std.proofs.Common.{◌≡◌, ℕ, ◌*◌, ◌^◌, ◌<◌, ◌≤◌, slice_index, length}
use Rattle.huff_codes.specs.Sums.{sum_below}
use Rattle.huff_codes.specs.inside.Places.{length_share}
use Rattle.huff_codes.proofs.lengths.code_lengths.shares_by_length.Given as goal

abbrev pub invariant-loop-s : goal.invariant-loop-s
invariant-loop-s l = record {
  room : length l.shares ≡ 33;
  small : (k : ℕ) → k < 33 → slice_index l.shares k ≤ l.s * 2 ^ 32;
  shares : (k : ℕ) → k < 33 → slice_index l.shares k ≡ sum_below l.s (length_share l.lengths k);
}
