use Rattle.std.proofs.Common.{◌≡◌, ℕ, ◌<◌, length, get_or, slice_index}
use Rattle.huff_codes.specs.Table.{symbol_in}
use Rattle.huff_codes.proofs.tables.chosen_table.list_lengths.Given as goal

abbrev pub invariant-loop-k : goal.invariant-loop-k
invariant-loop-k l = record {
  room : length l.out ≡ length l.fn.out;
  done : (j : ℕ) → j < l.k → get_or l.out j 0 ≡ slice_index l.lengths (symbol_in l.fn.run.first j);
}
