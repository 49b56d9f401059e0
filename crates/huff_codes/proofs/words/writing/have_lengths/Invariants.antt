use Rattle.std.proofs.Common.{ℕ, ◌<◌, get_or, slice_index}
use Rattle.huff_codes.proofs.words.writing.have_lengths.Given as goal

abbrev pub invariant-loop-symbol : goal.invariant-loop-symbol
invariant-loop-symbol l = (k : ℕ) → k < l.symbol-index → 0 < slice_index l.lengths (get_or l.symbols k 0)
