use Rattle.std.proofs.Common.{◌≡◌, ℕ, ◌<◌, length, get_or}
use Rattle.huff_codes.specs.Codes.{code_at}
use Rattle.huff_codes.specs.inside.Filling.{IsNumbered, no_number}
use Rattle.huff_codes.specs.inside.Stored.{codes_held}
use Rattle.huff_codes.proofs.words.word_pairs.numbers_of.Given as goal

abbrev pub invariant-loop-s : goal.invariant-loop-s
invariant-loop-s l = record {
  room : length l.numbers ≡ 256;
  done : (k : ℕ) → k < l.s → IsNumbered (code_at (codes_held l.codes) k) (get_or l.numbers k no_number);
}
