use Rattle.std.proofs.Common.{◌≡◌, ◌*◌, ◌≤◌, length, take}
use Rattle.huff_codes.specs.Codes.{canonical_codes}
use Rattle.huff_codes.specs.Words.{joined_codes}
use Rattle.huff_codes.proofs.words.writing.bits_of_all.Given as goal

abbrev pub invariant-loop-symbol : goal.invariant-loop-symbol
invariant-loop-symbol l = record {
  few : l.bits ≤ 32 * l.symbol-index;
  bits_are : l.bits ≡ length (joined_codes (canonical_codes l.lengths) (take l.symbol-index l.symbols));
}
