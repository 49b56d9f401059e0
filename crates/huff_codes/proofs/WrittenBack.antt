-- What is written is read back, and what eight bits tell.
use Rattle.std.proofs.Common.{ℕ, ◌+◌, ◌-◌, ◌*◌, Bool, false, List, length, replicate, refl, ◌∙◌, arith}
use Rattle.std.specs.Prelude.{All}
use Rattle.huff_codes.specs.Codes.{HasCode}
use Rattle.huff_codes.specs.Words.{joined_codes, word_count, AreWords}
use Rattle.huff_codes.specs.Written.{AreWritten}

-- written words are words of their symbols, so reading gives the symbols back
pub written_are_words : (codes : List (List Bool)) (symbols bytes : List ℕ) → All (HasCode codes) symbols → AreWritten codes symbols bytes → AreWords codes (length symbols) bytes symbols
written_are_words codes symbols bytes coded h = record {
  count = refl;
  coded = coded;
  begin = (replicate (32 * (word_count (length (joined_codes codes symbols)) + 1) - length (joined_codes codes symbols)) false, h.same);
  size = h.size ∙ omega arith;
}
