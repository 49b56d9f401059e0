use Rattle.std.proofs.Common.{◌≡◌, ◌+◌, ◌*◌, Bool, List, ◌++◌, length, take}
use Rattle.huff_codes.specs.Words.{joined_codes}
use Rattle.huff_codes.specs.inside.Begun.{numbered_codes}
use Rattle.huff_codes.specs.inside.Filling.{IsLoose}
use Rattle.huff_codes.proofs.words.word_pairs.write_pairs.Given as goal

abbrev pub invariant-loop-k : goal.invariant-loop-k
invariant-loop-k l = record {
  room : length l.out ≡ length l.fn.out;
  bits : 8 * l.current.at + l.current.count ≡ 8 * l.fn.pending.at + l.fn.pending.count + length (joined_codes (numbered_codes l.numbers) (take (2 * l.k) l.symbols));
  pending : (bits : List Bool) → IsLoose bits l.fn.out l.fn.pending.held l.fn.pending.count l.fn.pending.at
      → IsLoose (bits ++ joined_codes (numbered_codes l.numbers) (take (2 * l.k) l.symbols)) l.out l.current.held l.current.count l.current.at;
}
