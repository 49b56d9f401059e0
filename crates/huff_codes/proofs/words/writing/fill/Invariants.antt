use Rattle.std.proofs.Common.{◌≡◌, length, take}
use Rattle.huff_codes.specs.Words.{joined_codes}
use Rattle.huff_codes.specs.inside.Stored.{codes_held}
use Rattle.huff_codes.specs.inside.Filling.{IsPending}
use Rattle.huff_codes.proofs.words.writing.fill.Given as goal

abbrev pub invariant-loop-symbol : goal.invariant-loop-symbol
invariant-loop-symbol l = record {
  room : length l.out ≡ length l.fn.out;
  pending : IsPending (joined_codes (codes_held l.codes) (take l.symbol-index l.symbols)) l.out l.pending.held l.pending.count l.pending.at;
}
