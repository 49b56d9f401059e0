use Rattle.std.proofs.Common.{◌≡◌, length}
use Rattle.huff_codes.specs.inside.Noted.{AreNotedBelow}
use Rattle.huff_codes.proofs.words.prefixes.Prefixes.of.Given as goal

abbrev pub invariant-loop-s : goal.invariant-loop-s
invariant-loop-s l = (length l.looks ≡ 256) × AreNotedBelow l.codes l.s l.looks
