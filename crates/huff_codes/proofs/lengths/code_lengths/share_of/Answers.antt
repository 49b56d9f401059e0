use Rattle.std.proofs.Common.{◌-◌, sym, ap, ◌∙◌, arith}
use Rattle.std.proofs.lemmas.Nat.{one_shl}
use Rattle.huff_codes.specs.Tree.{share}
use Rattle.huff_codes.proofs.Kraft.{share-zero, share-pos}
use Rattle.huff_codes.proofs.lengths.code_lengths.share_of.Goals as goal

pub returns-then-length-eq0-clause-value : goal.returns-then-length-eq0-clause-value
returns-then-length-eq0-clause-value c = sym (ap share c.if-length-eq0.true ∙ share-zero)

pub returns-else-length-eq0-clause-value : goal.returns-else-length-eq0-clause-value
returns-else-length-eq0-clause-value c =
    one_shl (32 - c.args.length) 64 (omega arith) ∙ sym (share-pos c.args.length (omega arith))
