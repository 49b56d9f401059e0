use Rattle.std.proofs.Common.{sym, subst, arith}
use Rattle.std.specs.Prelude.{IfErr, Option}
use Rattle.lerc_grammar.specs.Blob.{blob_faults}
use Rattle.lerc_grammar.specs.Mask.{Previous}
use Rattle.lerc_decode.specs.inside.Body.{IsFaultIn}
use Rattle.lerc_decode.proofs.Bodies.{bad_sum}
use Rattle.lerc_decode.proofs.blob.summed.SummedBlob.of.Goals as goal

pub invariant_of-blob-clause-are_bytes : goal.invariant_of-blob-clause-are_bytes
invariant_of-blob-clause-are_bytes c = λ i. omega (arith, c.type_inv.bytes i)

pub returns-then-header-computed-clause-fault : goal.returns-then-header-computed-clause-fault
returns-then-header-computed-clause-fault c =
    subst (λ r. IfErr r (λ stop. (before : Option Previous) → IsFaultIn (blob_faults before c.args.header.now c.args.bytes.now) stop)) (sym c.refuse.ensures)
    (λ before. bad_sum before c.args.header.now c.args.bytes.now c.sum_behind-computed.result c.sum_behind-computed.ensures c.if-header-computed.true)
