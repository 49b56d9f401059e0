use Rattle.std.proofs.Common.{arith, inl, inr, length, subst, take}
use Rattle.std.specs.Prelude.{◌≤◌, None}
use Rattle.lerc_grammar.specs.Blob.{blob_faults}
use Rattle.lerc_grammar.specs.Verdict.{of_blob}
use Rattle.lerc_grammar.proofs.More.{more_body}
use Rattle.lerc_decode.specs.inside.Body.{IsStopOf}
use Rattle.lerc_decode.proofs.CallersArrays.{head_taken}
use Rattle.lerc_decode.proofs.at_once.decode.Goals as goal

pub returns-then-blob-size-clause-stop : goal.returns-then-blob-size-clause-stop
returns-then-blob-size-clause-stop c = inr (more_body c.args.blob.now c.in-Ok.header c.in-Ok.ensures.ok (omega (arith, c.if-blob-size.true)), c.cut_fault.ensures)

pub body-requires-clause-head : goal.body-requires-clause-head
body-requires-clause-head c = head_taken c.args.blob.now c.in-Ok.header c.in-Ok.ensures.ok (omega (arith, c.if-blob-size.false))

pub returns-in-Err-Fault-clause-stop : goal.returns-in-Err-Fault-clause-stop
returns-in-Err-Fault-clause-stop c =
    let h = c.in-Ok.header in
    let whole : h.size ≤ length c.args.blob.now = omega (arith, c.if-blob-size.false) in
    inl (of_blob h whole (head_taken c.args.blob.now h c.in-Ok.ensures.ok whole)
    (subst (IsStopOf (blob_faults None h (take h.size c.args.blob.now))) c.in-Err-Fault.field-0-is c.in-Err-Fault.ensures.fault))
