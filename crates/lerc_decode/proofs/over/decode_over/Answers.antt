use Rattle.std.proofs.Common.{length, refl, arith, inl, inr}
use Rattle.lerc_grammar.specs.Verdict.{of_blob}
use Rattle.lerc_grammar.proofs.More.{more_body}
use Rattle.lerc_decode.proofs.CallersArrays.{head_taken, no_other_room}
use Rattle.lerc_decode.proofs.over.decode_over.Goals as goal

pub returns-then-blob-size-clause-stop : goal.returns-then-blob-size-clause-stop
returns-then-blob-size-clause-stop c = inr (more_body c.args.blob.now c.in-Ok.header c.in-Ok.ensures.ok (omega (arith, c.if-blob-size.true)), c.cut_fault.ensures)

pub returns-then-blob-size-clause-sizes : goal.returns-then-blob-size-clause-sizes
returns-then-blob-size-clause-sizes c = (
  λ e. absurd (cc),
  λ other. absurd (no_other_room c.args.blob.now c.in-Ok.header (length c.args.values.now) (length c.args.mask.now) c.in-Ok.ensures.ok (c.if-not-have_room.ensures.0 refl) other),
)

pub body_over-requires-clause-head : goal.body_over-requires-clause-head
body_over-requires-clause-head c = head_taken c.args.blob.now c.in-Ok.header c.in-Ok.ensures.ok (omega (arith, c.if-blob-size.false))

pub returns-in-Ok-body_over-clause-sizes : goal.returns-in-Ok-body_over-clause-sizes
returns-in-Ok-body_over-clause-sizes c = (
  λ e. absurd (cc),
  λ other. absurd (no_other_room c.args.blob.now c.in-Ok.header (length c.args.values.now) (length c.args.mask.now) c.in-Ok.ensures.ok (c.if-not-have_room.ensures.0 refl) other),
)

pub returns-in-Ok-body_over-clause-kept : goal.returns-in-Ok-body_over-clause-kept
returns-in-Ok-body_over-clause-kept c = λ e. absurd (cc)

pub returns-in-Err-body_over-clause-kept : goal.returns-in-Err-body_over-clause-kept
returns-in-Err-body_over-clause-kept c = λ e. absurd (cc)

pub returns-in-Err-body_over-clause-stop : goal.returns-in-Err-body_over-clause-stop
returns-in-Err-body_over-clause-stop c =
    let h = c.in-Ok.header in
    inl (of_blob h (omega (arith, c.if-blob-size.false)) (head_taken c.args.blob.now h c.in-Ok.ensures.ok (omega (arith, c.if-blob-size.false))) c.in-Err-body_over.ensures.fault)

pub returns-in-Err-body_over-clause-sizes : goal.returns-in-Err-body_over-clause-sizes
returns-in-Err-body_over-clause-sizes c = (
  λ e. absurd (cc),
  λ other. absurd (no_other_room c.args.blob.now c.in-Ok.header (length c.args.values.now) (length c.args.mask.now) c.in-Ok.ensures.ok (c.if-not-have_room.ensures.0 refl) other),
)
