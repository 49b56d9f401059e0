use Rattle.std.proofs.Common.{ℕ, subst}
use Rattle.std.specs.Prelude.{Option}
use Rattle.lerc_grammar.specs.Outline.{IsMaskFormAfter}
use Rattle.lerc_decode.proofs.Bodies.{each_err, each_ok, mask_form_stop}
use Rattle.lerc_decode.proofs.blob.body.mask_form.Goals as goal

pub returns-clause-ok : goal.returns-clause-ok
returns-clause-ok c =
    each_ok c.mask_part.result (λ form is. subst (λ (count : Option ℕ). IsMaskFormAfter count c.args.blob.now.header c.args.blob.now.bytes.now form) c.valid_before-counted.ensures ((c.mask_part.ensures.ok form).0 is))

pub returns-clause-fault : goal.returns-clause-fault
returns-clause-fault c =
    each_err c.mask_part.result
    (mask_form_stop c.args.before.now c.args.blob.now.header c.args.blob.now.bytes.now _ c.mask_part.result c.valid_before-counted.ensures c.args.blob.now.sum c.mask_part.ensures.fault)
