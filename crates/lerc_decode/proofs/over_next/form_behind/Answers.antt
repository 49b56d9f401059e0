use Rattle.std.proofs.Common.{ℕ, ◌∙◌, ap, subst}
use Rattle.std.specs.Prelude.{Some}
use Rattle.lerc_grammar.specs.Outline.{IsMaskFormAfter}
use Rattle.lerc_decode.proofs.Bodies.{each_err, each_ok, mask_form_stop}
use Rattle.lerc_decode.proofs.OverBands.{counted_before}
use Rattle.lerc_decode.proofs.over_next.form_behind.Goals as goal

pub returns-clause-ok : goal.returns-clause-ok
returns-clause-ok c =
    each_ok c.mask_part.result (λ form is. subst (λ (n : ℕ). IsMaskFormAfter (Some n) c.args.blob.now.header c.args.blob.now.bytes.now form) c.count_marked-counted.ensures.value ((c.mask_part.ensures.ok form).0 is))

pub returns-clause-fault : goal.returns-clause-fault
returns-clause-fault c =
    let h = c.args.blob.now.header in
    let blob = c.args.blob.now.bytes.now in
    each_err c.mask_part.result
    (λ f is before b. mask_form_stop before h blob _ c.mask_part.result (ap (λ (n : ℕ). Some n) c.count_marked-counted.ensures.value ∙ counted_before before h c.args.bits.now b) c.args.blob.now.sum c.mask_part.ensures.fault f is)
