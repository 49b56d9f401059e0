use Rattle.std.proofs.Common.{min, ap, sym, ◌∙◌, arith}
use Rattle.mask_runs.specs.Ending.{ending_with}
use Rattle.mask_runs.proofs.Endings.{length-ending}
use Rattle.mask_runs.proofs.Equal.{equal_is, equal_capped}
use Rattle.mask_runs.proofs.write.equal_first.Goals as goal

pub returns-then-byte_at : goal.returns-then-byte_at
returns-then-byte_at c =
    let mask = ending_with c.args.mask.now c.args.last in
    let long = length-ending c.args.mask.now c.args.last in
    let count = equal_is mask c.loop-i.i (omega (arith, c.min-most.ensures, long)) c.loop-i.invariant (λ _ e. c.if-byte_at.true (c.byte_at.ensures ∙ e ∙ sym c.byte_at-in-loop-i.ensures)) in
    omega (arith, c.min-most.ensures)

pub returns : goal.returns
returns c =
    equal_capped (ending_with c.args.mask.now c.args.last) c.min-most.result (c.min-most.ensures ∙ ap (λ n. min n 32767) (sym (length-ending c.args.mask.now c.args.last))) (λ k h. c.loop-i.invariant k (omega arith))
