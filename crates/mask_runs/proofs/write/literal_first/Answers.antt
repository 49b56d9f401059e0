use Rattle.std.proofs.Common.{◌-◌, ◌+◌, min, ◌∙◌, sym, ap, subst, arith}
use Rattle.mask_runs.specs.Ending.{ending_with}
use Rattle.mask_runs.proofs.Endings.{length-ending}
use Rattle.mask_runs.proofs.Equal.{Searching, searching_same, searching_other, search_found, search_ended}
use Rattle.mask_runs.proofs.write.literal_first.Goals as goal
use Rattle.mask_runs.proofs.write.literal_first.Goals.{then-byte_at, else-byte_at}

pub returns-then-i-start : goal.returns-then-i-start
returns-then-i-start c =
    let mask = ending_with c.args.mask.now c.args.last in
    let long = length-ending c.args.mask.now c.args.last in
    elim c.if-byte_at.branch [
      | then-byte_at w ↦ absurd (omega (arith, w.start-is, c.if-i-start.true))
      | else-byte_at w ↦ w.start-is ∙ search_found mask c.loop-i.start c.loop-i.i c.loop-i.invariant (omega (arith, c.min-i-end.ensures, long)) (omega (arith, c.min-i-end.ensures)) (sym c.byte_at.ensures ∙ w.if-byte_at.false ∙ c.byte_at-in-loop-i.ensures) (omega (arith, w.start-is, c.if-i-start.true))
    ]

pub loop-i-preserved : goal.loop-i-preserved
loop-i-preserved c =
    let mask = ending_with c.args.mask.now c.args.last in
    let long = length-ending c.args.mask.now c.args.last in
    elim c.if-byte_at.branch [
      | then-byte_at w ↦ subst (λ s. Searching mask s (c.loop-i.i + 1)) (sym w.start-is) (searching_other mask c.loop-i.start c.loop-i.i c.loop-i.invariant (omega (arith, c.min-i-end.ensures, long)) (λ e. w.if-byte_at.true (c.byte_at.ensures ∙ e ∙ sym c.byte_at-in-loop-i.ensures)))
      | else-byte_at w ↦ subst (λ s. Searching mask s (c.loop-i.i + 1)) (sym w.start-is) (searching_same mask c.loop-i.start c.loop-i.i c.loop-i.invariant (sym c.byte_at.ensures ∙ w.if-byte_at.false ∙ c.byte_at-in-loop-i.ensures) (λ e. c.if-i-start.false (ap (λ s. c.loop-i.i - s) w.start-is ∙ e)))
    ]

pub returns : goal.returns
returns c =
    let long = length-ending c.args.mask.now c.args.last in
    c.min.ensures ∙ ap (λ n. min n 32767) (sym long) ∙ search_ended (ending_with c.args.mask.now c.args.last) c.loop-i.start c.loop-i.i c.loop-i.invariant (omega (arith, c.min-i-end.ensures, long))
