use Rattle.std.proofs.Common.{◌+◌, List, ℕ, drop, subst, sym, ap, ◌∙◌, arith}
use Rattle.std.proofs.lemmas.List.{take_rest}
use Rattle.mask_runs.specs.Ending.{ending_with}
use Rattle.mask_runs.specs.inside.Steps.{IsFirstChoice, size_in}
use Rattle.mask_runs.proofs.Endings.{drop-ending, length-ending}
use Rattle.mask_runs.proofs.Writing.{Measuring, measuring_more}
use Rattle.mask_runs.proofs.write.runs_len_with.Goals as goal

pub loop-at-preserved : goal.loop-at-preserved
loop-at-preserved c =
    let bytes = c.args.mask.now in
    let last = c.args.last in
    let mask = ending_with bytes last in
    let at = c.loop-at.at in
    let choice = c.first_choice-choice.result in
    let first : IsFirstChoice (drop at mask) choice =
    subst (λ (xs : List ℕ). IsFirstChoice xs choice) (ap (λ (xs : List ℕ). ending_with xs last) (take_rest bytes at) ∙ drop-ending bytes last at c.loop-at-test.true) c.first_choice-choice.ensures in
    let more = measuring_more mask c.loop-at.size at choice (omega (arith, c.loop-at-test.true, length-ending bytes last)) c.loop-at.invariant first in
    subst (λ n. Measuring mask (c.loop-at.size + n) (at + c.count-at.result)) (sym c.size-size.ensures)
    (subst (λ n. Measuring mask (c.loop-at.size + size_in choice) (at + n)) (sym c.count-at.ensures) more)
