use Rattle.std.proofs.Common.{refl, sym, ◌∙◌}
use Rattle.audit_cli.proofs.Spelled.{asked_none, asked_some}
use Rattle.audit_cli.proofs.words.asked_for.Goals as goal

pub invariant_of-result : goal.invariant_of-result
invariant_of-result c =
    let within = (c.workers_of.ensures c.in_ok-workers.workers).0 c.in_ok-workers.was in
    record { some = within.1; few = within.2 }

pub returns-in_err-workers : goal.returns-in_err-workers
returns-in_err-workers c =
    asked_none c.args.workers.now c.args.all c.args.strict c.from_residual.result c.from_residual.ensures
    (λ d is. absurd (let none = sym c.in_err-workers.was ∙ (c.workers_of.ensures d.workers).1 is.workers_are in cc))

pub returns : goal.returns
returns c = asked_some _ c.args.workers.now c.args.all c.args.strict (record { workers_are = (c.workers_of.ensures c.in_ok-workers.workers).0 c.in_ok-workers.was; all_is = refl; strict_is = refl })
