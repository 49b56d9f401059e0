use Rattle.std.proofs.Common.{refl}
use Rattle.audit_cli.proofs.Ends.{never_usage}
use Rattle.audit_cli.proofs.dispatch.act.Goals as goal

pub returns-in-Some-clause-usage : goal.returns-in-Some-clause-usage
returns-in-Some-clause-usage g c = (
  λ stopped. absurd (never_usage _ _ _ _ c.perform.ensures.leaves stopped),
  λ none. absurd (none c.in-Some.command ((c.in-Some.ensures c.in-Some.command).0 refl)),
)

pub returns-in-Some-clause-spelled : goal.returns-in-Some-clause-spelled
returns-in-Some-clause-spelled g c = λ other. (c.in-Some.command, (c.in-Some.ensures c.in-Some.command).0 refl)
