use Rattle.std.proofs.Common.{refl}
use Rattle.ascii_cli.proofs.Outputs.{never_usage}
use Rattle.ascii_cli.proofs.dispatch.act.Goals as goal

pub returns-in-Some-clause-usage : goal.returns-in-Some-clause-usage
returns-in-Some-clause-usage g c = (
  λ stopped. absurd (never_usage _ _ _ _ c.perform.ensures.output stopped),
  λ none. absurd (none c.in-Some.command ((c.in-Some.ensures c.in-Some.command).0 refl)),
)
