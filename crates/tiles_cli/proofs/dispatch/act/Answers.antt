use Rattle.std.proofs.Common.{refl}
use Rattle.tiles_cli.proofs.Ended.{never_usage}
use Rattle.tiles_cli.proofs.dispatch.act.Goals as goal

pub returns-in-Some-clause-usage : goal.returns-in-Some-clause-usage
returns-in-Some-clause-usage g c = (
  λ stopped. absurd (never_usage c.in-Some.command _ _ _ _ c.perform.ensures.done stopped),
  λ none. absurd (none c.in-Some.command ((c.in-Some.ensures c.in-Some.command).0 refl)),
)
