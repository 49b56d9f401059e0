use Rattle.std.proofs.Common.{refl}
use Rattle.overview_cli.proofs.Runs.{never_usage}
use Rattle.overview_cli.proofs.Spelled.{lawful_quarter, lawful_workers}
use Rattle.overview_cli.proofs.dispatch.act.Goals as goal

pub returns-in-Some-clause-usage : goal.returns-in-Some-clause-usage
returns-in-Some-clause-usage g c = (
  λ stopped. absurd (never_usage _ _ _ _ _ _ c.perform.ensures.done stopped),
  λ none. absurd (none c.in-Some.command ((c.in-Some.ensures c.in-Some.command).0 refl)),
)

pub perform-requires-clause-quarter : goal.perform-requires-clause-quarter
perform-requires-clause-quarter g c κs within = lawful_quarter c.in-Some.command c.args.words.now ((c.command_of.ensures c.in-Some.command).0 c.in-Some.is)

pub perform-requires-clause-workers : goal.perform-requires-clause-workers
perform-requires-clause-workers g c κs within = lawful_workers c.in-Some.command c.args.words.now ((c.command_of.ensures c.in-Some.command).0 c.in-Some.is)
