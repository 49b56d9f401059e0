use Rattle.std.proofs.Common.{arith}
use Rattle.overview_cli.proofs.Spelled.{none_spelled, other_length}
use Rattle.overview_cli.proofs.words.command_of.Goals as goal

pub returns-in_default : goal.returns-in_default
returns-in_default c = none_spelled c.args.words.now (other_length c.args.words.now (λ five. omega (arith, five, c.in_default.len_below)))

pub returns-in_default-2 : goal.returns-in_default-2
returns-in_default-2 c = none_spelled c.args.words.now (other_length c.args.words.now (λ five. omega (arith, five, c.in_default.len_at_least)))
