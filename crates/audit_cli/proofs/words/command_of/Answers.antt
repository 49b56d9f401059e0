use Rattle.std.proofs.Common.{arith}
use Rattle.audit_cli.proofs.Spelled.{other_length}
use Rattle.audit_cli.proofs.words.command_of.Goals as goal

pub returns-in_default : goal.returns-in_default
returns-in_default c = other_length c.args.words.now (λ both. omega (arith, c.in_default.len_below, both.0))

pub returns-in_default-2 : goal.returns-in_default-2
returns-in_default-2 c = other_length c.args.words.now (λ both. omega (arith, c.in_default.len_at_least, both.1))
