use Rattle.lerc_cli.proofs.WordLemmas.Spelled.{spells_one}
use Rattle.lerc_cli.proofs.laws.one_command.Goals as goal

pub returns : goal.returns
returns c = spells_one
