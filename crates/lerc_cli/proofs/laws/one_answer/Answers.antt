use Rattle.lerc_cli.proofs.AnswerLemmas.Once.{answers_once}
use Rattle.lerc_cli.proofs.laws.one_answer.Goals as goal

pub returns : goal.returns
returns c = answers_once
