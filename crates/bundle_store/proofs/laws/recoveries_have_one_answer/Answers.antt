use Rattle.bundle_store.proofs.OneRecovery.{one_answer}
use Rattle.bundle_store.proofs.laws.recoveries_have_one_answer.Goals as goal

pub returns : goal.returns
returns c = λ bundle journal one two first second some other. one_answer bundle journal one two first second some other
