use Rattle.bundle_pack.proofs.OneAnswer.{one_answer}
use Rattle.bundle_pack.proofs.laws.packings_have_one_answer.Goals as goal

pub returns : goal.returns
returns c = one_answer
