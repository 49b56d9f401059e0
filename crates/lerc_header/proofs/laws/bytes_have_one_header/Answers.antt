use Rattle.lerc_header.proofs.HeadLemmas.{one_head}
use Rattle.lerc_header.proofs.laws.bytes_have_one_header.Goals as goal

pub returns : goal.returns
returns c = one_head
