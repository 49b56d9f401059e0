use Rattle.huff_codes.proofs.Filling.{pending_nothing}
use Rattle.huff_codes.proofs.words.writing.Pending.none.Goals as goal

pub returns : goal.returns
returns c = λ out. pending_nothing out
