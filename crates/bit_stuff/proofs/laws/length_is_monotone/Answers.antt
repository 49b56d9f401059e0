use Rattle.bit_stuff.proofs.StuffedLaws.{stuffed_size-le}
use Rattle.bit_stuff.proofs.laws.length_is_monotone.Goals as goal

pub returns : goal.returns
returns c = λ m n v w h k. stuffed_size-le m n v w h k
