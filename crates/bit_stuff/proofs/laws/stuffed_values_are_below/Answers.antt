use Rattle.bit_stuff.proofs.StuffedLaws.{stuffed_below}
use Rattle.bit_stuff.proofs.laws.stuffed_values_are_below.Goals as goal

pub returns : goal.returns
returns c = λ bytes values width s. stuffed_below bytes width values s
