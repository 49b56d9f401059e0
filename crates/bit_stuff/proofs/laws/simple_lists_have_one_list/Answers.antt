use Rattle.bit_stuff.proofs.HeadLaws.{simple_unique}
use Rattle.bit_stuff.proofs.laws.simple_lists_have_one_list.Goals as goal

pub returns : goal.returns
returns c = λ bytes xs ys a b. simple_unique bytes xs ys a b
