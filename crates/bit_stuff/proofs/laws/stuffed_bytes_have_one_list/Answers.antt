use Rattle.bit_stuff.proofs.StuffedLaws.{some_stuffed, stuffed_unique}
use Rattle.bit_stuff.proofs.laws.stuffed_bytes_have_one_list.Goals as goal

pub returns-clause-one : goal.returns-clause-one
returns-clause-one c = λ bytes xs ys width a b e. stuffed_unique bytes width xs ys a b e

pub returns-clause-some : goal.returns-clause-some
returns-clause-some c = λ bytes width n size. some_stuffed bytes width n size
