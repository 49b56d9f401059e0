use Rattle.bit_stuff.proofs.HeadLaws.{simple_bytes-list}
use Rattle.bit_stuff.proofs.laws.simple_bytes_are_a_list.Goals as goal

pub returns : goal.returns
returns c = λ values few below. simple_bytes-list values few below
