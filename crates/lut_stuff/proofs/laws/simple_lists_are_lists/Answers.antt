use Rattle.lut_stuff.specs.Lists.IsList.{simple}
use Rattle.lut_stuff.proofs.laws.simple_lists_are_lists.Goals as goal

pub returns : goal.returns
returns c = λ bytes values list. simple list
