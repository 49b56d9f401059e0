use Rattle.lut_stuff.proofs.Ranked.{ranks_rise}
use Rattle.lut_stuff.proofs.laws.ranks_rise_with_values.Goals as goal

pub returns : goal.returns
returns c = ranks_rise
