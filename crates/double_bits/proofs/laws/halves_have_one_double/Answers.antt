use Rattle.double_bits.proofs.HalfBits.{other_double}
use Rattle.double_bits.proofs.laws.halves_have_one_double.Goals as goal

pub returns : goal.returns
returns c = other_double
