use Rattle.double_bits.proofs.HalfBits.{half_or_none}
use Rattle.double_bits.proofs.laws.bits_have_a_half_or_none.Goals as goal

pub returns : goal.returns
returns c = half_or_none
