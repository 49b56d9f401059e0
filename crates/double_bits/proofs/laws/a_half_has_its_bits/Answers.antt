use Rattle.double_bits.proofs.HalfBits.{half_stands, half_fits, half_zero}
use Rattle.double_bits.proofs.laws.a_half_has_its_bits.Goals as goal

pub returns-clause-stands : goal.returns-clause-stands
returns-clause-stands c = half_stands

pub returns-clause-fits : goal.returns-clause-fits
returns-clause-fits c = half_fits

pub returns-clause-zero : goal.returns-clause-zero
returns-clause-zero c = half_zero
