use Rattle.std.proofs.Common.{refl}
use Rattle.lerc_c.proofs.futskheri_header.Goals as goal

pub returns-in-Err-clause-refused : goal.returns-in-Err-clause-refused
returns-in-Err-clause-refused c = λ _. (c.in-Err.found, ((c.in-Err.ensures.fault c.in-Err.found).0 refl, (c.fault_of.ensures, refl)))
