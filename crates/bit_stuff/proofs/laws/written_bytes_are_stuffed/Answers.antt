use Rattle.bit_stuff.proofs.StuffedLaws.{stuffed_bytes-clear, stuffed_bytes-stuffed}
use Rattle.bit_stuff.proofs.laws.written_bytes_are_stuffed.Goals as goal

pub returns-clause-stuffed : goal.returns-clause-stuffed
returns-clause-stuffed c = λ values width below. stuffed_bytes-stuffed width values below

pub returns-clause-spare : goal.returns-clause-spare
returns-clause-spare c = λ values width below. stuffed_bytes-clear width values below
