use Rattle.lerc_header.proofs.DecidedHeads.{header_or_fault}
use Rattle.lerc_header.proofs.laws.bytes_have_a_header_or_a_fault.Goals as goal

pub returns : goal.returns
returns c = header_or_fault
