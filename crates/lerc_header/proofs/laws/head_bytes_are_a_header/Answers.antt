use Rattle.lerc_header.proofs.WrittenHeads.{length-head, head_stands, drop-head, field-checksum}
use Rattle.lerc_header.proofs.laws.head_bytes_are_a_header.Goals as goal

pub returns-clause-length : goal.returns-clause-length
returns-clause-length c = length-head

pub returns-clause-stand : goal.returns-clause-stand
returns-clause-stand c = head_stands

pub returns-clause-covered : goal.returns-clause-covered
returns-clause-covered c = drop-head

pub returns-clause-checksum : goal.returns-clause-checksum
returns-clause-checksum c = field-checksum
