use Rattle.lerc_header.proofs.FaultLemmas.{single-header, single-key, single-fields}
use Rattle.lerc_header.proofs.laws.bytes_have_one_first_fault.Goals as goal

pub returns-clause-header : goal.returns-clause-header
returns-clause-header c = single-header

pub returns-clause-key : goal.returns-clause-key
returns-clause-key c = single-key

pub returns-clause-fields : goal.returns-clause-fields
returns-clause-fields c = single-fields
