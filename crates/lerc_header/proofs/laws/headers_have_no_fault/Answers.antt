use Rattle.lerc_header.proofs.FaultLemmas.{empty-header, empty-key, empty-fields}
use Rattle.lerc_header.proofs.laws.headers_have_no_fault.Goals as goal

pub returns-clause-header : goal.returns-clause-header
returns-clause-header c = empty-header

pub returns-clause-key : goal.returns-clause-key
returns-clause-key c = empty-key

pub returns-clause-fields : goal.returns-clause-fields
returns-clause-fields c = empty-fields
