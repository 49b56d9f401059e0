use Rattle.std.proofs.Common.{arith}
use Rattle.lerc_header.specs.Head.{HeadAt}
use Rattle.lerc_header.specs.Written.{IsHeader}
use Rattle.lerc_header.proofs.Lawful.{lawful_head}
use Rattle.lerc_header.proofs.ReadParts.{exact_ok, exact_err, if_ok}
use Rattle.lerc_header.proofs.reading.read_header.Goals as goal

pub returns-clause-ok : goal.returns-clause-ok
returns-clause-ok c = exact_ok c.args.bytes.now c.first_of.result c.first_of.ensures.ok c.first_of.ensures.fault

pub returns-clause-fault : goal.returns-clause-fault
returns-clause-fault c = exact_err c.args.bytes.now c.first_of.result c.first_of.ensures.ok c.first_of.ensures.fault

pub returns-clause-lawful : goal.returns-clause-lawful
returns-clause-lawful c = if_ok (HeadAt c.args.bytes.now) IsHeader c.first_of.result (λ h head. lawful_head c.args.bytes.now h (λ i. omega (arith, c.type_inv.bytes i)) head) c.first_of.ensures.ok
