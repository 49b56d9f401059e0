use Rattle.lerc_header.proofs.ReadParts.{key_exact_ok, key_exact_err}
use Rattle.lerc_header.proofs.reading.read_version.Goals as goal

pub returns-clause-ok : goal.returns-clause-ok
returns-clause-ok c = key_exact_ok c.args.bytes.now c.key_of.result c.key_of.ensures.ok c.key_of.ensures.fault

pub returns-clause-fault : goal.returns-clause-fault
returns-clause-fault c = key_exact_err c.args.bytes.now c.key_of.result c.key_of.ensures.ok c.key_of.ensures.fault
