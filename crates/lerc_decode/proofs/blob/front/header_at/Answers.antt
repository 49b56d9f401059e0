use Rattle.lerc_decode.proofs.Fields.{fields_err}
use Rattle.lerc_decode.proofs.blob.front.header_at.Goals as goal

pub returns-clause-fault : goal.returns-clause-fault
returns-clause-fault c = fields_err c.args.version c.args.bytes.now c.read_header.result c.requires.long c.requires.key c.requires.version c.read_header.ensures.fault
