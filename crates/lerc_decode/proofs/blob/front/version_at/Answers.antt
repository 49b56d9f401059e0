use Rattle.std.proofs.Common.{take}
use Rattle.lerc_decode.proofs.Fields.{version_err}
use Rattle.lerc_decode.proofs.blob.front.version_at.Goals as goal

pub returns-clause-fault : goal.returns-clause-fault
returns-clause-fault c = version_err (take 10 c.args.bytes.now) c.read_version.result c.read_version.ensures.fault
