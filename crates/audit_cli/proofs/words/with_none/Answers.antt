use Rattle.std.proofs.Common.{[], false, refl}
use Rattle.audit_cli.proofs.Spelled.{spelled_as}
use Rattle.audit_cli.proofs.words.with_none.Goals as goal

pub returns : goal.returns
returns c = spelled_as c.args.name.now c.args.workers.now false false [] c.named.result refl c.named.ensures
