use Rattle.bundle_index.proofs.Headers.{fresh_has}
use Rattle.bundle_index.proofs.laws.fresh_headers_pass.Goals as goal

pub returns : goal.returns
returns c = λ greatest size rest. fresh_has greatest size rest
