use Rattle.bundle_index.proofs.Headers.{after_has}
use Rattle.bundle_index.proofs.laws.headers_after_a_put_pass.Goals as goal

pub returns : goal.returns
returns c = λ header old size long is has. after_has header old size long is has
