use Rattle.bundle_index.proofs.HeaderFields.{after_fields}
use Rattle.bundle_index.proofs.laws.headers_after_a_put_have_their_fields.Goals as goal

pub returns : goal.returns
returns c = λ header old size long is most small fits. after_fields header old size long is most small fits
