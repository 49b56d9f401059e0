use Rattle.bundle_index.proofs.HeaderFields.{fresh_fields}
use Rattle.bundle_index.proofs.laws.fresh_headers_have_their_fields.Goals as goal

pub returns : goal.returns
returns c = λ greatest size small fits. fresh_fields greatest size small fits
