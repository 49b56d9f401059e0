use Rattle.bundle_store.proofs.PutLaws.{tiles_there}
use Rattle.bundle_store.proofs.laws.readable_bundles_have_their_tiles.Goals as goal

pub returns : goal.returns
returns c = λ bundle slot readable below some. tiles_there bundle slot readable below some
