use Rattle.bundle_store.proofs.PutLaws.{after_join}
use Rattle.bundle_store.proofs.laws.lists_of_tiles_join.Goals as goal

pub returns : goal.returns
returns c = λ map first second. after_join map first second
