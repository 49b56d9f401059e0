use Rattle.bundle_store.proofs.Recovering.{one_map}
use Rattle.bundle_store.proofs.laws.images_stand_for_one_map.Goals as goal

pub returns : goal.returns
returns c = λ bundle journal one two first second. one_map bundle journal one two first second
