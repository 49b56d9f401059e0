use Rattle.bundle_store.proofs.Fresh.{layout_nothing}
use Rattle.bundle_store.proofs.laws.the_bundle_of_no_tiles_is_fresh.Goals as goal

pub returns : goal.returns
returns c = layout_nothing
