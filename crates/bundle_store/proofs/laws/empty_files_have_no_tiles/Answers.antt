use Rattle.bundle_store.proofs.Recovering.{tiles_empty}
use Rattle.bundle_store.proofs.laws.empty_files_have_no_tiles.Goals as goal

pub returns : goal.returns
returns c = tiles_empty
