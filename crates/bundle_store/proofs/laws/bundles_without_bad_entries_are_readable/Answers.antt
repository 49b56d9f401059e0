use Rattle.bundle_store.proofs.Counting.{good_is_readable}
use Rattle.bundle_store.proofs.laws.bundles_without_bad_entries_are_readable.Goals as goal

pub returns : goal.returns
returns c = λ bundle opens none. good_is_readable bundle opens none
