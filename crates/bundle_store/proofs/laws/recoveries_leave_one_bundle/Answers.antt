use Rattle.bundle_store.proofs.OneRecovery.{one_left}
use Rattle.bundle_store.proofs.laws.recoveries_leave_one_bundle.Goals as goal

pub returns : goal.returns
returns c = λ bundle journal one two left other first second. one_left bundle journal one two left other first second
