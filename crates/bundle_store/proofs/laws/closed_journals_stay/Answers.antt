use Rattle.bundle_store.proofs.Ways.{closed_stays}
use Rattle.bundle_store.proofs.laws.closed_journals_stay.Goals as goal

pub returns : goal.returns
returns c = closed_stays
