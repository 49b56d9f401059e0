use Rattle.bundle_store.proofs.Gathering.{gathers_more}
use Rattle.bundle_store.proofs.build.laying.gather_record.Goals as goal

pub returns-clause-done : goal.returns-clause-done
returns-clause-done g c = λ told. gathers_more _ _ _ _ _ _ (c.in_ok-next.ensures.done told) c.spell_record-count.ensures.bytes
