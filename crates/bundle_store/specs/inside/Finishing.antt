-- What a recovery does with files on which nothing is pending.
use Rattle.std.specs.Prelude.{◌≡◌, Bool, IsTrue, IfErr, IfOk, OnOk, Result}
use Rattle.outside_io.specs.declared.volume.VolFile.TheVariants.{Bundle, Journal}
use Rattle.outside_io.specs.volume.History.{History, contents, current}
use Rattle.bundle_store.specs.declared.fault.StoreFault.{StoreFault}
use Rattle.bundle_store.specs.declared.recovery.Recovery.{Recovery}
use Rattle.bundle_store.specs.Recover.{IsRecovered, Leaves, LeavesJournal, OnBadJournal, OnClosed, RecoverFails, RecoverySays}

-- What it answers says of both files which they are; it makes them whole, and what it leaves of
-- both files is what the answer says. A journal that it refuses, or that does not count, it leaves
-- as it is, beside the bundle as it is.
pub record Finishes {V : Type 0} (tells : V → Bool) (history : V → History)
    (result : Result Recovery StoreFault) (old new : V) : Type 0 where
  pub says : IsTrue (tells old) →
      RecoverySays (contents Bundle (history old)) (contents Journal (history old)) result
  pub done : IsTrue (tells old) → OnOk result (IsRecovered (contents Bundle (history old))
      (contents Journal (history old)) (current (history new)))
  pub leaves : IsTrue (tells old) → IfOk result (λ r. Leaves (contents Bundle (history old))
      (contents Journal (history old)) r (contents Bundle (history new)))
  pub journal : IsTrue (tells old) → IfOk result (λ r. LeavesJournal
      (contents Journal (history old)) r (contents Journal (history new)))
  pub closed : IsTrue (tells old) →
      OnClosed result (current (history new) ≡ current (history old))
  pub refused : IsTrue (tells old) →
      OnBadJournal result (current (history new) ≡ current (history old))
  pub answers : IfErr result (λ f. RecoverFails f)
