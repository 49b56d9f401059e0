-- A session and the volume on which it was opened.
use Rattle.std.specs.Prelude.{◌≡◌, Bool, false, IsTrue}
use Rattle.outside_io.specs.declared.volume.VolFile.TheVariants.{Bundle}
use Rattle.outside_io.specs.volume.History.{History, contents, current}
use Rattle.bundle_store.specs.Session.{IsReadyToPut, Serves, SessionState}

-- The session is not stopped, and where the volume tells its bundle, it can serve it.
pub record Serving {V : Type 0} (tells : V → Bool) (history : V → History) (s : SessionState)
    (vol : V) : Type 0 where
  pub running : s.stopped ≡ false
  pub serves : IsTrue (tells vol) → Serves s (contents Bundle (history vol))

-- The session is not stopped, and where the volume tells its files, it can put.
pub record ServingPuts {V : Type 0} (tells : V → Bool) (history : V → History) (s : SessionState)
    (vol : V) : Type 0 where
  pub running : s.stopped ≡ false
  pub ready : IsTrue (tells vol) → IsReadyToPut s (current (history vol))
