-- A bundle that is open to be audited.
use Rattle.std.specs.Prelude.{◌≡◌, ℕ, Bool, IsTrue, length}
use Rattle.outside_io.specs.declared.volume.VolFile.TheVariants.{Bundle}
use Rattle.outside_io.specs.volume.History.{History, contents}
use Rattle.bundle_store.specs.Serving.{Serving}
use Rattle.bundle_store.specs.Session.{SessionState}

-- The session is not stopped, and where the volume tells its bundle, it can serve it, and the bundle
-- has so many bytes.
pub record Served {V : Type 0} (tells : V → Bool) (history : V → History) (s : SessionState)
    (size : ℕ) (vol : V) : Type 0 where
  pub serving : Serving tells history s vol
  pub size_is : IsTrue (tells vol) → size ≡ length (contents Bundle (history vol))
