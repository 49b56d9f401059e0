-- A session, its volume, and what was read of it at once.
use Rattle.std.specs.Prelude.{Bool, IsTrue}
use Rattle.outside_io.specs.declared.volume.VolFile.TheVariants.{Bundle}
use Rattle.outside_io.specs.volume.History.{History, contents}
use Rattle.bundle_store.specs.Ahead.{AheadBytes, IsAheadOf}
use Rattle.bundle_store.specs.Serving.{Serving}
use Rattle.overview_updates.specs.declared.reading.Reading.{Reading}

-- where the volume tells its bundle, these bytes are its
abbrev pub IsAhead : {V : Type 0} (tells : V → Bool) (history : V → History) → AheadBytes → V
    → Type 0
IsAhead tells history ahead vol =
    IsTrue (tells vol) → IsAheadOf (contents Bundle (history vol)) ahead

-- the session serves the bundle, and what was read at once of both kinds of rows is of it
pub record CanRead {V : Type 0} (tells : V → Bool) (history : V → History) (r : Reading) (vol : V)
    : Type 0 where
  pub serving : Serving tells history r.session.now vol
  pub upper : IsAhead tells history r.upper vol
  pub lower : IsAhead tells history r.lower vol
