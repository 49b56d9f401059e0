-- What the calls of a shelf leave.
use Rattle.std.specs.Prelude.{◌≡◌, ◌≢◌, ◌⊎◌, ℕ, ◌^◌, ◌-◌, ◌<◌, ◌≤◌, [], Bool, IsTrue, Option, None, Some}
use Rattle.outside_io.specs.volume.Disk.{Disk, settled}
use Rattle.outside_io.specs.volume.History.{History, current}
use Rattle.level_cache.specs.Places.{Corner}

-- a base whose volume is out, and the count of faults that this volume had as it was taken
pub record Taken : Type 0 where
  pub base : Corner
  pub faults : ℕ

-- two files of length 0, of which nothing is pending
abbrev pub empty_disk : Disk
empty_disk = record { bundle = settled []; journal = settled [] }

-- a volume of which nothing was ever asked, with two empty files, which it tells
pub record IsNew (told : Bool) (h : History) (faults : ℕ) : Type 0 where
  pub tells : IsTrue told
  pub disk : current h ≡ empty_disk
  pub moment : h.moment ≡ 0
  pub faults_none : faults ≡ 0

-- the volume that stood there, or a new one where none did
abbrev pub Hands : {V : Type 0} → (V → Bool) → (V → History) → (V → ℕ) → Option V → V → Type 0
Hands told history faults (Some stood) vol = vol ≡ stood
Hands told history faults None vol = IsNew (told vol) (history vol) (faults vol)

-- every other base has what it had
abbrev pub SameBeside : {V : Type 0} → Corner → (Corner → Option V) → (Corner → Option V) → Type 0
SameBeside base old new = (other : Corner) → other ≢ base → new other ≡ old other

-- this base's volume is out, and had no more faults as it was taken
abbrev pub IsOut : Option Taken → Corner → ℕ → Type 0
IsOut None base faults = ⊥
IsOut (Some taken) base faults = (taken.base ≡ base) × (taken.faults ≤ faults)

-- the volume stands in its place, and no other has changed
pub record PutsBack {V : Type 0} (base : Corner) (vol : V) (old new : Corner → Option V) : Type 0
  where
    pub there : new base ≡ Some vol
    pub beside : SameBeside base old new

-- The second count rises exactly where the volume's own rose since it was taken, and stays at its
-- greatest.
pub record RisesWhere (rose : Type 0) (old new : ℕ) : Type 0 where
  pub rises : rose → (old < new) ⊎ ((old ≡ 2 ^ 64 - 1) × (new ≡ old))
  pub stays : (rose → ⊥) → new ≡ old

abbrev pub RaisesSecond : Option Taken → ℕ → ℕ → ℕ → Type 0
RaisesSecond None faults old new = new ≡ old
RaisesSecond (Some taken) faults old new = RisesWhere (taken.faults < faults) old new
