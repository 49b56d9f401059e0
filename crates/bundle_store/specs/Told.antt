-- What a call leaves of a volume, beside its files.
use Rattle.std.specs.Prelude.{◌≡◌, ℕ, Bool, IsTrue}
use Rattle.outside_io.specs.volume.Disk.{Disk}
use Rattle.outside_io.specs.volume.History.{During, History, current}

-- The volume tells what its files hold exactly where it told that before, and its count of faults
-- is as the answer says.
pub record Told {V : Type 0} (tells : V → Bool) (faults : V → ℕ) (Counts : ℕ → ℕ → Type 0)
    (old new : V) : Type 0 where
  pub same : tells new ≡ tells old
  pub counted : Counts (faults old) (faults new)

-- The same, and it read alone: where the volume tells its files, the disk at each moment is the one
-- at the start.
pub record OnlyReads {V : Type 0} (tells : V → Bool) (history : V → History) (faults : V → ℕ)
    (Counts : ℕ → ℕ → Type 0) (old new : V) : Type 0 where
  pub same : tells new ≡ tells old
  pub counted : Counts (faults old) (faults new)
  pub during : IsTrue (tells old) →
      During (λ d. d ≡ current (history old)) (history old) (history new)

-- The same, and where the volume tells its files, the disk at each moment of the call is so, beside
-- the one at the start.
pub record Changes {V : Type 0} (tells : V → Bool) (history : V → History) (faults : V → ℕ)
    (Counts : ℕ → ℕ → Type 0) (Each : Disk → Disk → Type 0) (old new : V) : Type 0 where
  pub same : tells new ≡ tells old
  pub counted : Counts (faults old) (faults new)
  pub during : IsTrue (tells old) →
      During (Each (current (history old))) (history old) (history new)
