-- What contracts see of a rough volume.
use Rattle.std.specs.Prelude.{ℕ}
use Rattle.outside_io.specs.volume.History.{History}
use Rattle.outside_io.specs.volume.Recorded.{Recorded, history_of}

-- the volume in memory that it keeps, and how often a call has failed
pub record RoughState : Type 0 where
  pub inner : Recorded
  pub faults : ℕ

-- its files are those of the volume that it keeps
abbrev pub rough_history : RoughState → History
rough_history r = history_of r.inner
