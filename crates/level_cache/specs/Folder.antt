-- A shelf of files of the machine.
use Rattle.std.specs.Prelude.{ℕ, Option, None, Some}
use Rattle.outside_io.specs.volume.Blind.{Blind}
use Rattle.level_cache.specs.Places.{Corner}
use Rattle.level_cache.specs.Shelf.{Taken}

-- all that contracts see of it
pub record FileState : Type 0 where
  pub out : Option Taken
  pub faults : ℕ
  pub volume_faults : ℕ
  -- the volume that was given back last
  pub last : Option Blind

-- as it is made
abbrev pub unused_shelf : FileState
unused_shelf = record { out = None; faults = 0; volume_faults = 0; last = None }

-- each volume is new as it is taken
abbrev pub taken_new : Option Corner → Option Taken
taken_new None = None
taken_new (Some base) = Some (record { base = base; faults = 0 })
