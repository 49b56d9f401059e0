-- What contracts see of a shelf of rough volumes.
use Rattle.std.specs.Prelude.{ℕ, Option, None, Some}
use Rattle.level_cache.specs.Shelf.{Taken}
use Rattle.rough_volume.specs.declared.shelf.Lent.{Lent}

-- the base whose volume is out, if any, and both counts
pub record ShelfState : Type 0 where
  pub out : Option Taken
  pub faults : ℕ
  pub volume_faults : ℕ

-- as it is made
abbrev pub empty_shelf : ShelfState
empty_shelf = record { out = None; faults = 0; volume_faults = 0 }

-- what is lent
abbrev pub taken : Option Lent → Option Taken
taken None = None
taken (Some lent) = Some (record { base = lent.base; faults = lent.faults })
