-- A shelf in memory.
use Rattle.std.specs.Prelude.{◌≡◌, ◌⊎◌, ◌-◌, ◌^◌, ◌+◌, ℕ, List, [], ◌∷◌, map, Bool, true, false, Option, None, Some, IsSomeAnd, Contains, Result, OnOk, OnErr, if◌then◌else◌}
use Rattle.outside_io.specs.streams.Faults.{one_more}
use Rattle.outside_io.specs.volume.Recorded.{Recorded, history_of}
use Rattle.level_cache.specs.declared.memory.Kept.{Kept}
use Rattle.level_cache.specs.Places.{Corner, same_corner}
use Rattle.level_cache.specs.Shelf.{IsNew, Taken}

-- all that contracts see of it
pub record MemState : Type 0 where
  -- its volumes, each new, or that of a base, or out
  pub places : List Kept
  -- which calls fail, by their number
  pub failing : List ℕ
  -- the number of the next call
  pub call : ℕ
  pub out : Option Taken
  pub faults : ℕ
  pub volume_faults : ℕ

abbrev pub is_base : Corner → Option Corner → Bool
is_base base None = false
is_base base (Some own) = same_corner own base

-- the volume of a base, where it has one that is not out
abbrev pub volume_of : List Kept → Corner → Option Recorded
volume_of [] base = None
volume_of (k ∷ ks) base = if is_base base k.base then k.vol else volume_of ks base

abbrev pub one_if_none : Option Corner → ℕ
one_if_none None = 1
one_if_none (Some base) = 0

-- how many volumes are left for new bases
abbrev pub spare_of : List Kept → ℕ
spare_of [] = 0
spare_of (k ∷ ks) = one_if_none k.base + spare_of ks

-- a volume of which nothing was asked, with two empty files
abbrev pub IsSpare : Recorded → Type 0
IsSpare v = IsNew true (history_of v) v.faults

-- a volume for a new base
abbrev pub fresh : Recorded → Kept
fresh v = record { base = None; vol = Some v }

-- a shelf of which nothing was asked
abbrev pub first_state : List Recorded → List ℕ → MemState
first_state spare failing = record {
  places = map fresh spare;
  failing = failing;
  call = 0;
  out = None;
  faults = 0;
  volume_faults = 0;
}

-- A take of this base has to fail: its number was named, or no volume is left for a new base, or
-- the count of the base's volume stands at its greatest.
abbrev pub MustFailToTake : MemState → Corner → Type 0
MustFailToTake s base = Contains s.failing s.call
    ⊎ (((volume_of s.places base ≡ None) × (spare_of s.places ≡ 0))
    ⊎ IsSomeAnd (volume_of s.places base) (λ v. v.faults ≡ 2 ^ 64 - 1))

-- how many volumes a take of this base uses up
abbrev pub used_for : Option Recorded → ℕ
used_for None = 1
used_for (Some v) = 0

-- what a call does beside the volumes: it has its number, and counts where it failed
pub record Numbers {T E : Type 0} (old new : MemState) (result : Result T E) : Type 0 where
  pub call : new.call ≡ one_more old.call
  pub failing : new.failing ≡ old.failing
  pub same : OnOk result (new.faults ≡ old.faults)
  pub counted : OnErr result (new.faults ≡ one_more old.faults)
