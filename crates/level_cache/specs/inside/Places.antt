-- The places of a shelf in memory, of which each has a volume, a new one or that of a base.
use Rattle.std.specs.Prelude.{◌≡◌, ◌⊎◌, ℕ, ◌+◌, ◌-◌, ◌^◌, ◌<◌, List, [], ◌∷◌, ◌++◌, length, true, false, Option, None, Some, IsSome, IsSomeAnd}
use Rattle.outside_io.specs.volume.Recorded.{Recorded, history_of}
use Rattle.level_cache.specs.declared.memory.Kept.{Kept}
use Rattle.level_cache.specs.declared.memory.Lent.{Lent}
use Rattle.level_cache.specs.declared.memory.MemShelf.TheInside.{Inside}
use Rattle.level_cache.specs.Memory.{IsSpare, MemState, is_base, spare_of, used_for, volume_of}
use Rattle.level_cache.specs.Places.{Corner}
use Rattle.level_cache.specs.Shelf.{Hands, SameBeside, Taken}

-- a list, cut at one of its places
pub record Cut (ks : List Kept) (at : ℕ) : Type 0 where
  pub before : List Kept
  pub here : Kept
  pub behind : List Kept
  pub joined : ks ≡ before ++ (here ∷ behind)
  pub many : length before ≡ at

-- none is the place of the base
abbrev pub AreNot : Corner → List Kept → Type 0
AreNot base [] = Unit {0}
AreNot base (k ∷ ks) = (is_base base k.base ≡ false) × AreNot base ks

-- the first place of a base
pub record FirstOf (base : Corner) (ks : List Kept) (at : ℕ) : Type 0 where
  pub cut : Cut ks at
  pub not_before : AreNot base cut.before
  pub is : is_base base cut.here.base ≡ true

-- the first place that has no base
pub record FirstSpare (ks : List Kept) (at : ℕ) : Type 0 where
  pub cut : Cut ks at
  pub is : cut.here.base ≡ None

-- each place has its volume
abbrev pub HaveVolumes : List Kept → Type 0
HaveVolumes [] = Unit {0}
HaveVolumes (k ∷ ks) = IsSome k.vol × HaveVolumes ks

-- a place without a base has a new volume
abbrev pub SparesAreNew : List Kept → Type 0
SparesAreNew [] = Unit {0}
SparesAreNew (k ∷ ks) = (k.base ≡ None → IsSomeAnd k.vol IsSpare) × SparesAreNew ks

-- which volume is out, and that no other is
pub record IsLent (ks : List Kept) (lent : Lent) : Type 0 where
  pub first : FirstOf lent.base ks lent.at
  pub gone : first.cut.here.vol ≡ None
  pub before : HaveVolumes first.cut.before
  pub behind : HaveVolumes first.cut.behind

abbrev pub Lending : List Kept → Option Lent → Type 0
Lending ks None = HaveVolumes ks
Lending ks (Some lent) = IsLent ks lent

abbrev pub taken_of : Option Lent → Option Taken
taken_of None = None
taken_of (Some lent) = Some (record { base = lent.base; faults = lent.faults })

abbrev pub state_of : Inside → MemState
state_of s = record {
  places = s.places.items;
  failing = s.failing.items;
  call = s.call;
  out = taken_of s.lent;
  faults = s.faults;
  volume_faults = s.volume_faults;
}

pub record IsShelf (s : Inside) : Type 0 where
  pub spares : SparesAreNew s.places.items
  pub lending : Lending s.places.items s.lent

-- a place
abbrev pub held : Option Corner → Option Recorded → Kept
held base vol = record { base = base; vol = vol }

-- what stood at one place was lent to a base
abbrev pub LendsAt : ℕ → Corner → List Kept → List Kept → Option Recorded → Type 0
LendsAt at base old new vol = (c : Cut old at) → (c.here.vol ≡ vol)
    × (new ≡ c.before ++ (held (Some base) None ∷ c.behind))

-- a place has this volume now
abbrev pub PutsBackAt : ℕ → List Kept → List Kept → Recorded → Type 0
PutsBackAt at old new vol = (c : Cut old at)
    → new ≡ c.before ++ (held c.here.base (Some vol) ∷ c.behind)

-- the volume of a base can be lent: that of its place, or a new one
abbrev pub IsReady : Corner → List Kept → ℕ → Type 0
IsReady base ks at =
    ((f : FirstOf base ks at) × IsSomeAnd f.cut.here.vol (λ v. v.faults < 2 ^ 64 - 1))
    ⊎ (AreNot base ks × FirstSpare ks at)

-- it can not
abbrev pub NoneIsLeft : Corner → List Kept → Type 0
NoneIsLeft base ks = ((volume_of ks base ≡ None) × (spare_of ks ≡ 0))
    ⊎ IsSomeAnd (volume_of ks base) (λ v. v.faults ≡ 2 ^ 64 - 1)

-- the volume of a base was taken, a new one where it had none
pub record Takes (base : Corner) (old new : List Kept) (lent : Lent) (vol : Recorded) : Type 0 where
  pub base_is : lent.base ≡ base
  pub faults_is : lent.faults ≡ vol.faults
  pub room : vol.faults < 2 ^ 64 - 1
  pub hands : Hands (λ _. true) history_of (λ v. v.faults) (volume_of old base) vol
  pub beside : SameBeside base (volume_of old) (volume_of new)
  pub gone : volume_of new base ≡ None
  pub spares : SparesAreNew new
  pub lending : IsLent new lent
  pub spare : spare_of new + used_for (volume_of old base) ≡ spare_of old
