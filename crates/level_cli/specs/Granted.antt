-- Where nothing refuses what a command asks for.
use Rattle.std.specs.Prelude.{ℕ, List, length, Bool, Option}
use Rattle.outside_io.specs.volume.History.{History}
use Rattle.bundle_store.specs.declared.fault.StoreFault.{StoreFault}
use Rattle.bundle_store.specs.declared.fault.StoreFault.TheVariants.{Device, OutOfMemory}
use Rattle.grid_blobs.specs.declared.stop.InputFault.{InputFault}
use Rattle.grid_blobs.specs.declared.stop.InputStop.TheVariants.{Fault}
use Rattle.grid_blobs.specs.Blobs.{AreBlobsOf}
use Rattle.grid_blobs.specs.Stops.{IsStopOf}
use Rattle.level_cache.specs.Calls.{GetRefusal, GetRefuses, PutRefusal, PutRefuses, files_in}
use Rattle.level_cache.specs.Places.{Corner, base_of, slot_of}
use Rattle.level_cache.specs.Shelf.{Hands}
use Rattle.level_cli.specs.declared.words.Command.{Command}
use Rattle.level_cli.specs.declared.words.Command.TheVariants.{Put, Get, Name}

-- a refusal of the store that has a name: neither a volume that failed nor want of memory
abbrev pub IsNamed : StoreFault → Type 0
IsNamed Device = ⊥
IsNamed OutOfMemory = ⊥
IsNamed _ = Unit {0}

-- no named refusal holds of a put of so many bytes beside what is read of the files
abbrev pub MayPut : ℕ → History → Type 0
MayPut size h = (fault : StoreFault) → IsNamed fault → PutRefusal size fault
    → ¬ PutRefuses (files_in h) fault

-- none holds of a get of the slot
abbrev pub MayGet : ℕ → History → Type 0
MayGet slot h = (fault : StoreFault) → IsNamed fault → GetRefusal fault
    → ¬ GetRefuses (files_in h) slot fault

-- It holds of whatever the shelf hands out for the place: the volume that it has there, else a new
-- one.
abbrev pub OfHanded : {V : Type 0} → (V → Bool) → (V → History) → (V → ℕ) → (Corner → Option V)
    → Corner → (History → Type 0) → Type 0
OfHanded {V} told history faults volumes place P =
    (vol : V) → Hands told history faults (volumes (base_of place)) vol → P (history vol)

-- Nothing refuses the command: the input is one grid that the version has a place for, and the
-- store names no refusal at the place.
abbrev pub IsGranted : {V : Type 0} → (V → Bool) → (V → History) → (V → ℕ) → (Corner → Option V)
    → Option (List ℕ) → Command → Type 0
IsGranted {V} told history faults volumes input (Put version error place) =
    ((fault : InputFault) → ¬ IsStopOf version input (Fault fault))
    × ((tile : List ℕ) → AreBlobsOf version error input tile
    → OfHanded told history faults volumes place (MayPut (length tile)))
IsGranted {V} told history faults volumes input (Get place) =
    OfHanded told history faults volumes place (MayGet (slot_of place))
IsGranted {V} told history faults volumes input (Name place) = Unit {0}
