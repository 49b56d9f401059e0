-- Why packing refuses, by the faults of the store, and which numbers a refusal keeps.
use Rattle.std.specs.Prelude.{ℕ, ◌<◌, Some, None}
use Rattle.bundle_index.specs.Sizes.{slot_count}
use Rattle.bundle_store.specs.declared.fault.StoreFault.{StoreFault}
use Rattle.bundle_store.specs.declared.fault.StoreFault.TheVariants as store
use Rattle.bundle_pack.specs.Chosen.{most_bytes}
use Rattle.bundle_pack.specs.Opening.{OpeningFails}
use Rattle.bundle_pack.specs.declared.fault.PackFault.{PackFault}
use Rattle.bundle_pack.specs.declared.fault.PackFault.TheVariants.{Source, Target, KeptTooMuch, OutOfMemory}

abbrev pub source_fault_of : ℕ → StoreFault → PackFault
source_fault_of at store.OutOfMemory = OutOfMemory
source_fault_of at fault = Source at None fault

abbrev pub tile_fault_of : ℕ → ℕ → StoreFault → PackFault
tile_fault_of at slot store.OutOfMemory = OutOfMemory
tile_fault_of at slot (store.Beyond entry got) = Source at (Some slot) (store.Beyond entry got)
tile_fault_of at slot fault = Source at None fault

abbrev pub target_fault_of : StoreFault → PackFault
target_fault_of store.OutOfMemory = OutOfMemory
target_fault_of fault = Target fault

-- why a source is not opened, of so many
abbrev pub OpeningAnswers : ℕ → PackFault → Type 0
OpeningAnswers count OutOfMemory = Unit {0}
OpeningAnswers count (Source at None fault) = (at < count) × OpeningFails fault
OpeningAnswers count _ = ⊥

-- a tile names more bytes than there are
abbrev pub NamesMore : StoreFault → Type 0
NamesMore (store.Beyond entry got) = got < entry.size
NamesMore _ = ⊥

-- The kept numbers of a refusal fail the test that they name, of whatever volumes. A slot is kept
-- exactly where a tile lies beyond its bundle's end.
abbrev pub PackFails : ℕ → PackFault → Type 0
PackFails count OutOfMemory = Unit {0}
PackFails count (Source at None fault) = (at < count) × OpeningFails fault
PackFails count (Source at (Some slot) fault) = (at < count)
    × ((slot < slot_count) × NamesMore fault)
PackFails count (KeptTooMuch len) = most_bytes < len
PackFails count (Target (store.NotEmpty len)) = 0 < len
PackFails count (Target fault) = OpeningFails fault
