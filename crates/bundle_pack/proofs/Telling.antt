-- How the faults of the store are told: want of memory as such, and each other one as the source's or
-- the target's.
use Rattle.std.proofs.Common.{ℕ, None}
use Rattle.outside_io.specs.streams.Faults.{IsCause}
use Rattle.bundle_store.specs.declared.fault.StoreFault.{StoreFault}
use Rattle.bundle_store.specs.declared.fault.StoreFault.TheVariants.{Device, BadBundle, BadJournal, NoTile, Beyond, TileTooLarge, EmptyTile, Full, NotEmpty, OutOfMemory as StoreMemory, Stopped}
use Rattle.bundle_pack.specs.Refusals.{source_fault_of, target_fault_of}
use Rattle.bundle_pack.specs.declared.fault.PackFault.{PackFault}
use Rattle.bundle_pack.specs.declared.fault.PackFault.TheVariants.{Source, Target, OutOfMemory}

pub by_source : (at : ℕ) (P : StoreFault → PackFault → Type 0) → P StoreMemory OutOfMemory → ((f : StoreFault) → P f (Source at None f)) → (f : StoreFault) → P f (source_fault_of at f)
by_source at P memory other Device = other Device
by_source at P memory other (BadBundle place found) = other (BadBundle place found)
by_source at P memory other (BadJournal place found) = other (BadJournal place found)
by_source at P memory other NoTile = other NoTile
by_source at P memory other (Beyond entry got) = other (Beyond entry got)
by_source at P memory other (TileTooLarge place len) = other (TileTooLarge place len)
by_source at P memory other (EmptyTile place) = other (EmptyTile place)
by_source at P memory other (Full len) = other (Full len)
by_source at P memory other (NotEmpty len) = other (NotEmpty len)
by_source at P memory other StoreMemory = memory
by_source at P memory other Stopped = other Stopped

pub by_target : (P : StoreFault → PackFault → Type 0) → P StoreMemory OutOfMemory → ((f : StoreFault) → P f (Target f)) → (f : StoreFault) → P f (target_fault_of f)
by_target P memory other Device = other Device
by_target P memory other (BadBundle place found) = other (BadBundle place found)
by_target P memory other (BadJournal place found) = other (BadJournal place found)
by_target P memory other NoTile = other NoTile
by_target P memory other (Beyond entry got) = other (Beyond entry got)
by_target P memory other (TileTooLarge place len) = other (TileTooLarge place len)
by_target P memory other (EmptyTile place) = other (EmptyTile place)
by_target P memory other (Full len) = other (Full len)
by_target P memory other (NotEmpty len) = other (NotEmpty len)
by_target P memory other StoreMemory = memory
by_target P memory other Stopped = other Stopped

-- ---- causes that are told in other words

pub cause_map : (P Q : Type 0) (old new : ℕ) → (P → Q) → (Q → P) → IsCause P old new → IsCause Q old new
cause_map P Q old new to from c = record { counts = c.counts; failed = λ q. c.failed (from q); rose = λ more. to (c.rose more) }
