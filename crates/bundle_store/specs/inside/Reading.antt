-- Why the bytes of one tile are not read.
use Rattle.std.specs.Prelude.{◌<◌}
use Rattle.bundle_store.specs.declared.fault.StoreFault.{StoreFault}
use Rattle.bundle_store.specs.declared.fault.StoreFault.TheVariants.{Device, Beyond, OutOfMemory}

-- the refusals of a read, of whatever volume
abbrev pub ReadFails : StoreFault → Type 0
ReadFails Device = Unit {0}
ReadFails (Beyond entry got) = got < entry.size
ReadFails OutOfMemory = Unit {0}
ReadFails _ = ⊥
