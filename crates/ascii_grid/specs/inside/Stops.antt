-- What a read of a byte at the limit says.
use Rattle.std.specs.Prelude.{◌≡◌, ◌≢◌, ℕ, List, []}
use Rattle.ascii_grid.specs.declared.fault.AsciiStop.{AsciiStop}
use Rattle.ascii_grid.specs.declared.fault.AsciiStop.TheVariants.{Fault, Source, OutOfMemory}
use Rattle.ascii_grid.specs.declared.fault.AsciiFault.{AsciiFault}
use Rattle.ascii_grid.specs.declared.fault.AsciiReason.TheVariants.{TooLong}
use Rattle.ascii_grid.specs.Tokens.{limit}

-- the fault of a byte at the limit
abbrev pub too_long : AsciiFault
too_long = record { reason = TooLong; place = limit }

-- a fault is that of a byte at the limit
abbrev pub IsTooLong : AsciiStop → Type 0 → List ℕ → Type 0
IsTooLong (Fault f) at bytes = (f ≡ too_long) × (at × (bytes ≢ []))
IsTooLong Source at bytes = Unit {0}
IsTooLong OutOfMemory at bytes = ⊥
