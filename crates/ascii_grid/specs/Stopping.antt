-- What a read that stops says.
use Rattle.std.specs.Prelude.{◌≡◌, ℕ, ◌≤◌, Result, Ok, Err}
use Rattle.outside_io.specs.streams.Faults.{FailedBetween}
use Rattle.ascii_grid.specs.declared.fault.AsciiStop.{AsciiStop}
use Rattle.ascii_grid.specs.declared.fault.AsciiStop.TheVariants.{Fault, Source, OutOfMemory}

-- a read answers Source only where the source failed in it, and otherwise leaves the count
abbrev pub CountsStop : {X : Type 0} → Result X AsciiStop → ℕ → ℕ → Type 0
CountsStop (Ok x) old new = new ≡ old
CountsStop (Err (Fault f)) old new = new ≡ old
CountsStop (Err Source) old new = (old ≤ new) × FailedBetween old new
CountsStop (Err OutOfMemory) old new = new ≡ old
