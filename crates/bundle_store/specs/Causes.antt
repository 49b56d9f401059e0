-- The causes of the store's faults.
use Rattle.std.specs.Prelude.{◌≡◌, ℕ, ◌≤◌, Result, Ok, Err}
use Rattle.outside_io.specs.streams.Faults.{FailedBetween}
use Rattle.bundle_store.specs.declared.fault.StoreFault.{StoreFault}
use Rattle.bundle_store.specs.declared.fault.StoreFault.TheVariants.{Device}

-- Device comes only where the volume failed in the call; after any other answer its count is as it
-- was.
abbrev pub FaultFrom : StoreFault → ℕ → ℕ → Type 0
FaultFrom Device old new = (old ≤ new) × FailedBetween old new
FaultFrom _ old new = new ≡ old

abbrev pub CountsDevice : {X : Type 0} → Result X StoreFault → ℕ → ℕ → Type 0
CountsDevice (Ok x) old new = new ≡ old
CountsDevice (Err e) old new = FaultFrom e old new

-- where a call refuses for another cause than Device
abbrev pub OnCause : StoreFault → Type 0 → Type 0
OnCause Device P = Unit {0}
OnCause _ P = P

abbrev pub OnRefusal : {X : Type 0} → Result X StoreFault → Type 0 → Type 0
OnRefusal (Ok x) P = Unit {0}
OnRefusal (Err e) P = OnCause e P

-- after every answer but Device
abbrev pub UnlessDevice : {X : Type 0} → Result X StoreFault → Type 0 → Type 0
UnlessDevice (Ok x) P = P
UnlessDevice (Err e) P = OnCause e P
