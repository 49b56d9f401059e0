-- What the readers of the fields of an `LGA1` leave.
use Rattle.std.specs.Prelude.{◌≡◌, ℕ, ◌≤◌, List, length, Option, None, Some}
use Rattle.first_fault.specs.Faults.{Faults, moved, none, unless}
use Rattle.raster_grids.specs.Taken.{TookBytes}
use Rattle.ascii_grid.specs.declared.fault.AsciiReason.{AsciiReason}
use Rattle.ascii_grid.specs.declared.fault.AsciiStop.{AsciiStop}
use Rattle.ascii_grid.specs.declared.fault.AsciiStop.TheVariants.{Fault, Source, OutOfMemory}
use Rattle.ascii_grid.specs.declared.fault.AsciiReason.TheVariants.{Grid}
use Rattle.raster_grids.specs.declared.reading.GridStop.{GridStop}
use Rattle.raster_grids.specs.declared.reading.GridStop.TheVariants.{Fault as GridFaultOf, Source as GridSource, OutOfMemory as GridMemory}
use Rattle.ascii_grid.specs.Lga.{cut}

-- of the bytes left, where they are told, this is what is wrong first, places counting from `at`
abbrev pub Tells : (List ℕ → Faults AsciiReason) → Option (List ℕ) → ℕ → AsciiStop → Type 0
Tells faults None at stop = Unit {0}
Tells faults (Some left) at (Fault f) = moved at (faults left) f.place f.reason
Tells faults (Some left) at Source = Unit {0}
Tells faults (Some left) at OutOfMemory = Unit {0}

-- a part of this value was taken
abbrev pub TookPart : {X : Type 0} → (List ℕ → X → Type 0) → Option (List ℕ) → Option (List ℕ) → X
    → Type 0
TookPart part old new x = (bytes : List ℕ) × (part bytes x × TookBytes old new bytes)

-- fewer than n bytes are left
abbrev pub short_faults : ℕ → List ℕ → Faults AsciiReason
short_faults n bytes = unless (n ≤ length bytes) (cut bytes) none

-- a field of n bytes was taken whole
abbrev pub TookField : ℕ → Option (List ℕ) → Option (List ℕ) → List ℕ → Type 0
TookField n old new bytes = (length bytes ≡ n) × TookBytes old new bytes

-- a stop of the grid's reader, as one of this file's
abbrev pub grid_stop_of : GridStop → AsciiStop
grid_stop_of (GridFaultOf f) = Fault (record { reason = Grid f.reason; place = f.place })
grid_stop_of GridSource = Source
grid_stop_of GridMemory = OutOfMemory
