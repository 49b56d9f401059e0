-- How a call that gives lines ends, and what the output then has gained. Where a bundle is named
-- it is one whose volume tells its contents; a volume that tells nothing leaves it unsaid.
use Rattle.std.specs.Prelude.{◌≡◌, ℕ, ◌*◌, ◌<◌, ◌≤◌, List, length, take, Option, Bool, IsTrue, Result, Ok, Err}
use Rattle.outside_io.specs.declared.Failed.{Failed}
use Rattle.outside_io.specs.streams.Sink.{Holds, HoldsPrefix}
use Rattle.bundle_index.specs.Sizes.{slot_count}
use Rattle.bundle_store.specs.declared.check.CheckReport.{CheckReport}
use Rattle.bundle_store.specs.declared.tile_rec.TileRec.{TileRec}
use Rattle.bundle_store.specs.Check.{Reports}
use Rattle.bundle_lines.specs.declared.stop.LineStop.{LineStop}
use Rattle.bundle_lines.specs.declared.stop.LineStop.TheVariants.{Output, Volume}
use Rattle.bundle_lines.specs.declared.stop.PutStop.{PutStop}
use Rattle.bundle_lines.specs.declared.stop.PutStop.TheVariants.{Output as PutOutput, Volume as PutVolume, Full}
use Rattle.bundle_lines.specs.Lines.{check_lines, listing, put_lines}

abbrev pub LineEnd : Type 0
LineEnd = Result (Unit {0}) LineStop

abbrev pub PutEnd : Type 0
PutEnd = Result (Unit {0}) PutStop

-- ---- puts

-- Of these updates n have a mark: all where all went well, and all their lines were given; else the
-- lines of these n, or where the output failed a prefix of them.
abbrev pub PutGave : PutEnd → List TileRec → ℕ → Option (List ℕ) → Option (List ℕ) → Type 0
PutGave (Ok x) updates n old new = (n ≡ length updates) × Holds old new (put_lines updates)
PutGave (Err PutOutput) updates n old new =
    (0 < n) × (n ≤ length updates) × HoldsPrefix old new (put_lines (take n updates))
PutGave (Err PutVolume) updates n old new =
    (n < length updates) × Holds old new (put_lines (take n updates))
PutGave (Err (Full len)) updates n old new =
    (n < length updates) × Holds old new (put_lines (take n updates))

-- unless the volume failed
abbrev pub UnlessVolume : PutEnd → Type 0 → Type 0
UnlessVolume (Ok x) P = P
UnlessVolume (Err PutOutput) P = P
UnlessVolume (Err PutVolume) P = Unit {0}
UnlessVolume (Err (Full len)) P = P

-- ---- a listing

-- where the volume tells its bundle, these are the lines of the slots of the first k rows
abbrev pub IsListing : Bool → List ℕ → ℕ → List ℕ → Type 0
IsListing told bundle k lines = IsTrue told → lines ≡ listing bundle (128 * k)

-- The lines of all slots; where the output failed, a prefix of those of some rows.
abbrev pub ListGave : Bool → List ℕ → Result (Unit {0}) Failed → Option (List ℕ) → Option (List ℕ)
    → Type 0
ListGave told bundle (Ok x) old new =
    (lines : List ℕ) × (IsListing told bundle 128 lines × Holds old new lines)
ListGave told bundle (Err e) old new =
    (k : ℕ) × ((k ≤ 128) × ((lines : List ℕ)
    × (IsListing told bundle k lines × HoldsPrefix old new lines)))

-- ---- a check

-- where the volume tells its bundle, the report is that of all slots
abbrev pub IsReport : Bool → List ℕ → CheckReport → Type 0
IsReport told bundle report = IsTrue told → Reports bundle slot_count report

-- The lines of the report, and where the output failed a prefix of them. Where the volume failed,
-- the first type holds: the output is as it was.
abbrev pub CheckGave : Bool → List ℕ → LineEnd → Type 0 → Option (List ℕ) → Option (List ℕ) → Type 0
CheckGave told bundle (Ok x) same old new =
    (report : CheckReport) × (IsReport told bundle report × Holds old new (check_lines report))
CheckGave told bundle (Err Volume) same old new = same
CheckGave told bundle (Err Output) same old new =
    (report : CheckReport)
    × (IsReport told bundle report × HoldsPrefix old new (check_lines report))
