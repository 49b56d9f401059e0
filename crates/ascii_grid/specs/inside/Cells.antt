-- What the reader of numbers leaves.
use Rattle.std.specs.Prelude.{◌≡◌, ℕ, ℤ, ◌-◌, ◌*◌, ◌≤◌, List, [], ◌∷◌, ◌++◌, length, replicate, Option, None, Result, Ok, Err, All}
use Rattle.raster_values.specs.Raster.{Pixels}
use Rattle.ascii_grid.specs.declared.fault.AsciiStop.{AsciiStop}
use Rattle.ascii_grid.specs.declared.fault.AsciiStop.TheVariants.{Fault, Source, OutOfMemory}
use Rattle.ascii_grid.specs.Tokens.{TokenAt, limit}
use Rattle.ascii_grid.specs.Canon.{IsApart}
use Rattle.ascii_grid.specs.Text.{AreCells, IsCell, NumberFaults, cell_faults}

-- the raster has these first pixels, and no other valid ones
pub record Begun (blank now : Pixels) (cells : List (Option (List ℤ))) : Type 0 where
  pub same : now ≡ record blank { pixels = now.pixels }
  pub pixels : now.pixels ≡ cells ++ replicate (blank.rows * blank.cols - length cells) None

-- so many first pixels, no value of which is nodata, whatever the source tells
abbrev pub IsFairSoFar : Pixels → Pixels → ℤ → ℕ → Type 0
IsFairSoFar blank now nodata k = (cells : List (Option (List ℤ))) × ((length cells ≡ k)
    × (Begun blank now cells × All (IsApart nodata) cells))

-- a cell more, or what is wrong with it
abbrev pub CellTaken : Result Unit AsciiStop → ℤ → TokenAt → Pixels → Pixels → ℕ → Type 0
CellTaken (Ok u) nodata t old new k = (p : Option (List ℤ)) × (IsCell old.kind nodata t.bytes p
    × ((blank : Pixels) (cells : List (Option (List ℤ))) → length cells ≡ k → Begun blank old cells
    → Begun blank new (cells ++ p ∷ [])))
CellTaken (Err (Fault f)) nodata t old new k = cell_faults old.kind nodata t f.place f.reason
CellTaken (Err Source) nodata t old new k = ⊥
CellTaken (Err OutOfMemory) nodata t old new k = ⊥

-- every number was taken
abbrev pub CellsTaken : Result Unit AsciiStop → ℕ → ℤ → List TokenAt → Pixels → Pixels → Type 0
CellsTaken (Ok u) total nodata tokens old new = (total ≤ limit)
    × ((length tokens ≡ old.rows * old.cols) × (AreCells old.kind nodata tokens new.pixels
    × (new ≡ record old { pixels = new.pixels })))
CellsTaken (Err (Fault f)) total nodata tokens old new =
    NumberFaults total old.kind nodata (old.rows * old.cols) tokens f.place f.reason
CellsTaken (Err Source) total nodata tokens old new = Unit {0}
CellsTaken (Err OutOfMemory) total nodata tokens old new = ⊥
