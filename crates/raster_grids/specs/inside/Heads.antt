-- The heads of grids.
use Rattle.std.specs.Prelude.{[], ℕ, ◌+◌, ◌<◌, ◌≤◌, List, length, ◌∷◌, Bool, codes, if◌then◌else◌, ◌≡◌, take}
use Rattle.first_fault.specs.Faults.{Faults, none, wrong, unless, choice}
use Rattle.raster_grids.specs.declared.reading.GridReason.{GridReason}
use Rattle.raster_grids.specs.declared.reading.GridReason.TheVariants.{BadSize}
use Rattle.raster_grids.specs.ReadGrid.{cut, number_at, head_faults}

-- the number at the place is not there, or is 0
abbrev pub IsSizeFault : List ℕ → ℕ → Faults GridReason
IsSizeFault bytes at =
    unless (at + 4 ≤ length bytes) (cut bytes)
    (unless (0 < number_at bytes at) (wrong BadSize at) none)

-- `LGR` and one letter more
abbrev pub letters_with : ℕ → List ℕ
letters_with letter = 76 ∷ 71 ∷ 82 ∷ letter ∷ []

-- the letters of the grid of one raster, or of more bands
abbrev pub letters_of : Bool → List ℕ
letters_of more = if more then codes "LGR2" else codes "LGR1"

-- what is wrong with the head of a grid of bands
abbrev pub front_faults : List ℕ → Faults GridReason
front_faults bytes =
    choice (take 4 bytes ≡ codes "LGR2")
    (head_faults (codes "LGR2") bytes) (head_faults (codes "LGR1") bytes)
