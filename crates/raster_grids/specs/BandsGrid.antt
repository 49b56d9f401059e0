-- Grids of bands as they are read: the grid of one raster, or a head of 17 bytes with the letters
-- `LGR2`, the number of bands, and the marks and values of each; and the first fault of bytes that
-- do not begin with one.
use Rattle.std.specs.Prelude.{[], ◌≡◌, ℕ, ◌*◌, List, ◌++◌, ◌≤◌, length, ◌∷◌, codes, take, Option}
use Rattle.raster_values.specs.Raster.{Pixels, IsRaster, values_of}
use Rattle.raster_cells.specs.Values.{AreValues}
use Rattle.raster_values.specs.Flat.{marks_of}
use Rattle.first_fault.specs.Faults.{AllNumbered, Faults, none, wrong, unless, in_order, InNumbered, choice}
use Rattle.raster_grids.specs.Taken.{TookBytes}
use Rattle.raster_values.specs.Bands.{AreBands}
use Rattle.first_fault.specs.Parts.{IsPart, IsDecided}
use Rattle.raster_grids.specs.declared.reading.Head.{Head}
use Rattle.raster_grids.specs.ReadGrid.{AreMarks, number_at, IsHead, IsGrid, cut, behind_head, head_faults, grid_faults}
use Rattle.raster_grids.specs.declared.reading.GridReason.{GridReason}
use Rattle.raster_grids.specs.declared.reading.GridReason.TheVariants.{BadSize, TooLarge}
use Rattle.raster_grids.specs.Grid.{bands_grid_of}

-- ---- the parts

-- the bytes are the marks and the values of this raster, which has the type and shape of the head
pub record IsBandGrid (h : Head) (bytes : List ℕ) (r : Pixels) : Type 0 where
  pub raster : IsRaster r
  pub shape : record { kind = r.kind; rows = r.rows; cols = r.cols; depth = r.depth } ≡ h
  pub marks : List ℕ
  pub values : List ℕ
  pub joined : bytes ≡ marks ++ values
  pub marks_are : AreMarks (r.rows * r.cols) marks (marks_of r)
  pub values_are : AreValues r.kind values (values_of r.pixels)

-- the bytes are the number n of bands of this type and shape: 2 to 16, with at most 2 ^ 24 values
-- together
pub record IsBandCount (h : Head) (bytes : List ℕ) (n : ℕ) : Type 0 where
  pub size : length bytes ≡ 4
  pub number : number_at bytes 0 ≡ n
  pub least : 2 ≤ n
  pub most : n ≤ 16
  pub small : n * (h.rows * h.cols * h.depth) ≤ 16777216

-- the bytes are the grid of these bands
pub data IsBandsGrid (bytes : List ℕ) (bands : List Pixels) : Type 0 where
  of_one : (r : Pixels) → bands ≡ r ∷ [] → IsGrid bytes r → IsBandsGrid bytes bands
  of_more : (h : Head) (n : ℕ) (head count behind : List ℕ) → bytes ≡ head ++ (count ++ behind)
      → IsHead (codes "LGR2") head h → IsBandCount h count n
      → AllNumbered (λ k. IsBandGrid h) n behind bands → IsBandsGrid bytes bands

-- ---- the first fault

-- what is wrong with a number of bands, places counting from its first byte
abbrev pub count_faults : Head → List ℕ → Faults GridReason
count_faults h rest =
    unless (4 ≤ length rest) (cut rest)
    (unless ((2 ≤ number_at rest 0) × (number_at rest 0 ≤ 16)) (wrong BadSize 0)
    (unless (number_at rest 0 * (h.rows * h.cols * h.depth) ≤ 16777216) (wrong TooLarge 0)
    none))

-- what is wrong first behind a head with the letters `LGR2`: the number of bands, or the first band
-- that is wrong
abbrev pub behind_more : Head → List ℕ → Faults GridReason
behind_more h behind =
    in_order (IsBandCount h) (count_faults h)
    (λ n. InNumbered (λ k. IsBandGrid h) (λ k. behind_head h) n) behind

-- what is wrong first in bytes that begin with these letters
abbrev pub more_faults : List ℕ → Faults GridReason
more_faults bytes = in_order
    (IsHead (codes "LGR2")) (head_faults (codes "LGR2")) behind_more bytes

-- What is wrong first in bytes that do not begin with a grid of bands, places counting from the
-- first of them. Where `LGR2` does not stand in front, it is what is wrong with the grid of one
-- raster: `BadMagic` at 0, then, where `LGR1` does not stand there either.
abbrev pub bands_faults : List ℕ → Faults GridReason
bands_faults bytes =
    choice (take 4 bytes ≡ codes "LGR2") (more_faults bytes) (grid_faults bytes)

-- the grid of the bands was taken and nothing else
abbrev pub TookBands : Option (List ℕ) → Option (List ℕ) → List Pixels → Type 0
TookBands old new bands = (bytes : List ℕ) × (IsBandsGrid bytes bands × TookBytes old new bytes)

-- ---- laws

-- what has a grid are bands
abbrev pub GridsAreOfBands : Type 0
GridsAreOfBands = (bytes : List ℕ) (bands : List Pixels) → IsBandsGrid bytes bands → AreBands bands

-- what is written of bands is their grid
abbrev pub WrittenBandsStand : Type 0
WrittenBandsStand = (bands : List Pixels) → AreBands bands
    → IsBandsGrid (bands_grid_of bands) bands

-- A grid of bands is read in one way, whatever follows it; bytes that begin with one have no fault;
-- and there is one first fault.
abbrev pub BandsGridsAreParts : Type 0
BandsGridsAreParts = IsPart IsBandsGrid bands_faults

-- bytes begin with a grid of bands or have a first fault
abbrev pub BandsGridsAreDecided : Type 0
BandsGridsAreDecided = IsDecided IsBandsGrid bands_faults
