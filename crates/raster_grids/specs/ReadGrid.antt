-- Grids as they are read: a head of 17 bytes, a byte for each pixel's mark, and the bytes of the
-- valid pixels' values; and the first fault of bytes that do not begin with a grid.
use Rattle.std.specs.Prelude.{ℕ, List, drop, ◌≡◌, length, get_or, take, Bool, map, if◌then◌else◌, ◌*◌, ◌++◌, codes, ◌<◌, ◌≤◌, Option, None, Some, Result, Ok, Err}
use Rattle.byteorder.specs.Endian.{little_number}
use Rattle.raster_cells.specs.PixelType.{code_of, bytes_of}
use Rattle.raster_cells.specs.Shapes.{IsShape, IsTooLarge}
use Rattle.raster_values.specs.Raster.{Pixels, IsRaster, values_of}
use Rattle.raster_cells.specs.Values.{AreValues}
use Rattle.raster_values.specs.Flat.{marks_of}
use Rattle.first_fault.specs.Faults.{Faults, wrong, none, unless, in_order, moved}
use Rattle.raster_cells.specs.Masks.{count_of}
use Rattle.raster_grids.specs.Taken.{TookBytes}
use Rattle.outside_io.specs.streams.Faults.{FailedBetween}
use Rattle.first_fault.specs.Parts.{IsPart, IsDecided}
use Rattle.raster_grids.specs.declared.reading.Head.{Head}
use Rattle.raster_grids.specs.declared.reading.GridReason.{GridReason}
use Rattle.raster_grids.specs.declared.reading.GridReason.TheVariants.{Truncated, TooLarge, BadSize, BadType, BadMagic, BadMark}
use Rattle.raster_grids.specs.declared.reading.GridStop.{GridStop}
use Rattle.raster_grids.specs.declared.reading.GridStop.TheVariants.{Fault, Source, OutOfMemory}
use Rattle.raster_grids.specs.Grid.{grid_of}

-- the little-endian number of four bytes at a place
abbrev pub number_at : List ℕ → ℕ → ℕ
number_at bytes place = little_number 4 (drop place bytes)

-- ---- the parts of a grid

-- the bytes are the head, with these four letters, of grids of this type and shape
pub record IsHead (magic bytes : List ℕ) (h : Head) : Type 0 where
  pub size : length bytes ≡ 17
  pub letters : take 4 bytes ≡ magic
  pub kind : get_or bytes 4 0 ≡ code_of h.kind
  pub rows : number_at bytes 5 ≡ h.rows
  pub cols : number_at bytes 9 ≡ h.cols
  pub depth : number_at bytes 13 ≡ h.depth
  pub shape : IsShape h.rows h.cols h.depth

-- the bytes are those of n marks: 1 for a valid pixel and 0 for an invalid one
pub record AreMarks (n : ℕ) (bytes : List ℕ) (marks : List Bool) : Type 0 where
  pub count : length marks ≡ n
  pub spelled : bytes ≡ map (λ mark. if mark then 1 else 0) marks

-- the bytes are the grid of this raster
pub record IsGrid (bytes : List ℕ) (r : Pixels) : Type 0 where
  pub raster : IsRaster r
  pub head : List ℕ
  pub marks : List ℕ
  pub values : List ℕ
  pub joined : bytes ≡ head ++ (marks ++ values)
  pub head_of : IsHead (codes "LGR1") head
      (record { kind = r.kind; rows = r.rows; cols = r.cols; depth = r.depth })
  pub marks_are : AreMarks (r.rows * r.cols) marks (marks_of r)
  pub values_are : AreValues r.kind values (values_of r.pixels)

-- ---- the first fault

-- the bytes end before the field does: the place is their number
abbrev pub cut : List ℕ → Faults GridReason
cut bytes = wrong Truncated (length bytes)

-- what is wrong in the first 17 bytes, field by field, of which there may be fewer
abbrev pub shape_faults : List ℕ → Faults GridReason
shape_faults head =
    unless (¬ IsTooLarge (number_at head 5) (number_at head 9) (number_at head 13))
    (wrong TooLarge 13) none

abbrev pub depth_faults : List ℕ → Faults GridReason
depth_faults head =
    unless (17 ≤ length head) (cut head)
    (unless (0 < number_at head 13) (wrong BadSize 13) (shape_faults head))

abbrev pub cols_faults : List ℕ → Faults GridReason
cols_faults head =
    unless (13 ≤ length head) (cut head)
    (unless (0 < number_at head 9) (wrong BadSize 9) (depth_faults head))

abbrev pub rows_faults : List ℕ → Faults GridReason
rows_faults head =
    unless (9 ≤ length head) (cut head)
    (unless (0 < number_at head 5) (wrong BadSize 5) (cols_faults head))

abbrev pub type_faults : List ℕ → Faults GridReason
type_faults head =
    unless (5 ≤ length head) (cut head)
    (unless (get_or head 4 0 ≤ 5) (wrong BadType 4) (rows_faults head))

abbrev pub magic_faults : List ℕ → List ℕ → Faults GridReason
magic_faults magic head =
    unless (4 ≤ length head) (cut head)
    (unless (take 4 head ≡ magic) (wrong BadMagic 0) (type_faults head))

abbrev pub head_faults : List ℕ → List ℕ → Faults GridReason
head_faults magic bytes = magic_faults magic (take 17 bytes)

-- of n marks those that are there are 0 or 1
abbrev pub AreLawful : ℕ → List ℕ → Type 0
AreLawful n bytes = (k : ℕ) → k < n → k < length bytes → get_or bytes k 0 ≤ 1

-- the first of n marks that is neither stands at the place
pub record IsFirstWrong (n : ℕ) (bytes : List ℕ) (place : ℕ) : Type 0 where
  pub one : place < n
  pub there : place < length bytes
  pub wrong : 1 < get_or bytes place 0
  pub before : (k : ℕ) → k < place → get_or bytes k 0 ≤ 1

abbrev pub wrong_mark : ℕ → List ℕ → Faults GridReason
wrong_mark n bytes place reason = IsFirstWrong n bytes place × (reason ≡ BadMark)

-- a wrong mark that is there comes before a cut
abbrev pub mark_faults : ℕ → List ℕ → Faults GridReason
mark_faults n rest =
    unless (AreLawful n rest) (wrong_mark n rest) (unless (n ≤ length rest) (cut rest) none)

-- the values are one field
abbrev pub value_faults : ℕ → List ℕ → Faults GridReason
value_faults size rest = unless (size ≤ length rest) (cut rest) none

-- what is wrong first behind a head
abbrev pub behind_head : Head → List ℕ → Faults GridReason
behind_head h behind =
    in_order (AreMarks (h.rows * h.cols)) (mark_faults (h.rows * h.cols))
    (λ marks. value_faults (count_of marks * h.depth * bytes_of h.kind)) behind

-- What is wrong first in bytes that do not begin with a grid, places counting from the first of
-- them.
abbrev pub grid_faults : List ℕ → Faults GridReason
grid_faults bytes = in_order
    (IsHead (codes "LGR1")) (head_faults (codes "LGR1")) behind_head bytes

-- ---- what a read leaves

-- the raster's grid was taken and nothing else
abbrev pub TookGrid : Option (List ℕ) → Option (List ℕ) → Pixels → Type 0
TookGrid old new r = (bytes : List ℕ) × (IsGrid bytes r × TookBytes old new bytes)

-- of the bytes left, where they are told, this is what is wrong first, places counting from `at`
abbrev pub IsToldFault : (List ℕ → Faults GridReason) → Option (List ℕ) → ℕ → GridStop → Type 0
IsToldFault faults None at stop = Unit {0}
IsToldFault faults (Some left) at (Fault f) = moved at (faults left) f.place f.reason
IsToldFault faults (Some left) at Source = Unit {0}
IsToldFault faults (Some left) at OutOfMemory = Unit {0}

-- a read answers Source only where the source failed in it, and otherwise leaves the count
abbrev pub CountsGridStop : {X : Type 0} → Result X GridStop → ℕ → ℕ → Type 0
CountsGridStop (Ok x) old new = new ≡ old
CountsGridStop (Err (Fault f)) old new = new ≡ old
CountsGridStop (Err Source) old new = (old ≤ new) × FailedBetween old new
CountsGridStop (Err OutOfMemory) old new = new ≡ old

-- ---- laws

-- what is written of a raster is its grid
abbrev pub WrittenGridStands : Type 0
WrittenGridStands = (r : Pixels) → IsRaster r → IsGrid (grid_of r) r

-- A grid is read in one way, whatever follows it; bytes that begin with one have no fault; and
-- there is one first fault.
abbrev pub GridsAreParts : Type 0
GridsAreParts = IsPart IsGrid grid_faults

-- bytes begin with a grid or have a first fault
abbrev pub GridsAreDecided : Type 0
GridsAreDecided = IsDecided IsGrid grid_faults
