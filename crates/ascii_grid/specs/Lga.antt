-- The file `LGA1`: a grid with the texts of where it lies, byte by byte; and the first fault of
-- bytes that are none.
use Rattle.std.specs.Prelude.{◌≡◌, ◌⊎◌, ℕ, ℤ, pos, suc, ◌+◌, ◌*◌, ◌<◌, ◌≤◌, unsigned_abs, if◌then◌else◌, List, [], ◌∷◌, ◌++◌, codes, length, get_or, take, drop, All, Option, Some, is_some, Result, Ok, Err}
use Rattle.std.specs.List.{count_by}
use Rattle.byteorder.specs.Endian.{little_bytes, little_number, twos_complement}
use Rattle.first_fault.specs.Faults.{Faults, ends, in_order, none, unless, wrong}
use Rattle.raster_grids.specs.declared.reading.GridReason.{GridReason}
use Rattle.raster_cells.specs.PixelType.{bytes_of, complement_of}
use Rattle.raster_values.specs.Raster.{Pixels}
use Rattle.raster_grids.specs.Grid.{grid_of}
use Rattle.raster_grids.specs.ReadGrid.{IsGrid, grid_faults}
use Rattle.ascii_grid.specs.declared.fault.AsciiReason.{AsciiReason}
use Rattle.ascii_grid.specs.declared.fault.AsciiReason.TheVariants.{BadFlags, BadMagic, BadNumber, BadText, Collision, DepthNot1, Grid, Leftover, Truncated}
use Rattle.ascii_grid.specs.declared.fault.AsciiStop.{AsciiStop}
use Rattle.ascii_grid.specs.declared.fault.AsciiStop.TheVariants.{Fault, Source, OutOfMemory}
use Rattle.ascii_grid.specs.declared.grid.AsciiGrid.{AsciiGrid}
use Rattle.ascii_grid.specs.declared.lga.fields.Centres.{Centres}
use Rattle.ascii_grid.specs.Head.{IsText, IsTextByte}
use Rattle.ascii_grid.specs.Canon.{IsApart}

-- ---- the parts

-- the flags: 1 where x is that of a cell's centre, and 2 where y is
abbrev pub flags_of : Centres → ℕ
flags_of c = (if c.x then 1 else 0) + (if c.y then 2 else 0)

abbrev pub IsMagic : List ℕ → Unit {0} → Type 0
IsMagic bytes u = bytes ≡ codes "LGA1"

abbrev pub IsFlags : List ℕ → Centres → Type 0
IsFlags bytes c = bytes ≡ flags_of c ∷ []

-- a corner or cell text behind its length
pub record IsTextField (bytes text : List ℕ) : Type 0 where
  pub spelled : bytes ≡ length text ∷ text
  pub text_is : IsText text

-- the number that eight bytes stand for, in two's complement, the lowest byte first
abbrev pub nodata_in : List ℕ → ℤ
nodata_in bytes = twos_complement 8 (little_number 8 bytes)

-- nodata, of at most ten digits
pub record IsNodataField (bytes : List ℕ) (nodata : ℤ) : Type 0 where
  pub size : length bytes ≡ 8
  pub value : nodata ≡ nodata_in bytes
  pub few : unsigned_abs nodata < 10000000000

-- The bytes are the `LGA1` of the grid: magic and flags, the three texts, nodata, and the grid of a
-- raster of depth 1, of which no valid value is nodata.
pub record IsLga (bytes : List ℕ) (g : AsciiGrid) : Type 0 where
  pub flags : List ℕ
  pub x : List ℕ
  pub y : List ℕ
  pub cell : List ℕ
  pub nodata : List ℕ
  pub grid : List ℕ
  pub joined : bytes ≡ codes "LGA1" ++ (flags ++ (x ++ (y ++ (cell ++ (nodata ++ grid)))))
  pub flags_are : IsFlags flags (record { x = g.geo.x_centre; y = g.geo.y_centre })
  pub x_is : IsTextField x g.geo.x
  pub y_is : IsTextField y g.geo.y
  pub cell_is : IsTextField cell g.geo.cell
  pub nodata_is : IsNodataField nodata g.geo.nodata
  pub grid_is : IsGrid grid g.raster
  pub depth : g.raster.depth ≡ 1
  pub apart : All (IsApart g.geo.nodata) g.raster.pixels

-- ---- what is written

abbrev pub text_field : List ℕ → List ℕ
text_field text = length text ∷ text

-- nodata, and the grid behind it
abbrev pub last_fields : AsciiGrid → List ℕ
last_fields g = little_bytes 8 (complement_of 8 g.geo.nodata) ++ grid_of g.raster

abbrev pub lga_of : AsciiGrid → List ℕ
lga_of g =
    codes "LGA1" ++ (flags_of (record { x = g.geo.x_centre; y = g.geo.y_centre }) ∷ []
    ++ (text_field g.geo.x ++ (text_field g.geo.y ++ (text_field g.geo.cell ++ last_fields g))))

-- ---- the first fault

-- the bytes end before the field does: the place is their number
abbrev pub cut : List ℕ → Faults AsciiReason
cut bytes = wrong Truncated (length bytes)

-- a field of n bytes, which have to be such
abbrev pub field_faults : ℕ → (List ℕ → Type 0) → AsciiReason → List ℕ → Faults AsciiReason
field_faults n P why bytes =
    unless (n ≤ length bytes) (cut bytes) (unless (P (take n bytes)) (wrong why 0) none)

abbrev pub magic_faults : List ℕ → Faults AsciiReason
magic_faults bytes = field_faults 4 (λ field. field ≡ codes "LGA1") BadMagic bytes

abbrev pub flag_faults : List ℕ → Faults AsciiReason
flag_faults bytes = field_faults 1 (λ field. get_or field 0 0 ≤ 3) BadFlags bytes

-- the number of a text's bytes
abbrev pub IsTextLength : ℕ → Type 0
IsTextLength n = (1 ≤ n) × (n ≤ 32)

-- the length is looked at before so many bytes are asked for, and these before what they are
abbrev pub text_field_faults : List ℕ → Faults AsciiReason
text_field_faults bytes =
    unless (1 ≤ length bytes) (cut bytes)
    (unless (IsTextLength (get_or bytes 0 0)) (wrong BadText 0)
    (field_faults (suc (get_or bytes 0 0)) (λ field. All IsTextByte (drop 1 field)) BadText bytes))

abbrev pub nodata_faults : List ℕ → Faults AsciiReason
nodata_faults bytes =
    field_faults 8 (λ field. unsigned_abs (nodata_in field) < 10000000000) BadNumber bytes

-- a fault of the grid
abbrev pub raster_faults : List ℕ → Faults AsciiReason
raster_faults bytes place reason =
    (why : GridReason) × (grid_faults bytes place why × (reason ≡ Grid why))

-- The first valid value that is nodata stands behind these pixels, of which n are valid.
pub record FirstSame (nodata : ℤ) (pixels : List (Option (List ℤ))) (n : ℕ) : Type 0 where
  pub before : List (Option (List ℤ))
  pub values : List ℤ
  pub behind : List (Option (List ℤ))
  pub joined : pixels ≡ before ++ Some values ∷ behind
  pub apart : All (IsApart nodata) before
  pub same : get_or values 0 (pos 0) ≡ nodata
  pub count : n ≡ count_by is_some before

-- the place of that value
abbrev pub collision : ℤ → Pixels → Faults AsciiReason
collision nodata r place reason = (n : ℕ) × (FirstSame nodata r.pixels n
    × wrong Collision (17 + r.rows * r.cols + n * bytes_of r.kind) place reason)

-- what may be wrong with the raster of a grid, places counting from the grid's first byte
abbrev pub content_faults : ℤ → Pixels → Faults AsciiReason
content_faults nodata r =
    unless (r.depth ≡ 1) (wrong DepthNot1 13)
    (unless (All (IsApart nodata) r.pixels) (collision nodata r) none)

-- the grid is the last part, and then the raster is looked at
abbrev pub grid_and_end_faults : ℤ → List ℕ → Faults AsciiReason
grid_and_end_faults nodata bytes place reason =
    in_order IsGrid raster_faults (λ r. ends Leftover) bytes place reason
    ⊎ ((r : Pixels) × (IsGrid bytes r × content_faults nodata r place reason))

abbrev pub behind_cell : List ℕ → Faults AsciiReason
behind_cell bytes = in_order IsNodataField nodata_faults grid_and_end_faults bytes

abbrev pub behind_y : List ℕ → Faults AsciiReason
behind_y bytes = in_order IsTextField text_field_faults (λ cell. behind_cell) bytes

abbrev pub behind_x : List ℕ → Faults AsciiReason
behind_x bytes = in_order IsTextField text_field_faults (λ y. behind_y) bytes

abbrev pub behind_flags : List ℕ → Faults AsciiReason
behind_flags bytes = in_order IsTextField text_field_faults (λ x. behind_x) bytes

abbrev pub behind_magic : List ℕ → Faults AsciiReason
behind_magic bytes = in_order IsFlags flag_faults (λ centres. behind_flags) bytes

-- What is wrong first in bytes that are no `LGA1`: its fields in order, a byte behind them, the
-- raster's depth, and its values.
abbrev pub lga_faults : List ℕ → Faults AsciiReason
lga_faults bytes = in_order IsMagic magic_faults (λ u. behind_magic) bytes

-- what reading bytes answers; the source may fail, and memory be wanting
abbrev pub LgaRead : Result AsciiGrid AsciiStop → List ℕ → Type 0
LgaRead (Ok g) bytes = IsLga bytes g
LgaRead (Err (Fault f)) bytes = lga_faults bytes f.place f.reason
LgaRead (Err Source) bytes = Unit {0}
LgaRead (Err OutOfMemory) bytes = Unit {0}
