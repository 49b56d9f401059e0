-- The first fault of a header: of its tests, in their order, the first one that fails. Each line
-- is a line of the table of fields in docs/FORMATS.md.
use Rattle.std.specs.Prelude.{◌≡◌, ℕ, ℤ, pos, ◌+◌, ◌*ℤ◌, ◌≤◌, ◌≤ℤ◌, ◌⊎◌, List, codes, length, take}
use Rattle.first_fault.specs.Faults.{Faults, none, wrong, choice, unless}
use Rattle.raster_cells.specs.declared.kind.PixelType.{PixelType}
use Rattle.raster_cells.specs.PixelType.{InRange, code_of}
use Rattle.double_bits.specs.Halves.{HalfDouble}
use Rattle.lerc_header.specs.declared.header.Version.{Version}
use Rattle.lerc_header.specs.declared.header.Version.TheVariants.{V3, V4}
use Rattle.lerc_header.specs.declared.fault.BlobReason.{BlobReason}
use Rattle.lerc_header.specs.declared.fault.BlobReason.TheVariants.{Truncated, BadKey, BadVersion, BadRows, BadCols, BadDepth, TooLarge, BadCount, BadBlockSize, BadBlobSize, FloatPixels, BadType, BadError, BadRange}
use Rattle.raster_cells.specs.Step.{IsTwiceError}
use Rattle.lerc_header.specs.Head.{i32_at, double_at, version_number, shift, head_length, depth_at}

-- ---- key and version

abbrev pub HasKey : List ℕ → Type 0
HasKey bytes = take 6 bytes ≡ codes "Lerc2 "

abbrev pub HasVersion : List ℕ → Version → Type 0
HasVersion bytes v = i32_at bytes 6 ≡ pos (version_number v)

-- what is wrong with key and version, or with what is behind a version
abbrev pub key_tests : (Version → Faults BlobReason) → List ℕ → Faults BlobReason
key_tests behind bytes =
    unless (HasKey bytes) (wrong BadKey 0)
    (choice (HasVersion bytes V3) (behind V3)
    (choice (HasVersion bytes V4) (behind V4)
    (wrong BadVersion 6)))

-- what is wrong with the first ten bytes
abbrev pub key_faults : List ℕ → Faults BlobReason
key_faults bytes = key_tests (λ v. none) bytes

-- ---- the other fields

abbrev pub IsWithin : ℤ → ℤ → ℤ → Type 0
IsWithin low high n = (low ≤ℤ n) × (n ≤ℤ high)

-- rows times columns, and times the depth
abbrev pub pixels_at : List ℕ → ℤ
pixels_at bytes = i32_at bytes 14 *ℤ i32_at bytes 18

abbrev pub values_at : Version → List ℕ → ℤ
values_at v bytes = pixels_at bytes *ℤ depth_at v bytes

-- the number at the type's place names this type
abbrev pub HasKind : Version → List ℕ → PixelType → Type 0
HasKind v bytes kind = i32_at bytes (34 + shift v) ≡ pos (code_of kind)

abbrev pub HasStep : Version → List ℕ → Type 0
HasStep v bytes =
    (step : ℕ) × (HalfDouble (double_at bytes (38 + shift v)) (pos step) × IsTwiceError step)

-- the double at a place is this whole number, of the header's type
abbrev pub HasWhole : Version → List ℕ → ℕ → ℤ → Type 0
HasWhole v bytes place n = HalfDouble (double_at bytes place) (pos 2 *ℤ n)
    × ((kind : PixelType) × (HasKind v bytes kind × InRange kind n))

-- zMin is such a number; zMax is one, too, and not below it
abbrev pub HasLeast : Version → List ℕ → Type 0
HasLeast v bytes = (least : ℤ) × HasWhole v bytes (46 + shift v) least

abbrev pub HasEnds : Version → List ℕ → Type 0
HasEnds v bytes = (least : ℤ) × ((greatest : ℤ) × (HasWhole v bytes (46 + shift v) least
    × (HasWhole v bytes (54 + shift v) greatest × (least ≤ℤ greatest))))

-- no pixel is valid
abbrev pub HasNone : Version → List ℕ → Type 0
HasNone v bytes = i32_at bytes (22 + shift v) ≡ pos 0

-- what is wrong behind the version, in bytes that hold a whole header of this version
abbrev pub field_faults : Version → List ℕ → Faults BlobReason
field_faults v bytes =
    unless (pos 1 ≤ℤ i32_at bytes 14) (wrong BadRows 14)
    (unless (pos 1 ≤ℤ i32_at bytes 18) (wrong BadCols 18)
    (unless (IsWithin (pos 1) (pos 65536) (depth_at v bytes)) (wrong BadDepth 22)
    (unless (values_at v bytes ≤ℤ pos 16777216) (wrong TooLarge (18 + shift v))
    (unless (IsWithin (pos 0) (pixels_at bytes) (i32_at bytes (22 + shift v)))
    (wrong BadCount (22 + shift v))
    (unless (pos 1 ≤ℤ i32_at bytes (26 + shift v)) (wrong BadBlockSize (26 + shift v))
    (unless (IsWithin (pos (head_length v + 4)) (pos 134217728) (i32_at bytes (30 + shift v)))
    (wrong BadBlobSize (30 + shift v))
    (unless (¬ IsWithin (pos 6) (pos 7) (i32_at bytes (34 + shift v)))
    (wrong FloatPixels (34 + shift v))
    (unless (IsWithin (pos 0) (pos 5) (i32_at bytes (34 + shift v))) (wrong BadType (34 + shift v))
    (unless (HasStep v bytes) (wrong BadError (38 + shift v))
    (unless (HasNone v bytes ⊎ HasLeast v bytes) (wrong BadRange (46 + shift v))
    (unless (HasNone v bytes ⊎ HasEnds v bytes) (wrong BadRange (54 + shift v))
    none)))))))))))

-- ---- bytes of any length

-- where the bytes end before the field that is asked for, the input's length is the place
abbrev pub whole_faults : Version → List ℕ → Faults BlobReason
whole_faults v bytes =
    unless (head_length v ≤ length bytes) (wrong Truncated (length bytes)) (field_faults v bytes)

-- key and version are decided once ten bytes are there, the other fields once the header is
abbrev pub header_faults : List ℕ → Faults BlobReason
header_faults bytes =
    unless (10 ≤ length bytes) (wrong Truncated (length bytes))
    (key_tests (λ v. whole_faults v bytes) bytes)
