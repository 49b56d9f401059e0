-- The bytes of a header, as they are written.
use Rattle.std.specs.Prelude.{◌≡◌, ℕ, ℤ, pos, ◌+◌, ◌*◌, ◌^◌, ◌<◌, ◌≤◌, ◌≤ℤ◌, ◌*ℤ◌, ◌⊎◌, zero, suc, List, [], ◌++◌, codes}
use Rattle.byteorder.specs.Endian.{little_bytes}
use Rattle.raster_cells.specs.declared.kind.PixelType.{PixelType}
use Rattle.raster_cells.specs.PixelType.{InRange, code_of}
use Rattle.raster_cells.specs.Shapes.{IsShape}
use Rattle.double_bits.specs.Bits.{half_bits}
use Rattle.lerc_header.specs.declared.header.Version.{Version}
use Rattle.lerc_header.specs.declared.header.Version.TheVariants.{V3, V4}
use Rattle.lerc_header.specs.declared.header.Header.{Header}
use Rattle.raster_cells.specs.Step.{IsTwiceError}
use Rattle.lerc_header.specs.Head.{version_number, head_length}

-- the least and the greatest of the valid values are values of the type, in order; both are 0
-- where no pixel is valid
abbrev pub AreEnds : PixelType → ℕ → ℤ → ℤ → Type 0
AreEnds kind valid least greatest =
    ((0 < valid) × InRange kind least × InRange kind greatest × (least ≤ℤ greatest))
    ⊎ ((valid ≡ 0) × (least ≡ pos 0) × (greatest ≡ pos 0))

-- the header passes every test, and its numbers fit their fields
pub record IsHeader (h : Header) : Type 0 where
  pub checksum_fits : h.checksum < 2 ^ 32
  pub shape : IsShape h.rows h.cols h.depth
  -- version 3 has no place for a depth
  pub flat : h.version ≡ V3 → h.depth ≡ 1
  pub valid_below : h.valid ≤ h.rows * h.cols
  pub side_above : 0 < h.side
  pub side_fits : h.side < 2 ^ 31
  pub size_above : head_length h.version + 4 ≤ h.size
  pub size_below : h.size ≤ 134217728
  pub step_allowed : IsTwiceError h.step
  pub ends : AreEnds h.kind h.valid h.least h.greatest

-- ---- the fields, one behind the other

abbrev pub depth_bytes : Version → ℕ → List ℕ
depth_bytes V3 depth = []
depth_bytes V4 depth = little_bytes 4 depth

-- the doubles maxZError, zMin and zMax
abbrev pub doubles_bytes : Header → List ℕ
doubles_bytes h = little_bytes 8 (half_bits (pos h.step))
    ++ (little_bytes 8 (half_bits (pos 2 *ℤ h.least))
    ++ little_bytes 8 (half_bits (pos 2 *ℤ h.greatest)))

-- from the valid count to the type
abbrev pub counts_bytes : Header → List ℕ
counts_bytes h = little_bytes 4 h.valid
    ++ (little_bytes 4 h.side ++ (little_bytes 4 h.size ++ little_bytes 4 (code_of h.kind)))

abbrev pub shape_bytes : Header → List ℕ
shape_bytes h = little_bytes 4 h.rows ++ (little_bytes 4 h.cols ++ depth_bytes h.version h.depth)

-- the fields behind the checksum, which it covers
unfoldable pub field_bytes : Header → List ℕ
field_bytes h = shape_bytes h ++ (counts_bytes h ++ doubles_bytes h)

abbrev pub front_bytes : Header → List ℕ
front_bytes h =
    codes "Lerc2 " ++ (little_bytes 4 (version_number h.version) ++ little_bytes 4 h.checksum)

unfoldable pub head_bytes : Header → List ℕ
head_bytes h = front_bytes h ++ field_bytes h

-- twice an error, where 0 stands for no error at all: the values are then whole, so 0.5 is enough
abbrev pub step_of : ℕ → ℕ
step_of zero = 1
step_of (suc e) = 2 * suc e
