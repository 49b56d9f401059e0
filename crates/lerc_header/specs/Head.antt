-- The header of a LERC2 blob, versions 3 and 4: which bytes stand for it.
use Rattle.std.specs.Prelude.{◌≡◌, ℕ, ℤ, pos, ◌+◌, ◌*◌, ◌<◌, ◌≤◌, ◌≤ℤ◌, ◌*ℤ◌, ◌⊎◌, List, codes, length, take, drop}
use Rattle.byteorder.specs.Endian.{little_number, twos_complement}
use Rattle.raster_cells.specs.PixelType.{InRange, code_of}
use Rattle.raster_cells.specs.Shapes.{IsShape}
use Rattle.raster_cells.specs.Step.{IsTwiceError}
use Rattle.double_bits.specs.Halves.{HalfDouble}
use Rattle.raster_cells.specs.declared.kind.PixelType.{PixelType}
use Rattle.lerc_header.specs.declared.header.Version.{Version}
use Rattle.lerc_header.specs.declared.header.Version.TheVariants.{V3, V4}
use Rattle.lerc_header.specs.declared.header.Header.{Header}

-- ---- numbers at a place, lowest byte first; the list's elements are bytes, each below 256

-- the unsigned number of four bytes
unfoldable pub u32_at : List ℕ → ℕ → ℕ
u32_at bytes place = little_number 4 (drop place bytes)

-- the signed number of four bytes, in two's complement
unfoldable pub i32_at : List ℕ → ℕ → ℤ
i32_at bytes place = twos_complement 4 (little_number 4 (drop place bytes))

-- the 64 bits of a double
unfoldable pub double_at : List ℕ → ℕ → ℕ
double_at bytes place = little_number 8 (drop place bytes)

-- ---- what depends on the version

abbrev pub version_number : Version → ℕ
version_number V3 = 3
version_number V4 = 4

-- how much further on the fields behind cols stand: version 4 has the depth before them
abbrev pub shift : Version → ℕ
shift V3 = 0
shift V4 = 4

-- how many bytes the header takes
abbrev pub head_length : Version → ℕ
head_length v = 62 + shift v

-- the depth: the number at 22 in version 4, and 1 in version 3
abbrev pub depth_at : Version → List ℕ → ℤ
depth_at V3 bytes = pos 1
depth_at V4 bytes = i32_at bytes 22

-- ---- the header

-- zMin at this place and zMax behind it are whole numbers of the type, zMax not below zMin
pub record HasRange (bytes : List ℕ) (place : ℕ) (kind : PixelType) (least greatest : ℤ) :
    Type 0 where
  pub z_min : HalfDouble (double_at bytes place) (pos 2 *ℤ least)
  pub least_in_range : InRange kind least
  pub z_max : HalfDouble (double_at bytes (place + 8)) (pos 2 *ℤ greatest)
  pub greatest_in_range : InRange kind greatest
  pub in_order : least ≤ℤ greatest

-- where no pixel is valid, zMin and zMax may be any bits, and both numbers are 0
abbrev pub RangeAt : List ℕ → ℕ → PixelType → ℕ → ℤ → ℤ → Type 0
RangeAt bytes place kind valid least greatest =
    ((0 < valid) × HasRange bytes place kind least greatest)
    ⊎ ((valid ≡ 0) × (least ≡ pos 0) × (greatest ≡ pos 0))

-- the bytes begin with this header: each number is the one at its place, and every test holds
pub record HeadAt (bytes : List ℕ) (h : Header) : Type 0 where
  pub long : head_length h.version ≤ length bytes
  pub key : take 6 bytes ≡ codes "Lerc2 "
  pub version : i32_at bytes 6 ≡ pos (version_number h.version)
  pub checksum : h.checksum ≡ u32_at bytes 10
  pub rows : i32_at bytes 14 ≡ pos h.rows
  pub cols : i32_at bytes 18 ≡ pos h.cols
  pub depth : depth_at h.version bytes ≡ pos h.depth
  -- none of the three is 0, the depth is at most 65536, and their product at most 2 ^ 24
  pub shape : IsShape h.rows h.cols h.depth
  pub valid : i32_at bytes (22 + shift h.version) ≡ pos h.valid
  pub valid_below : h.valid ≤ h.rows * h.cols
  pub side : i32_at bytes (26 + shift h.version) ≡ pos h.side
  pub side_above : 0 < h.side
  pub size : i32_at bytes (30 + shift h.version) ≡ pos h.size
  -- at least the header and the mask length behind it, and at most 2 ^ 27
  pub size_above : head_length h.version + 4 ≤ h.size
  pub size_below : h.size ≤ 134217728
  pub kind : i32_at bytes (34 + shift h.version) ≡ pos (code_of h.kind)
  -- the step is twice maxZError
  pub step : HalfDouble (double_at bytes (38 + shift h.version)) (pos h.step)
  pub step_allowed : IsTwiceError h.step
  pub range : RangeAt bytes (46 + shift h.version) h.kind h.valid h.least h.greatest
