-- A raster in order: its values scattered one behind the other, one list for every valid pixel, and
-- its mask as bytes.
use Rattle.std.specs.Prelude.{◌≡◌, ℤ, List, ℕ, pos, ◌<◌, get_or, ◌+◌, ◌*◌, ◌/◌, ◌≤◌, false, length, None, is_some}
use Rattle.raster_cells.specs.Values.{AreValues}
use Rattle.raster_cells.specs.Masks.{mask_bit}
use Rattle.raster_values.specs.Raster.{Pixels, values_of, InShape, IsValidAt, value_at, valid_at, IsRaster}
use Rattle.raster_values.specs.Block.{SameMask}
use Rattle.raster_values.specs.Places.{SameShape}

-- the valid pixels have these values, in order and depth innermost
pub record ScattersAll (old new : Pixels) (values : List ℤ) : Type 0 where
  pub same : SameMask old new
  pub scattered : values_of new.pixels ≡ values

-- each valid pixel has this list
pub record FillsValid (old new : Pixels) (values : List ℤ) : Type 0 where
  pub same : SameMask old new
  pub each : (i j d : ℕ) → InShape old i j → IsValidAt old i j → d < old.depth
      → value_at new i j d ≡ get_or values d (pos 0)

-- each valid pixel has the list that the bytes stand for
pub record FillsBytes (old new : Pixels) (bytes : List ℕ) : Type 0 where
  pub list : List ℤ
  pub stands : AreValues old.kind bytes list
  pub filled : FillsValid old new list

-- the pixels whose bits are 1 are valid, and every value is 0
pub record MarksBits (old new : Pixels) (mask : List ℕ) : Type 0 where
  pub shape : SameShape old new
  pub places : (i j : ℕ) → InShape old i j → valid_at new i j ≡ mask_bit mask (i * old.cols + j)
  pub zeros : (i j d : ℕ) → InShape old i j → d < old.depth → value_at new i j d ≡ pos 0

-- the bytes are the raster's mask, and the bits behind its last pixel are 0
pub record IsMaskOf (r : Pixels) (mask : List ℕ) : Type 0 where
  pub size : length mask ≡ (r.rows * r.cols + 7) / 8
  pub bytes : (k : ℕ) → get_or mask k 0 < 256
  pub bits : (k : ℕ) → k < r.rows * r.cols → mask_bit mask k ≡ is_some (get_or r.pixels k None)
  pub spare : (k : ℕ) → r.rows * r.cols ≤ k → mask_bit mask k ≡ false

-- the valid pixels have the values that the bytes stand for, in order and depth innermost
pub record ScattersBytes (old new : Pixels) (bytes : List ℕ) : Type 0 where
  pub same : SameMask old new
  pub scattered : AreValues old.kind bytes (values_of new.pixels)

-- no two rasters come of one filling, or of one marking
abbrev pub FillingIsOne : Type 0
FillingIsOne = (old r s : Pixels) (values : List ℤ) → IsRaster r → IsRaster s
    → FillsValid old r values → FillsValid old s values → r ≡ s

abbrev pub MarkingIsOne : Type 0
MarkingIsOne = (old r s : Pixels) (mask : List ℕ) → IsRaster r → IsRaster s → MarksBits old r mask
    → MarksBits old s mask → r ≡ s

-- no two rasters come of one scattering in order
abbrev pub ScatteringAllIsOne : Type 0
ScatteringAllIsOne = (old r s : Pixels) (values : List ℤ) → IsRaster r → IsRaster s
    → ScattersAll old r values → ScattersAll old s values → r ≡ s
