-- Bytes that stand for so many values.
use Rattle.std.specs.Prelude.{◌≡◌, ℕ, ◌≤◌, List, All, ◌*◌, length}
use Rattle.raster_cells.specs.declared.kind.PixelType.{PixelType}
use Rattle.raster_cells.specs.PixelType.{InRange, bytes_of}
use Rattle.raster_cells.specs.Values.{values_bytes}
use Rattle.raster_cells.specs.CellList.{values_in}

pub record AreValueBytes (kind : PixelType) (count : ℕ) (bytes : List ℕ) : Type 0 where
  pub few : count ≤ 16777216
  pub bytes_are : bytes ≡ values_bytes kind (values_in kind count bytes)
  pub in_range : All (InRange kind) (values_in kind count bytes)

-- the same, with what follows of it said
pub record AreHeld (kind : PixelType) (count : ℕ) (bytes : List ℕ) : Type 0 where
  pub few : count ≤ 16777216
  pub counted : length (values_in kind count bytes) ≡ count
  pub size : length bytes ≡ count * bytes_of kind
  pub bytes_are : bytes ≡ values_bytes kind (values_in kind count bytes)
  pub in_range : All (InRange kind) (values_in kind count bytes)
