-- Values that are all one.
use Rattle.std.specs.Prelude.{ℕ, ℤ, ◌+◌, ◌*◌, ◌≤◌, List, length, drop}
use Rattle.raster_cells.specs.declared.kind.PixelType.{PixelType}
use Rattle.raster_cells.specs.PixelType.{InRange, Spells, bytes_of}

pub record IsOneValue (kind : PixelType) (bytes : List ℕ) (value : ℤ) : Type 0 where
  pub in_range : InRange kind value
  pub each : (k : ℕ) → k * bytes_of kind + bytes_of kind ≤ length bytes
      → Spells kind (drop (k * bytes_of kind) bytes) value
