-- What the parts of the reader have found.
use Rattle.std.specs.Prelude.{◌≡◌, ℕ, pos, ◌+◌, ◌*◌, ◌<◌, ◌≤◌, List}
use Rattle.raster_cells.specs.Shapes.{IsShape}
use Rattle.double_bits.specs.Halves.{HalfDouble}
use Rattle.lerc_header.specs.declared.header.Version.{Version}
use Rattle.lerc_header.specs.declared.reading.Shape.{Shape}
use Rattle.lerc_header.specs.declared.reading.Counts.{Counts}
use Rattle.raster_cells.specs.Step.{IsTwiceError}
use Rattle.lerc_header.specs.Head.{i32_at, double_at, shift, head_length, depth_at}

-- rows, columns and depth, which are a raster's
pub record IsShapeAt (v : Version) (bytes : List ℕ) (s : Shape) : Type 0 where
  pub rows : i32_at bytes 14 ≡ pos s.rows
  pub cols : i32_at bytes 18 ≡ pos s.cols
  pub depth : depth_at v bytes ≡ pos s.depth
  pub shape : IsShape s.rows s.cols s.depth

-- the valid count, the side of a block and the blob's size, each allowed beside this shape
pub record AreCountsAt (v : Version) (bytes : List ℕ) (s : Shape) (c : Counts) : Type 0 where
  pub valid : i32_at bytes (22 + shift v) ≡ pos c.valid
  pub valid_below : c.valid ≤ s.rows * s.cols
  pub side : i32_at bytes (26 + shift v) ≡ pos c.side
  pub side_above : 0 < c.side
  pub size : i32_at bytes (30 + shift v) ≡ pos c.size
  pub size_above : head_length v + 4 ≤ c.size
  pub size_below : c.size ≤ 134217728

-- twice maxZError
pub record IsStepAt (v : Version) (bytes : List ℕ) (step : ℕ) : Type 0 where
  pub there : HalfDouble (double_at bytes (38 + shift v)) (pos step)
  pub allowed : IsTwiceError step
