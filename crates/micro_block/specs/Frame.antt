-- What a block depends on, and what is asked of it.
use Rattle.std.specs.Prelude.{◌≡◌, ℕ, ℤ, ◌<◌, ◌≤◌, pos, ◌≤ℤ◌}
use Rattle.std.specs.Prelude.{List, All, length, get_or}
use Rattle.raster_cells.specs.declared.kind.PixelType.{PixelType}
use Rattle.raster_cells.specs.PixelType.{InRange}
use Rattle.micro_block.specs.declared.context.BlockCtx.{BlockCtx}

-- the type, the first column, the step, the top, and how many values there are
pub record Frame : Type 0 where
  pub kind : PixelType
  pub col : ℕ
  pub step : ℕ
  pub top : ℤ
  pub count : ℕ

-- the frame of a block of n values
abbrev pub frame_of : BlockCtx → ℕ → Frame
frame_of ctx n =
    record { kind = ctx.kind; col = ctx.col; step = ctx.step; top = ctx.top; count = n }

-- what is asked of the values of a block that is written
pub record AreWritable (f : Frame) (values : List ℤ) : Type 0 where
  pub counted : f.count ≡ length values
  pub few : length values ≤ 256
  pub step : 0 < f.step
  pub in_range : All (InRange f.kind) values
  pub below : (i : ℕ) → i < length values → get_or values i (pos 0) ≤ℤ f.top
