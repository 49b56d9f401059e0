-- Runs of pixels in the two vectors of a raster.
use Rattle.std.specs.Prelude.{ℕ, ℤ, Bool, false, List, get_or}
use Rattle.std.specs.List.{filter, range_with_len}
use Rattle.lane_kernels.specs.Kernels.{IsLeast, IsGreatest}
use Rattle.raster_cells.specs.declared.kind.PixelType.{PixelType}
use Rattle.raster_cells.specs.Distance.{value_above}

-- the marked pixels among `count` from `from` on
abbrev pub run_places : List Bool → ℕ → ℕ → List ℕ
run_places marks from count = filter (λ k. get_or marks k false) (range_with_len from count)

-- the least and the greatest of the values are so far above the least of the type
pub record AreEnds (kind : PixelType) (values : List ℤ) (near far : ℕ) : Type 0 where
  pub least : IsLeast values (value_above kind near)
  pub greatest : IsGreatest values (value_above kind far)
