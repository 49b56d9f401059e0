-- What a call that gives a raster values leaves as it was.
use Rattle.std.specs.Prelude.{◌≡◌, Result, IfErr}
use Rattle.raster_values.specs.Raster.{IsRaster, Pixels}
use Rattle.raster_values.specs.Block.{SameMask}

-- it is a raster as before but for the values, and what no call changes of who keeps it is the
-- same, as which array the values are in
pub record KeepsMask {K : Type 0} (old new : Pixels) (kept_before kept_after : K) : Type 0 where
  pub raster : IsRaster new
  pub same : SameMask old new
  pub kept : kept_after ≡ kept_before

-- a source may be asked again, what no call changes of it is the same, and where it gave no more
-- it is told why
pub record LeavesSource {K A E : Type 0} (ready_again : Type 0) (kept_before kept_after : K)
    (stops : K → E → Type 0) (result : Result A E) : Type 0 where
  pub ready : ready_again
  pub kept : kept_after ≡ kept_before
  pub stop : IfErr result (λ fault. stops kept_before fault)
