-- What is asked for.
use Rattle.std.specs.Prelude.{◌≡◌, ℕ}
use Rattle.raster_values.specs.Raster.{Pixels, IsRaster}
use Rattle.lerc_header.specs.declared.header.Version.{Version}
use Rattle.lerc_header.specs.declared.header.Version.TheVariants.{V3}
use Rattle.raster_cells.specs.Step.{IsTwiceError}

-- a raster that a blob of this version can hold, and a step that a header can declare
pub record IsAsked (r : Pixels) (version : Version) (step : ℕ) : Type 0 where
  pub sound : IsRaster r
  pub step_allowed : IsTwiceError step
  pub flat : version ≡ V3 → r.depth ≡ 1
