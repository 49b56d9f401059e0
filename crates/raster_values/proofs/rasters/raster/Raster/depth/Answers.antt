use Rattle.std.proofs.Common.{subst}
use Rattle.raster_values.specs.Raster.{IsRaster}
use Rattle.raster_values.proofs.Views.{sound}
use Rattle.raster_values.proofs.rasters.raster.Raster.depth.Goals as goal

pub returns-clause-sound : goal.returns-clause-sound
returns-clause-sound c = subst IsRaster c.self.view_is (sound _ c.self.invariant)
