use Rattle.std.proofs.Common.{subst}
use Rattle.raster_values.specs.Raster.{IsRaster}
use Rattle.raster_values.proofs.RasterRefArrays.{seen_raster}
use Rattle.raster_values.proofs.rasters.raster_ref.RasterRef.rows.Goals as goal

pub returns-clause-sound : goal.returns-clause-sound
returns-clause-sound c = subst IsRaster c.self.view_is (seen_raster c.self.inside c.self.invariant)
