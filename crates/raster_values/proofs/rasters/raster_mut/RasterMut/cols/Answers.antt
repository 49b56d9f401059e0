use Rattle.raster_values.specs.RasterMut.{inside_of}
use Rattle.raster_values.proofs.Views.{sound}
use Rattle.raster_values.proofs.rasters.raster_mut.RasterMut.cols.Goals as goal

pub returns-clause-sound : goal.returns-clause-sound
returns-clause-sound c = sound (inside_of c.args.self.now) c.args.self.now.inside
