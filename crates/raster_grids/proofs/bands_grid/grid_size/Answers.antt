use Rattle.std.proofs.Common.{arith, refl}
use Rattle.raster_grids.proofs.BandSizes.{grid_long}
use Rattle.raster_grids.proofs.bands_grid.grid_size.Goals as goal

pub returns-clause-size : goal.returns-clause-size
returns-clause-size c = λ grid stands. omega (arith, c.front_size.ensures.one refl, c.band_size.ensures.value, grid_long grid c.args.raster.now stands)
