use Rattle.lerc_c.proofs.Giving.{whole_given}
use Rattle.lerc_c.proofs.band_rasters.whole_raster.Goals as goal

pub returns-in-Ok : goal.returns-in-Ok
returns-in-Ok c = whole_given c.args.fit.arrays.kind c.args.fit.arrays.rows c.args.fit.arrays.cols c.args.fit.arrays.depth c.args.fit.arrays.values.now c.in-Ok.raster c.in-Ok.ensures.ok.1 c.in-Ok.ensures.ok.0
