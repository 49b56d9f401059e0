use Rattle.lerc_encode.proofs.Forming.{constant_is}
use Rattle.lerc_encode.proofs.image.choosing.is_constant.Goals as goal

pub returns : goal.returns
returns g c = constant_is c.args.base.now (g.V.View.pixels c.args.raster.now) c.requires
