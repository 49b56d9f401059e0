use Rattle.lerc_encode.proofs.Forming.{empty_is}
use Rattle.lerc_encode.proofs.image.choosing.is_empty.Goals as goal

pub returns : goal.returns
returns g c = empty_is c.args.base.now (g.V.View.pixels c.args.raster.now) c.requires
