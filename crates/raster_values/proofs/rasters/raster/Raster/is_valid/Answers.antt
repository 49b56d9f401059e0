use Rattle.std.proofs.Common.{◌≡◌, subst}
use Rattle.raster_values.specs.Raster.{InShape, valid_at}
use Rattle.raster_values.proofs.Views.{valid_is}
use Rattle.raster_values.proofs.rasters.raster.Raster.is_valid.Goals as goal

pub returns : goal.returns
returns c =
    subst (λ r. InShape r c.args.row c.args.col → c.get.result ≡ valid_at r c.args.row c.args.col) c.self.view_is
    (valid_is c.self.inside c.args.row c.args.col c.get.result c.get.ensures) c.requires
