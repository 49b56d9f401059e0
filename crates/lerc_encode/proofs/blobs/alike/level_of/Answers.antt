use Rattle.std.proofs.Common.{ℤ, ◌∙◌, ap}
use mir.Syntax.{w64}
use mir.Val.{to_z, of_z}
use Rattle.lerc_encode.proofs.AlikeBlobs.{level_bits, level_greatest, level_least}
use Rattle.lerc_encode.proofs.blobs.alike.level_of.Goals as goal

pub returns-clause-least : goal.returns-clause-least
returns-clause-least c =
    ap (λ (z : ℤ). to_z w64 (of_z w64 z)) c.unwrap_or.ensures ∙ level_bits c.args.raster.kind c.args.raster.value c.args.raster.in_range
    ∙ level_least c.args.raster.kind c.args.raster.rows c.args.raster.cols c.args.raster.depth c.args.raster.value c.args.raster.shape

pub returns-clause-greatest : goal.returns-clause-greatest
returns-clause-greatest c =
    ap (λ (z : ℤ). to_z w64 (of_z w64 z)) c.unwrap_or.ensures ∙ level_bits c.args.raster.kind c.args.raster.value c.args.raster.in_range
    ∙ level_greatest c.args.raster.kind c.args.raster.rows c.args.raster.cols c.args.raster.depth c.args.raster.value c.args.raster.shape
