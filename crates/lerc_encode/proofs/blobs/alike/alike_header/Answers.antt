use Rattle.lerc_encode.proofs.AlikeBlobs.{alike_head}
use Rattle.lerc_encode.proofs.blobs.alike.alike_header.Goals as goal

pub returns : goal.returns
returns c =
    alike_head c.args.raster.kind c.args.raster.rows c.args.raster.cols c.args.raster.depth c.args.raster.value c.args.version c.args.step c.args.raster.shape c.args.raster.in_range c.valid_of.result c.alike_len.result c.level_of-level.result
    c.valid_of.ensures c.alike_len.ensures c.level_of-level.ensures.least c.level_of-level.ensures.greatest
