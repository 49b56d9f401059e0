use Rattle.lerc_encode.proofs.Laying.{base_of}
use Rattle.lerc_encode.proofs.blobs.blob.base_header.Goals as goal

pub returns-clause-base : goal.returns-clause-base
returns-clause-base g c =
    base_of (g.V.View.pixels c.args.raster.now) c.args.version c.args.step c.requires.asked _ _ _ _ _ _ _ c.rows.ensures.value c.cols.ensures.value c.depth.ensures.value c.valid_count.ensures.value c.kind.ensures.value c.requires.ranges.least c.requires.ranges.greatest
