use Rattle.lerc_decode.proofs.Bodies.{marked_count}
use Rattle.lerc_decode.proofs.blob.body.raster_of.Goals as goal

pub fill_raster-requires-clause-valid : goal.fill_raster-requires-clause-valid
fill_raster-requires-clause-valid c =
    marked_count c.args.before.now c.args.blob.now.header c.args.blob.now.bytes.now c.in-Ok.mask c.in_ok-raster.raster c.in_ok-raster.ensures.ok

pub returns-in-Ok-fill_raster-clause-ok : goal.returns-in-Ok-fill_raster-clause-ok
returns-in-Ok-fill_raster-clause-ok c = c.in-Ok-fill_raster.ensures.ok c.args.before.now c.in_ok-raster.ensures.ok

pub returns-in-Err-fill_raster-clause-fault : goal.returns-in-Err-fill_raster-clause-fault
returns-in-Err-fill_raster-clause-fault c = c.in-Err-fill_raster.ensures.fault c.args.before.now c.in_ok-raster.ensures.ok
