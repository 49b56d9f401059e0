use Rattle.lerc_decode.proofs.Bodies.{mask_err}
use Rattle.lerc_decode.proofs.blob.body.mark_raster.Goals as goal

pub returns-in-Err-clause-fault : goal.returns-in-Err-clause-fault
returns-in-Err-clause-fault c = mask_err c.args.before.now c.args.blob.now.header c.args.blob.now.bytes.now c.in-Err.stop c.args.blob.now.sum c.in-Err.ensures.fault
