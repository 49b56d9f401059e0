use Rattle.lerc_c.proofs.Telling.{told}
use Rattle.lerc_c.proofs.decoding.raster_of.Goals as goal

pub returns-in-Ok-clause-ok : goal.returns-in-Ok-clause-ok
returns-in-Ok-clause-ok c = (c.in-Ok.decoded.size, c.in-Ok.ensures.ok)

pub returns-in-Err-clause-stop : goal.returns-in-Err-clause-stop
returns-in-Err-clause-stop c = told c.args.blob.now c.in-Err.stop c.in-Err.ensures.stop
