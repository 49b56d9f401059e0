use Rattle.grid_blobs.proofs.Reading.{made_deep, made_stop}
use Rattle.grid_blobs.proofs.encode.encode_grid.Goals as goal

pub returns-in-Err-clause-refused : goal.returns-in-Err-clause-refused
returns-in-Err-clause-refused g c = (c.in-Err.ensures.grid c.args.version).0

pub returns-in-Err-clause-deep : goal.returns-in-Err-clause-deep
returns-in-Err-clause-deep g c = (c.in-Err.ensures.grid c.args.version).1

pub returns-clause-refused : goal.returns-clause-refused
returns-clause-refused g c = made_stop c.args.version c.args.error (g.S.Source.left c.args.src.now) c.in-Ok.bands c.blobs_of.result c.in-Ok.ensures.grid.1 c.blobs_of.ensures

pub returns-clause-deep : goal.returns-clause-deep
returns-clause-deep g c = made_deep c.args.version c.args.error c.in-Ok.bands c.blobs_of.result c.blobs_of.ensures
