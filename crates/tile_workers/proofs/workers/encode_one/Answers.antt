use Rattle.tile_workers.proofs.Tiles.{encoded_so}
use Rattle.tile_workers.proofs.workers.encode_one.Goals as goal

pub returns-in-Ok-clause-encoded : goal.returns-in-Ok-clause-encoded
returns-in-Ok-clause-encoded c = encoded_so c.args.version c.args.step c.args.tile.now c.in-Ok.blobs c.in-Ok.ensures.chosen c.in-Ok.ensures.few c.in-Ok.ensures.decodes c.in-Ok.ensures.declares
