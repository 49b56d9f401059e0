use Rattle.std.proofs.Common.{◌∙◌}
use Rattle.tile_workers.proofs.Tiles.{few_all}
use Rattle.tile_workers.proofs.workers.encode_tiles.Goals as goal

pub returns-in-Ok-clause-few : goal.returns-in-Ok-clause-few
returns-in-Ok-clause-few g c = few_all c.args.coding.version c.args.coding.step c.args.tiles.now c.from_vec.result (c.from_vec.ensures ∙ c.in-Ok.ensures.blobs) c.in-Ok.ensures.encoded
