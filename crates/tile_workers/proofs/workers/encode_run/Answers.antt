use Rattle.tile_workers.proofs.Tiles.{run_more}
use Rattle.tile_workers.proofs.workers.encode_run.Goals as goal

pub loop-i-preserved : goal.loop-i-preserved
loop-i-preserved g c =
    run_more c.args.coding.version c.args.coding.step c.args.tiles.now c.loop-i.i c.index-tiles-i.result c.loop-i.blobs.items c.add_next.new.blobs.items c.loop-i-test.true c.index-tiles-i.is c.in-Ok.ensures.blobs c.in-Ok.ensures.encoded c.loop-i.invariant
