use Rattle.tile_audit.specs.inside.Waits.{IsTileOf}
use Rattle.tile_audit.proofs.Zips.{zip_more}
use Rattle.tile_audit.proofs.judging.judge_run.Goals as goal

pub loop-i-preserved : goal.loop-i-preserved
loop-i-preserved g c =
    zip_more IsTileOf c.args.tiles.now c.loop-i.i c.index-tiles-i.result c.loop-i.told.items c.add_next.new.told.items c.loop-i-test.true c.index-tiles-i.is c.loop-i.invariant c.in_ok-add_next.ensures
