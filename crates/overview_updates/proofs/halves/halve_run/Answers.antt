use Rattle.overview_updates.specs.inside.Fours.{IsHalved}
use Rattle.overview_updates.proofs.Zips.{zip_more}
use Rattle.overview_updates.proofs.halves.halve_run.Goals as goal

pub loop-four-preserved : goal.loop-four-preserved
loop-four-preserved c =
    zip_more (IsHalved c.args.version) c.args.fours.now c.loop-four.four-index c.four-item.result c.loop-four.halves.items c.add_half.new.halves.items c.loop-four-test.true c.four-item.is c.loop-four.invariant c.in_ok-add_half.ensures
