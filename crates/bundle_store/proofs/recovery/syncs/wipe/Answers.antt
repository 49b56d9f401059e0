use Rattle.std.proofs.Common.{◌∙◌}
use Rattle.bundle_store.proofs.Midway.{cut_midway, wipe_midway}
use Rattle.bundle_store.proofs.recovery.syncs.wipe.Goals as goal

pub returns-in_err-cut-clause-bytes : goal.returns-in_err-cut-clause-bytes
returns-in_err-cut-clause-bytes g c = λ told.
    cut_midway (g.V.Volume.history c.args.vol.now) _ c.cut.result (c.requires told) c.cut.ensures.time (c.cut.ensures.crash told)

pub returns-clause-bytes : goal.returns-clause-bytes
returns-clause-bytes g c = λ told.
    wipe_midway (g.V.Volume.history c.args.vol.now) _ c.cut.result (c.requires told) c.cut.ensures.time (c.cut.ensures.crash told)
    _ c.sync.result (c.in_ok-cut.ensures.ok told) c.sync.ensures.time (c.sync.ensures.crash (c.cut.ensures.told ∙ told))
