use Rattle.lerc_encode.specs.inside.Layout.{planned_runs}
use Rattle.lerc_encode.proofs.Laying.{behind_length}
use Rattle.lerc_encode.proofs.blobs.blob.behind_len.Goals as goal

pub returns-clause-value : goal.returns-clause-value
returns-clause-value g c =
    behind_length (planned_runs c.args.plan.now (g.V.View.pixels c.args.raster.now)) (g.V.View.pixels c.args.raster.now) c.args.plan.now.base.version c.args.plan.now.base.step c.args.plan.now.runs c.image_len.result c.requires.runs c.image_len.ensures.value
