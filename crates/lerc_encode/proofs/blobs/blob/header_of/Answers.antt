use Rattle.std.proofs.Common.{◌∙◌}
use Rattle.lerc_encode.specs.inside.Layout.{planned_runs}
use Rattle.lerc_encode.proofs.Encoded.{length_choice}
use Rattle.lerc_encode.proofs.Laying.{laid_out}
use Rattle.lerc_encode.proofs.blobs.blob.header_of.Goals as goal

pub returns : goal.returns
returns g c =
    let runs = planned_runs c.args.plan.now (g.V.View.pixels c.args.raster.now) in
    laid_out runs c.args.plan.now.base (g.V.View.pixels c.args.raster.now) c.requires.plan.base c.side_of.result c.args.size c.side_of.ensures
    (c.requires.size ∙ length_choice runs (g.V.View.pixels c.args.raster.now) c.args.plan.now.base.version c.args.plan.now.base.step)
