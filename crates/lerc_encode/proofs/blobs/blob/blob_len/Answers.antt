use Rattle.std.proofs.Common.{◌+◌, ◌∙◌, sym}
use Rattle.lerc_encode.specs.inside.Layout.{planned_runs}
use Rattle.lerc_encode.proofs.Encoded.{length_choice}
use Rattle.lerc_encode.proofs.blobs.blob.blob_len.Goals as goal

pub returns-clause-value : goal.returns-clause-value
returns-clause-value g c =
    let head = c.head_length.ensures in
    let behind = c.behind_len.ensures.value in
    (λ t. head t + behind t) ∙ sym (length_choice (planned_runs c.args.plan.now (g.V.View.pixels c.args.raster.now)) (g.V.View.pixels c.args.raster.now) c.args.plan.now.base.version c.args.plan.now.base.step)
