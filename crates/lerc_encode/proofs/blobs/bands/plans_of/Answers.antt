use Rattle.std.proofs.Common.{◌+◌, ◌∙◌, ap, Bool, sym, subst, List}
use Rattle.raster_values.specs.Flat.{marks_of}
use Rattle.lerc_encode.specs.Masks.{runs_unless}
use Rattle.lerc_encode.specs.declared.blobs.blob.Plan.{Plan}
use Rattle.lerc_encode.specs.inside.Joined.{ArePlans, IsPlanAt}
use Rattle.lerc_encode.proofs.PlanSteps.{plans_more}
use Rattle.lerc_encode.proofs.blobs.bands.plans_of.Goals as goal

pub loop-k-preserved : goal.loop-k-preserved
loop-k-preserved c =
    let bands = c.args.bands.now in
    let r = c.at-raster.result.now in
    let k = c.loop-k.k in
    let p = c.in_ok-plan.plan in
    let taken = c.is_taken.ensures r c.at-raster.ensures in
    let at : IsPlanAt bands c.args.version c.args.step k r p = record { plan = c.in_ok-plan.ensures.plan; runs = c.in_ok-plan.ensures.runs ∙ ap (λ (b : Bool). runs_unless b (marks_of r)) taken } in
    subst (λ (plans : List Plan). ArePlans bands c.args.version c.args.step (k + 1) plans (c.loop-k.size + c.blob_len-size.result)) (sym c.in_ok-push.ensures.items)
    (plans_more bands c.args.version c.args.step k c.loop-k.size c.blob_len-size.result c.loop-k.plans.items r p c.loop-k.invariant c.at-raster.ensures at c.blob_len-size.ensures.value c.blob_len-size.ensures.few)
