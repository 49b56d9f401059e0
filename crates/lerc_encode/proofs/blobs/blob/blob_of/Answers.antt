use Rattle.std.proofs.Common.{◌≡◌, ◌∙◌, length}
use Rattle.std.proofs.lemmas.List.{take_at}
use Rattle.lerc_encode.proofs.Plans.{own_asked, own_plan, planned_own}
use Rattle.lerc_encode.proofs.blobs.blob.blob_of.Goals as goal

pub blob_len-size-requires : goal.blob_len-size-requires
blob_len-size-requires g c = own_plan (g.V.View.pixels c.args.raster.now) c.args.version c.args.step c.in_ok-plan.plan c.in_ok-plan.ensures.plan

pub fill-requires-clause-asked : goal.fill-requires-clause-asked
fill-requires-clause-asked g c = own_asked (g.V.View.pixels c.args.raster.now) c.args.version c.args.step c.in_ok-plan.plan c.in_ok-plan.ensures.plan c.requires

pub fill-requires-clause-plan : goal.fill-requires-clause-plan
fill-requires-clause-plan g c = own_plan (g.V.View.pixels c.args.raster.now) c.args.version c.args.step c.in_ok-plan.plan c.in_ok-plan.ensures.plan

pub fill-requires-clause-room : goal.fill-requires-clause-room
fill-requires-clause-room g c = c.deref_mut.ensures.len ∙ c.in_ok-blob.ensures.len ∙ c.blob_len-size.ensures.value

pub returns : goal.returns
returns g c =
    let is = c.in_ok-plan.ensures in
    let long : length c.fill.new.blob ≡ c.in_ok-blob.blob.len =
    c.fill.auto.blob ∙ c.deref_mut.ensures.len in
    take_at c.fill.new.blob _ c.in_ok-blob.blob.len long ∙ c.fill.ensures
    ∙ planned_own (g.V.View.pixels c.args.raster.now) c.args.version c.args.step c.in_ok-plan.plan is.plan is.runs
