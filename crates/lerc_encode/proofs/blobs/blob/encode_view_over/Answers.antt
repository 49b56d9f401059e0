use Rattle.std.proofs.Common.{◌≡◌, ◌∙◌, ◌++◌, ℕ, List, subst, length, drop, ap, arith}
use Rattle.lerc_encode.specs.Choice.{chosen_blob}
use Rattle.lerc_encode.specs.Encoded.{Declares, IsEncodedOnce}
use Rattle.lerc_encode.proofs.Asked.{asked_of}
use Rattle.lerc_encode.proofs.Own.{declares, encoded_once}
use Rattle.lerc_encode.proofs.Plans.{own_bytes}
use Rattle.lerc_encode.proofs.blobs.blob.encode_view_over.Goals as goal

pub returns-then-size-out-clause-room : goal.returns-then-size-out-clause-room
returns-then-size-out-clause-room g c = λ n e.
    let r = (g.V.View.pixels c.args.raster.now) in
    let same : n ≡ c.blob_len-size.result = cc in
    let value = c.blob_len-size.ensures.value ∙ ap length (own_bytes (g.V.View.pixels c.args.raster.now) c.args.version c.get.result c.args.step c.in_ok-plan.plan c.in_ok-plan.ensures.plan c.in_ok-plan.ensures.runs c.get.ensures.step) in
    let over = c.if-size-out.true in
    let asked = asked_of r c.args.version c.get.result c.needs_v4.result c.depth.result c.depth.ensures.value c.depth.ensures.sound c.get.ensures.allowed c.if-needs_v4.false c.needs_v4.ensures in
    (omega (arith, same, value), (omega (arith, same, over), subst (λ step. IsEncodedOnce (chosen_blob r c.args.version step) r step) c.get.ensures.step (encoded_once r c.args.version c.get.result asked)))

pub returns-clause-size : goal.returns-clause-size
returns-clause-size g c = c.blob_len-size.ensures.value ∙ ap length (own_bytes (g.V.View.pixels c.args.raster.now) c.args.version c.get.result c.args.step c.in_ok-plan.plan c.in_ok-plan.ensures.plan c.in_ok-plan.ensures.runs c.get.ensures.step)

pub returns-clause-laid : goal.returns-clause-laid
returns-clause-laid g c =
    ap (λ (bytes : List ℕ). bytes ++ drop c.blob_len-size.result c.args.out.now) (c.fill.ensures ∙ own_bytes (g.V.View.pixels c.args.raster.now) c.args.version c.get.result c.args.step c.in_ok-plan.plan c.in_ok-plan.ensures.plan c.in_ok-plan.ensures.runs c.get.ensures.step)

pub returns-clause-decodes : goal.returns-clause-decodes
returns-clause-decodes g c =
    let r = (g.V.View.pixels c.args.raster.now) in
    let asked = asked_of r c.args.version c.get.result c.needs_v4.result c.depth.result c.depth.ensures.value c.depth.ensures.sound c.get.ensures.allowed c.if-needs_v4.false c.needs_v4.ensures in
    subst (λ step. IsEncodedOnce (chosen_blob r c.args.version step) r step) c.get.ensures.step (encoded_once r c.args.version c.get.result asked)

pub returns-clause-declares : goal.returns-clause-declares
returns-clause-declares g c =
    let r = (g.V.View.pixels c.args.raster.now) in
    let asked = asked_of r c.args.version c.get.result c.needs_v4.result c.depth.result c.depth.ensures.value c.depth.ensures.sound c.get.ensures.allowed c.if-needs_v4.false c.needs_v4.ensures in
    subst (λ step. Declares (chosen_blob r c.args.version step) c.args.version step) c.get.ensures.step (declares r c.args.version c.get.result asked)
