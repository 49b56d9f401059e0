use Rattle.std.proofs.Common.{◌≡◌, ℕ, List, [], ◌∷◌, None, ap, ◌<◌, ◌-◌, ◌∙◌, length, drop, sym, subst, arith, length-drop}
use Rattle.std.specs.Prelude.{IfOk}
use Rattle.std.proofs.lemmas.List.{length-take-le}
use Rattle.std.proofs.lemmas.Option.{slice_get_read}
use Rattle.raster_values.specs.Raster.{Pixels}
use Rattle.lerc_encode.specs.Choice.{chosen_bands}
use Rattle.lerc_encode.specs.inside.Asked.{IsAsked}
use Rattle.lerc_encode.proofs.Joining.{all_at, chosen_single, single_is}
use Rattle.lerc_encode.proofs.Plans.{own_asked, own_plan}
use Rattle.lerc_encode.proofs.PlanSteps.{laid_next, part_fits}
use Rattle.lerc_encode.proofs.blobs.bands.blobs_of.Goals as goal

pub blob_of-requires : goal.blob_of-requires
blob_of-requires c = all_at (λ r. IsAsked r c.args.version c.args.step) c.args.bands.now 0 c.at.result.now c.requires c.at.ensures

pub returns-then-len-eq1 : goal.returns-then-len-eq1
returns-then-len-eq1 c =
    let bands = c.args.bands.now in
    let r = c.at.result.now in
    let one : bands ≡ r ∷ [] = single_is bands r (sym c.len.ensures.value ∙ c.if-len-eq1.true) c.at.ensures in
    subst (λ (bytes : List ℕ). IfOk c.blob_of.result (λ blobs. blobs.items ≡ bytes))
    (sym (ap (λ (xs : List Pixels). chosen_bands None xs c.args.version c.args.step) one ∙ chosen_single r c.args.version c.args.step)) c.blob_of.ensures

pub lay-place-requires-clause-asked : goal.lay-place-requires-clause-asked
lay-place-requires-clause-asked c =
    let r = c.at-in-loop-k.result.now in
    let p = c.index.result.now in
    let low : c.loop-k.k < length c.args.bands.now = subst (λ n. c.loop-k.k < n) c.len-k-end.ensures.value c.loop-k-test.true in
    let there = slice_get_read c.in_ok-plans.field-0.plans.items (length c.args.bands.now) c.loop-k.k p (sym c.in_ok-plans.ensures.count) low c.index.ensures in
    own_asked r c.args.version c.args.step p (c.in_ok-plans.ensures.each c.loop-k.k r p c.at-in-loop-k.ensures there).plan (all_at (λ r. IsAsked r c.args.version c.args.step) c.args.bands.now c.loop-k.k r c.requires c.at-in-loop-k.ensures)

pub lay-place-requires-clause-plan : goal.lay-place-requires-clause-plan
lay-place-requires-clause-plan c =
    let r = c.at-in-loop-k.result.now in
    let p = c.index.result.now in
    let low : c.loop-k.k < length c.args.bands.now = subst (λ n. c.loop-k.k < n) c.len-k-end.ensures.value c.loop-k-test.true in
    let there = slice_get_read c.in_ok-plans.field-0.plans.items (length c.args.bands.now) c.loop-k.k p (sym c.in_ok-plans.ensures.count) low c.index.ensures in
    own_plan r c.args.version c.args.step p (c.in_ok-plans.ensures.each c.loop-k.k r p c.at-in-loop-k.ensures there).plan

pub lay-place-requires-clause-room : goal.lay-place-requires-clause-room
lay-place-requires-clause-room c =
    let r = c.at-in-loop-k.result.now in
    let p = c.index.result.now in
    let low : c.loop-k.k < length c.args.bands.now = subst (λ n. c.loop-k.k < n) c.len-k-end.ensures.value c.loop-k-test.true in
    let there = slice_get_read c.in_ok-plans.field-0.plans.items (length c.args.bands.now) c.loop-k.k p (sym c.in_ok-plans.ensures.count) low c.index.ensures in
    let fits = part_fits c.args.bands.now c.args.version c.args.step c.loop-k.k c.in_ok-plans.field-0.size c.loop-k.place c.in_ok-plans.field-0.plans.items r p c.in_ok-plans.ensures c.at-in-loop-k.ensures there c.loop-k.invariant.0 in
    let out = c.loop-k.out in
    let rest = length-drop c.loop-k.place out in
    let part = length-take-le (length out - c.loop-k.place) (drop c.loop-k.place out) (omega (arith, rest)) in
    let kept = c.loop-k.auto.out in
    let size = c.deref_mut.ensures.len in
    let all = c.in_ok-blobs.ensures.len in
    omega (arith, part, rest, fits, kept, size, all)

pub loop-k-preserved : goal.loop-k-preserved
loop-k-preserved c =
    let r = c.at-in-loop-k.result.now in
    let p = c.index.result.now in
    let low : c.loop-k.k < length c.args.bands.now = subst (λ n. c.loop-k.k < n) c.len-k-end.ensures.value c.loop-k-test.true in
    let there = slice_get_read c.in_ok-plans.field-0.plans.items (length c.args.bands.now) c.loop-k.k p (sym c.in_ok-plans.ensures.count) low c.index.ensures in
    let fits = part_fits c.args.bands.now c.args.version c.args.step c.loop-k.k c.in_ok-plans.field-0.size c.loop-k.place c.in_ok-plans.field-0.plans.items r p c.in_ok-plans.ensures c.at-in-loop-k.ensures there c.loop-k.invariant.0 in
    let kept = c.loop-k.auto.out in
    let size = c.deref_mut.ensures.len in
    let all = c.in_ok-blobs.ensures.len in
    laid_next c.args.bands.now c.args.version c.args.step c.loop-k.k c.loop-k.place c.lay-place.result r p c.loop-k.out c.lay-place.new.out _ (c.in_ok-plans.ensures.each c.loop-k.k r p c.at-in-loop-k.ensures there) c.at-in-loop-k.ensures
    c.loop-k.invariant.0 c.loop-k.invariant.1 (omega (arith, fits, kept, size, all)) c.lay-place.ensures.size c.lay-place.ensures.laid
