use Rattle.std.proofs.Common.{◌+◌, subst, refl}
use Rattle.overview_updates.specs.declared.halves.Half.{Half}
use Rattle.overview_updates.specs.declared.places.Waiting.{Waiting}
use Rattle.overview_updates.specs.inside.Fours.{IsHalfAt}
use Rattle.overview_updates.proofs.SoFar.{half_waits, none_waits, refused_waits}
use Rattle.overview_updates.proofs.places.wait_half.Goals as goal

pub returns-in-Nothing-clause-waits : goal.returns-in-Nothing-clause-waits
returns-in-Nothing-clause-waits c = λ told bundle from w half.
    let before = c.args.waiting.now in
    let v = c.args.asked.now.coding.version in
    let after : Waiting = record { batch = before.batch; place = before.place + 1 } in
    none_waits told bundle c.args.asked.now.quarter v from before after c.requires.place w refl refl (subst (λ (h : Half). IsHalfAt told bundle v before.place h) c.in-Nothing.is half)

pub returns-in-Refused-clause-waits : goal.returns-in-Refused-clause-waits
returns-in-Refused-clause-waits c = λ told bundle from w half.
    let before = c.args.waiting.now in
    let v = c.args.asked.now.coding.version in
    refused_waits told bundle c.args.asked.now.quarter v from before c.in-Refused.stop c.requires.place w (subst (λ (h : Half). IsHalfAt told bundle v before.place h) c.in-Refused.is half)

pub returns-in-Ok-clause-waits : goal.returns-in-Ok-clause-waits
returns-in-Ok-clause-waits c = λ told bundle from w half.
    let before = c.args.waiting.now in
    let v = c.args.asked.now.coding.version in
    let after : Waiting = record { batch = c.push.new.self; place = before.place + 1 } in
    half_waits told bundle c.args.asked.now.quarter v from before after (record { slot = c.coarse_slot_of-slot.result; bands = c.in-Coarse.bands }) c.requires.place w refl c.in-Ok.ensures.ok c.coarse_slot_of-slot.ensures
    (subst (λ (h : Half). IsHalfAt told bundle v before.place h) c.in-Coarse.is half)
