use Rattle.std.proofs.Common.{◌≡◌, ◌∙◌, sym, true, false}
use Rattle.level_cache.proofs.Steps.{IsLeft, getting, got, opening_get, recovery_get, unopened_get, unrecovered_get}
use Rattle.level_cache.proofs.level.get_from.Goals as goal

pub returns-in-Err-clause-gets : goal.returns-in-Err-clause-gets
returns-in-Err-clause-gets g c = λ told.
    unrecovered_get c.in-Err.fault c.args.slot _ _ (g.met.V.Volume.present c.recover.new.vol (c.recover.ensures.told.same ∙ told)) (c.in-Err.ensures.images told) (c.in-Err.ensures.files told) c.in-Err.ensures.answers (c.in-Err.ensures.says told)

pub returns-in-Err-clause-answers : goal.returns-in-Err-clause-answers
returns-in-Err-clause-answers g c = recovery_get c.in-Err.fault c.in-Err.ensures.answers

pub returns-in-Err-open-clause-gets : goal.returns-in-Err-open-clause-gets
returns-in-Err-open-clause-gets g c = λ told.
    let told_1 = c.recover.ensures.told.same ∙ told in
    let left : IsLeft (g.V.Volume.history c.args.vol.now) (g.V.Volume.history c.recover.new.vol) (g.V.Volume.history c.open.new.vol) =
    record { during = c.in-Ok.ensures.images told; files = c.in-Ok.ensures.files told; recovered = c.in-Ok.ensures.done told; found = c.in-Ok.found; leaves = c.in-Ok.ensures.leaves told; still = c.open.ensures.during told_1 } in
    unopened_get c.in-Err-open.fault c.args.slot _ _ _ (g.met.V.Volume.present c.open.new.vol (c.open.ensures.told.same ∙ told_1)) left c.in-Err-open.ensures.answers (c.in-Err-open.ensures.refused told_1)

pub returns-in-Err-open-clause-answers : goal.returns-in-Err-open-clause-answers
returns-in-Err-open-clause-answers g c = opening_get c.in-Err-open.fault c.in-Err-open.ensures.answers

pub returns-clause-gets : goal.returns-clause-gets
returns-clause-gets g c = λ told.
    let told_1 = c.recover.ensures.told.same ∙ told in
    let told_2 = c.open.ensures.told.same ∙ told_1 in
    let left : IsLeft (g.V.Volume.history c.args.vol.now) (g.V.Volume.history c.recover.new.vol) (g.V.Volume.history c.open.new.vol) =
    record { during = c.in-Ok.ensures.images told; files = c.in-Ok.ensures.files told; recovered = c.in-Ok.ensures.done told; found = c.in-Ok.found; leaves = c.in-Ok.ensures.leaves told; still = c.open.ensures.during told_1 } in
    got c.get.result c.args.slot _ _ _ _ c.requires.slot (g.met.V.Volume.present c.get.new.vol (c.get.ensures.told.same ∙ told_2)) left (c.in-Ok-open.ensures.ok told_1).opens
    (record {
      ok = c.get.ensures.ok told_2;
      tile = c.get.ensures.tile told_2;
      none = c.get.ensures.none told_2;
      refused = c.get.ensures.refused told_2;
      answers = c.get.ensures.answers;
      running = λ is. absurd (let both : false ≡ true = sym c.in-Ok-open.ensures.running ∙ c.get.ensures.stopped.0 is in cc);
      during = c.get.ensures.during told_2;
    })

pub returns-clause-answers : goal.returns-clause-answers
returns-clause-answers g c = getting c.get.result c.get.ensures.answers (λ is. absurd (let both : false ≡ true = sym c.in-Ok-open.ensures.running ∙ c.get.ensures.stopped.0 is in cc))
