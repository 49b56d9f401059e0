use Rattle.std.proofs.Common.{◌≡◌, Err, true, false, ap, sym, ◌∙◌}
use Rattle.bundle_lines.proofs.Raised.{answers_ready, answers_stops, keeps_raised}
use Rattle.bundle_lines.proofs.builds.raise.Goals as goal

pub returns-in-Ok-clause-images : goal.returns-in-Ok-clause-images
returns-in-Ok-clause-images g c = λ told readable.
    keeps_raised c.args.updates.now c.args.session.now _ _ c.requires.serving.running (c.requires.serving.ready told) readable (c.build.ensures.images told) (c.build.ensures.beside told)

pub returns-in-Err-clause-images : goal.returns-in-Err-clause-images
returns-in-Err-clause-images g c = λ told readable.
    keeps_raised c.args.updates.now c.args.session.now _ _ c.requires.serving.running (c.requires.serving.ready told) readable (c.build.ensures.images told) (c.build.ensures.beside told)

pub returns-in-Ok-clause-ready : goal.returns-in-Ok-clause-ready
returns-in-Ok-clause-ready g c = λ told. c.in-Ok.ensures.ready told c.requires.serving.running

pub returns-in-Err-clause-ready : goal.returns-in-Err-clause-ready
returns-in-Err-clause-ready g c = λ told.
    rw c.build_stop.ensures (answers_ready c.in-Err.fault _ (c.in-Err.ensures.ready told c.requires.serving.running))

pub returns-in-Err-clause-stops : goal.returns-in-Err-clause-stops
returns-in-Err-clause-stops g c =
    let never : c.args.session.now.stopped ≡ true → ⊥ =
    λ is. let both : false ≡ true = sym c.requires.serving.running ∙ is in cc in
    rw c.build_stop.ensures (answers_stops c.args.updates.now c.in-Err.fault _ _ c.requires.fit c.in-Err.ensures.answers
    (λ is. never (c.in-Err.ensures.stopped.0 (ap (λ f. Err f) is))) never c.in-Err.ensures.stops)
