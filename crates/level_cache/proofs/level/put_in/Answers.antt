use Rattle.std.proofs.Common.{◌≡◌, ◌∙◌, sym, true, false}
use Rattle.outside_io.proofs.VolumeLemmas.Moments.{during_map}
use Rattle.level_cache.proofs.Steps.{IsLeft, opening_put, put, putting, recovery_put, unopened, unrecovered}
use Rattle.level_cache.proofs.level.put_in.Goals as goal

pub returns-in-Err-clause-puts : goal.returns-in-Err-clause-puts
returns-in-Err-clause-puts g c = λ told.
    unrecovered c.in-Err.fault c.args.slot c.args.tile.now _ _ (g.met.V.Volume.present c.recover.new.vol (c.recover.ensures.told.same ∙ told)) (c.in-Err.ensures.images told) c.in-Err.ensures.answers (c.in-Err.ensures.says told)

pub returns-in-Err-clause-answers : goal.returns-in-Err-clause-answers
returns-in-Err-clause-answers g c = recovery_put _ c.in-Err.fault c.in-Err.ensures.answers

pub returns-in-Err-open-clause-puts : goal.returns-in-Err-open-clause-puts
returns-in-Err-open-clause-puts g c = λ told.
    let told_1 = c.recover.ensures.told.same ∙ told in
    let left : IsLeft (g.V.Volume.history c.args.vol.now) (g.V.Volume.history c.recover.new.vol) (g.V.Volume.history c.open.new.vol) =
    record { during = c.in-Ok.ensures.images told; files = c.in-Ok.ensures.files told; recovered = c.in-Ok.ensures.done told; found = c.in-Ok.found; leaves = c.in-Ok.ensures.leaves told; still = c.open.ensures.during told_1 } in
    unopened c.in-Err-open.fault c.args.slot c.args.tile.now _ _ _ (g.met.V.Volume.present c.open.new.vol (c.open.ensures.told.same ∙ told_1)) left c.in-Err-open.ensures.answers (c.in-Err-open.ensures.refused told_1)

pub returns-in-Err-open-clause-answers : goal.returns-in-Err-open-clause-answers
returns-in-Err-open-clause-answers g c = opening_put _ c.in-Err-open.fault c.in-Err-open.ensures.answers

pub returns-clause-puts : goal.returns-clause-puts
returns-clause-puts g c = λ told.
    let told_1 = c.recover.ensures.told.same ∙ told in
    let told_2 = c.open.ensures.told.same ∙ told_1 in
    let left : IsLeft (g.V.Volume.history c.args.vol.now) (g.V.Volume.history c.recover.new.vol) (g.V.Volume.history c.open.new.vol) =
    record { during = c.in-Ok.ensures.images told; files = c.in-Ok.ensures.files told; recovered = c.in-Ok.ensures.done told; found = c.in-Ok.found; leaves = c.in-Ok.ensures.leaves told; still = c.open.ensures.during told_1 } in
    put c.put_blob.result c.args.slot c.args.tile.now _ _ _ _ c.requires.slot (g.met.V.Volume.present c.args.vol.now told) (g.met.V.Volume.present c.put_blob.new.vol (c.put_blob.ensures.told.same ∙ told_2)) left (c.in-Ok-open.ensures.ok told_1).opens
    (record {
      done = c.put_blob.ensures.done told_2;
      fits = c.put_blob.ensures.fits;
      room = c.put_blob.ensures.room told_2;
      full = c.put_blob.ensures.full told_2;
      answers = c.put_blob.ensures.answers;
      running = λ is. absurd (let both : false ≡ true = sym c.in-Ok-open.ensures.running ∙ c.put_blob.ensures.stopped.0 is in cc);
      images = during_map _ _ _ _ (λ d so. so c.in-Ok-open.ensures.running) (c.put_blob.ensures.images told_2);
      kept = c.put_blob.ensures.kept told_2;
    })

pub returns-clause-answers : goal.returns-clause-answers
returns-clause-answers g c = putting _ c.put_blob.result c.put_blob.ensures.answers (λ is. absurd (let both : false ≡ true = sym c.in-Ok-open.ensures.running ∙ c.put_blob.ensures.stopped.0 is in cc))
