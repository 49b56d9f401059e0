use Rattle.std.proofs.Common.{◌≡◌, Err, inl, ap, sym, ◌∙◌}
use Rattle.outside_io.specs.volume.History.{current}
use Rattle.program_ends.specs.declared.stop.Stop.TheVariants.{Volume}
use Rattle.opened_bundle.proofs.BundleOpening.{left_alone, opening_cause, recovering, still, unrecovered}
use Rattle.program_ends.proofs.Ends.{caused}
use Rattle.opened_bundle.proofs.Resting.{rests_refused, shut_recovered}
use Rattle.opened_bundle.proofs.opening.recover_bundle.Goals as goal

pub returns-in-Err-clause-gives : goal.returns-in-Err-clause-gives
returns-in-Err-clause-gives g c =
    rw c.stop_from.ensures (unrecovered (g.V.Volume.told c.args.vol.now) (g.V.Volume.history c.args.vol.now) c.in-Err.fault c.in-Err.ensures.answers c.in-Err.ensures.says)

pub returns-in-Ok-clause-volume : goal.returns-in-Ok-clause-volume
returns-in-Ok-clause-volume g c =
    recovering _ _ (still _ _ _ c.in-Ok.ensures.told.counted (λ is. absurd cc)) c.in-Ok.ensures.told.same c.in-Ok.ensures.images c.in-Ok.ensures.files (λ told other. inl (c.in-Ok.found, c.in-Ok.ensures.leaves told))

pub returns-in-Err-clause-volume : goal.returns-in-Err-clause-volume
returns-in-Err-clause-volume g c =
    recovering _ _
    (caused _ _ _ _ (λ is. ap (λ s. Err s) (c.stop_from.ensures ∙ is)) (λ is. sym c.stop_from.ensures ∙ (let same : c.stop_from.result ≡ Volume = cc in same))
    (opening_cause c.in-Err.fault _ _ (inl c.in-Err.ensures.answers) c.in-Err.ensures.told.counted))
    c.in-Err.ensures.told.same c.in-Err.ensures.images c.in-Err.ensures.files
    (λ told other. left_alone c.in-Err.fault (g.V.Volume.history c.args.vol.now) (g.V.Volume.history c.recover.new.vol) c.in-Err.ensures.answers (λ is. other (ap (λ s. Err s) (c.stop_from.ensures ∙ is))) (c.in-Err.ensures.says told) (c.in-Err.ensures.refused told))

pub returns-in-Ok-clause-rests : goal.returns-in-Ok-clause-rests
returns-in-Ok-clause-rests g c = λ told. shut_recovered _ _ _ (c.in-Ok.ensures.done told)

pub returns-in-Err-clause-rests : goal.returns-in-Err-clause-rests
returns-in-Err-clause-rests g c = λ told.
    rw c.stop_from.ensures (rests_refused c.in-Err.fault (current (g.V.Volume.history c.args.vol.now)) _ c.in-Err.ensures.answers (c.in-Err.ensures.refused told))
