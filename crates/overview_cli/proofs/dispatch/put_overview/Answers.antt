use Rattle.std.proofs.Common.{◌≡◌, ◌∙◌, Err, ap}
use Rattle.outside_io.specs.volume.History.{current}
use Rattle.program_ends.specs.declared.stop.Stop.TheVariants.{Volume}
use Rattle.overview_cli.proofs.Putting.{put_all_output, put_all_volume, put_few, unopened_output, unopened_volume}
use Rattle.overview_cli.proofs.dispatch.put_overview.Goals as goal

pub returns-in-Err-clause-output : goal.returns-in-Err-clause-output
returns-in-Err-clause-output g c = rw (c.requires.none, c.store_stop.ensures) (unopened_output c.args.updates.now _ _ g.K.Sink.held g.K.Sink.faults c.args.out.now c.in-Err.stop c.in-Err.ensures.refused)

pub returns-in-Err-clause-volume : goal.returns-in-Err-clause-volume
returns-in-Err-clause-volume g c =
    rw (c.requires.none, c.store_stop.ensures) (unopened_volume c.args.updates.now c.in-Err.stop _ _ (λ is. let same : c.in-Err.stop ≡ Volume = cc in same) (λ is. ap (λ s. Err s) is) c.in-Err.ensures.volume c.in-Err.ensures.rests)

pub returns-clause-output : goal.returns-clause-output
returns-clause-output g c =
    let told = c.in-Ok.ensures.volume.told in
    rw c.put_end.ensures (put_all_output (g.W.Volume.told c.args.to.now) (g.W.Volume.history c.args.to.now) c.in-Ok.session (current (g.W.Volume.history c.open_bundle.new.vol)) c.args.updates.now _ c.put_all.result _
    c.in-Ok.ensures.opened (λ t. (c.put_all.ensures.ended.leaves (told ∙ t)).room) c.put_all.ensures.ended.full c.put_all.ensures.ended.gave c.put_all.ensures.output_failed)

pub returns-clause-volume : goal.returns-clause-volume
returns-clause-volume g c =
    rw c.put_end.ensures (put_all_volume _ _ g.W.Volume.told g.W.Volume.history g.W.Volume.faults c.args.to.now c.open_bundle.new.vol c.put_all.new.vol c.in-Ok.session c.args.updates.now c.put_all.new.marks.marks c.put_all.result
    (λ is. absurd cc) c.in-Ok.ensures.volume c.in-Ok.ensures.opened c.put_all.ensures.told.counted c.put_all.ensures.told.same (put_few c.args.updates.now _ c.put_all.result _ _ c.put_all.ensures.ended.gave) c.put_all.new.session c.put_all.ensures.ended.leaves)
