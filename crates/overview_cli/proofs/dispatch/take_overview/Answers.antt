use Rattle.std.proofs.Common.{◌≡◌, ◌∙◌, Err, sym, ap}
use Rattle.outside_io.specs.volume.History.{current}
use Rattle.program_ends.specs.declared.stop.Stop.TheVariants.{Volume}
use Rattle.opened_bundle.proofs.BundleOpening.{reads_as, reads_on}
use Rattle.overview_cli.specs.Names.{with_store}
use Rattle.overview_cli.proofs.Taking.{no_cause, overview_cause, refused, rests_overview, store_volume, taken, unopened}
use Rattle.opened_bundle.proofs.Resting.{shut_still}
use Rattle.overview_cli.proofs.Putting.{rests_store}
use Rattle.overview_cli.proofs.dispatch.take_overview.Goals as goal

pub returns-in-Err-clause-takes : goal.returns-in-Err-clause-takes
returns-in-Err-clause-takes g c = rw c.store_stop.ensures (unopened c.args.command _ c.in-Err.stop c.in-Err.ensures.refused)

pub returns-in-Err-clause-reading : goal.returns-in-Err-clause-reading
returns-in-Err-clause-reading g c = reads_as _ _ _ (λ is. let same : c.in-Err.stop ≡ Volume = cc in ap (λ s. Err s) (c.store_stop.ensures ∙ ap with_store same)) (λ is. ap (λ s. Err s) (store_volume c.in-Err.stop (sym c.store_stop.ensures ∙ (let same : c.store_stop.result ≡ Volume = cc in same)))) c.in-Err.ensures.volume

pub returns-in-Err-read_overview-clause-takes : goal.returns-in-Err-read_overview-clause-takes
returns-in-Err-read_overview-clause-takes g c =
    rw c.overview_stop.ensures (refused c.args.command (g.V.Volume.told c.args.from.now) (g.V.Volume.history c.args.from.now) c.in-Ok.session (current (g.V.Volume.history c.open_bundle.new.vol)) c.in-Err-read_overview.stop c.in-Ok.ensures.opened c.in-Err-read_overview.ensures.answers
    (λ tells. rw (sym c.of.ensures.step) (c.in-Err-read_overview.ensures.refused (c.in-Ok.ensures.volume.told ∙ tells))))

pub returns-in-Err-read_overview-clause-reading : goal.returns-in-Err-read_overview-clause-reading
returns-in-Err-read_overview-clause-reading g c =
    rw c.overview_stop.ensures (reads_on _ _ _ g.V.Volume.told g.V.Volume.history g.V.Volume.faults c.args.from.now c.open_bundle.new.vol c.read_overview.new.vol (λ is. absurd cc) c.in-Ok.ensures.volume
    (overview_cause c.in-Err-read_overview.stop _ _ c.in-Err-read_overview.ensures.reads.counted) c.read_overview.ensures.reads.same c.read_overview.ensures.reads.during)

pub returns-in-Ok-reserve-clause-takes : goal.returns-in-Ok-reserve-clause-takes
returns-in-Ok-reserve-clause-takes g c =
    taken c.args.command (g.V.Volume.told c.args.from.now) (g.V.Volume.history c.args.from.now) c.in-Ok.session (current (g.V.Volume.history c.open_bundle.new.vol)) c.in-Ok-read_overview.updates c.in-Ok.ensures.opened
    (λ tells. rw (sym c.of.ensures.step) (c.in-Ok-read_overview.ensures.ok (c.in-Ok.ensures.volume.told ∙ tells))) (λ tells. rw (sym c.of.ensures.step) (c.in-Ok-read_overview.ensures.near (c.in-Ok.ensures.volume.told ∙ tells)))

pub returns-in-Ok-reserve-clause-reading : goal.returns-in-Ok-reserve-clause-reading
returns-in-Ok-reserve-clause-reading g c =
    reads_on _ _ _ g.V.Volume.told g.V.Volume.history g.V.Volume.faults c.args.from.now c.open_bundle.new.vol c.read_overview.new.vol (λ is. absurd cc) c.in-Ok.ensures.volume
    (no_cause _ _ _ _ (λ is. cc) (λ is. cc) c.in-Ok-read_overview.ensures.reads.counted) c.read_overview.ensures.reads.same c.read_overview.ensures.reads.during

pub returns-clause-reading : goal.returns-clause-reading
returns-clause-reading g c =
    reads_on _ _ _ g.V.Volume.told g.V.Volume.history g.V.Volume.faults c.args.from.now c.open_bundle.new.vol c.read_overview.new.vol (λ is. absurd cc) c.in-Ok.ensures.volume
    (no_cause _ _ _ _ (λ is. cc) (λ is. cc) c.in-Ok-read_overview.ensures.reads.counted) c.read_overview.ensures.reads.same c.read_overview.ensures.reads.during

pub returns-in-Err-clause-rests : goal.returns-in-Err-clause-rests
returns-in-Err-clause-rests g c = λ told. rw c.store_stop.ensures (rests_store c.in-Err.stop _ _ (c.in-Err.ensures.rests told))

pub returns-in-Err-read_overview-clause-rests : goal.returns-in-Err-read_overview-clause-rests
returns-in-Err-read_overview-clause-rests g c = λ told.
    rw c.overview_stop.ensures (rests_overview c.in-Err-read_overview.stop _ _ (shut_still _ _ (c.read_overview.ensures.reads.during (c.in-Ok.ensures.volume.told ∙ told)) (c.in-Ok.ensures.rests told)))

pub returns-in-Ok-reserve-clause-rests : goal.returns-in-Ok-reserve-clause-rests
returns-in-Ok-reserve-clause-rests g c = λ told. shut_still _ _ (c.read_overview.ensures.reads.during (c.in-Ok.ensures.volume.told ∙ told)) (c.in-Ok.ensures.rests told)

pub returns-clause-rests : goal.returns-clause-rests
returns-clause-rests g c = λ told. shut_still _ _ (c.read_overview.ensures.reads.during (c.in-Ok.ensures.volume.told ∙ told)) (c.in-Ok.ensures.rests told)
