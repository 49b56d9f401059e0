use Rattle.std.proofs.Common.{◌∙◌}
use Rattle.outside_io.specs.volume.History.{current}
use Rattle.opened_bundle.proofs.BundleOpening.{reads_on}
use Rattle.lerc_cli.proofs.AnswerLemmas.Listed.{checked, line_volume}
use Rattle.lerc_cli.proofs.CrashLemmas.Resting.{rests_lines}
use Rattle.opened_bundle.proofs.Resting.{shut_still}
use Rattle.lerc_cli.proofs.AnswerLemmas.Stores.{store_reads}
use Rattle.lerc_cli.proofs.CrashLemmas.Resting.{rests_store}
use Rattle.lerc_cli.proofs.AnswerLemmas.Listed.{check_stopped}
use Rattle.std.proofs.Common.{refl}
use Rattle.lerc_cli.proofs.commands.bundle.check.Goals as goal

pub returns-clause-output : goal.returns-clause-output
returns-clause-output g c = λ input.
    rw c.check_end.ensures (checked _ g.K.Sink.held g.K.Sink.faults _ _ input _ _ (g.V.Volume.history c.args.vol.now) c.in-Ok.session (current (g.V.Volume.history c.open_bundle.new.vol)) c.check_all.result c.in-Ok.ensures.volume.told c.in-Ok.ensures.opened c.check_all.ensures.gave c.check_all.ensures.output_failed)

pub returns-clause-volume : goal.returns-clause-volume
returns-clause-volume g c =
    rw c.check_end.ensures (reads_on _ _ _ g.V.Volume.told g.V.Volume.history g.V.Volume.faults _ _ _ (λ is. absurd cc) c.in-Ok.ensures.volume (line_volume c.check_all.result _ _ c.check_all.ensures.reads.counted) c.check_all.ensures.reads.same c.check_all.ensures.reads.during)

pub returns-in-Err-clause-rests : goal.returns-in-Err-clause-rests
returns-in-Err-clause-rests g c = λ told. rw c.store_stop.ensures (rests_store c.in-Err.stop _ _ (c.in-Err.ensures.rests told))

pub returns-clause-rests : goal.returns-clause-rests
returns-clause-rests g c = λ told.
    rw c.check_end.ensures (rests_lines c.check_all.result _ _ (shut_still _ _ (c.check_all.ensures.reads.during (c.in-Ok.ensures.volume.told ∙ told)) (c.in-Ok.ensures.rests told)))

pub returns-in-Err-clause-output : goal.returns-in-Err-clause-output
returns-in-Err-clause-output g c = λ input. rw c.store_stop.ensures (check_stopped _ g.K.Sink.held g.K.Sink.faults _ _ input _ c.in-Err.stop refl c.in-Err.ensures.refused)

pub returns-in-Err-clause-volume : goal.returns-in-Err-clause-volume
returns-in-Err-clause-volume g c = rw c.store_stop.ensures (store_reads _ _ c.in-Err.stop _ c.in-Err.ensures.volume)
