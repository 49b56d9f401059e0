use Rattle.std.proofs.Common.{refl}
use Rattle.outside_io.specs.volume.History.{current}
use Rattle.lerc_cli.proofs.AnswerLemmas.Listed.{list_cut, list_gave, list_stopped, reads_still}
use Rattle.lerc_cli.proofs.AnswerLemmas.Stores.{store_reads}
use Rattle.lerc_cli.proofs.CrashLemmas.Resting.{rests_store}
use Rattle.lerc_cli.proofs.commands.bundle.list.Goals as goal

pub returns-in-Err-clause-output : goal.returns-in-Err-clause-output
returns-in-Err-clause-output g c = λ input. rw c.store_stop.ensures (list_stopped _ g.K.Sink.held g.K.Sink.faults _ _ input _ c.in-Err.stop refl c.in-Err.ensures.refused)

pub returns-in-Err-clause-volume : goal.returns-in-Err-clause-volume
returns-in-Err-clause-volume g c = rw c.store_stop.ensures (store_reads _ _ c.in-Err.stop _ c.in-Err.ensures.volume)

pub returns-in-Err-clause-rests : goal.returns-in-Err-clause-rests
returns-in-Err-clause-rests g c = λ told. rw c.store_stop.ensures (rests_store c.in-Err.stop _ _ (c.in-Err.ensures.rests told))

pub returns-in-Ok-list_all-clause-output : goal.returns-in-Ok-list_all-clause-output
returns-in-Ok-list_all-clause-output g c = λ input.
    list_gave input _ _ (g.V.Volume.history c.args.vol.now) c.in-Ok.session (current (g.V.Volume.history c.open_bundle.new.vol)) _ c.in-Ok.ensures.volume.told c.in-Ok.ensures.opened c.in-Ok-list_all.ensures.gave c.in-Ok-list_all.ensures.counted

pub returns-in-Ok-list_all-clause-volume : goal.returns-in-Ok-list_all-clause-volume
returns-in-Ok-list_all-clause-volume g c =
    reads_still _ _ _ g.V.Volume.told g.V.Volume.history g.V.Volume.faults _ _ _ c.list_all.ensures.same (λ is. absurd cc) (λ is. absurd cc) c.in-Ok.ensures.volume

pub returns-clause-output : goal.returns-clause-output
returns-clause-output g c = λ input.
    list_cut input _ _ (g.V.Volume.history c.args.vol.now) c.in-Ok.session (current (g.V.Volume.history c.open_bundle.new.vol)) c.in-Err-list_all.field-0 _ c.in-Ok.ensures.volume.told c.in-Ok.ensures.opened c.in-Err-list_all.ensures.gave c.in-Err-list_all.ensures.counted.0 c.in-Err-list_all.ensures.counted.1

pub returns-clause-volume : goal.returns-clause-volume
returns-clause-volume g c =
    reads_still _ _ _ g.V.Volume.told g.V.Volume.history g.V.Volume.faults _ _ _ c.list_all.ensures.same (λ is. absurd cc) (λ is. absurd cc) c.in-Ok.ensures.volume
