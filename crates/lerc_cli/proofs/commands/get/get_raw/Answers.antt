use Rattle.lerc_cli.proofs.AnswerLemmas.Stores.{store_reads}
use Rattle.lerc_cli.proofs.CrashLemmas.Resting.{rests_store}
use Rattle.lerc_cli.proofs.AnswerLemmas.Got.{raw_stopped}
use Rattle.std.proofs.Common.{refl}
use Rattle.opened_bundle.proofs.BundleOpening.{reads_as}
use Rattle.lerc_cli.proofs.commands.get.get_raw.Goals as goal

pub returns-in-Err-clause-output : goal.returns-in-Err-clause-output
returns-in-Err-clause-output g c = λ input. rw c.store_stop.ensures (raw_stopped _ g.K.Sink.held g.K.Sink.faults _ _ input _ c.args.slot c.in-Err.stop refl c.in-Err.ensures.gives)

pub returns-in-Err-clause-volume : goal.returns-in-Err-clause-volume
returns-in-Err-clause-volume g c = rw c.store_stop.ensures (store_reads _ _ c.in-Err.stop _ c.in-Err.ensures.volume)

pub returns-in-Err-clause-rests : goal.returns-in-Err-clause-rests
returns-in-Err-clause-rests g c = λ told. rw c.store_stop.ensures (rests_store c.in-Err.stop _ _ (c.in-Err.ensures.rests told))

pub returns-in-Ok-give_all-clause-volume : goal.returns-in-Ok-give_all-clause-volume
returns-in-Ok-give_all-clause-volume g c = reads_as _ _ _ (λ is. absurd cc) (λ is. absurd cc) c.in-Ok.ensures.volume

pub returns-clause-volume : goal.returns-clause-volume
returns-clause-volume g c = reads_as _ _ _ (λ is. absurd cc) (λ is. absurd cc) c.in-Ok.ensures.volume
