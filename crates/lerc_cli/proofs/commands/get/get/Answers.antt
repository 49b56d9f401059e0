use Rattle.std.proofs.Common.{◌≡◌, ℕ, List, Ok, Err, refl, subst}
use Rattle.program_ends.specs.declared.stop.Stop.TheVariants.{Volume}
use Rattle.lerc_cli.specs.inside.Opening.{DecodesTile}
use Rattle.opened_bundle.proofs.BundleOpening.{reads_as}
use Rattle.lerc_cli.proofs.AnswerLemmas.Got.{grid_cut, grid_gave, tile_stopped}
use Rattle.lerc_cli.proofs.CrashLemmas.Resting.{rests_undecoded, undecoded_alone}
use Rattle.lerc_cli.proofs.AnswerLemmas.Stores.{store_reads}
use Rattle.lerc_cli.proofs.CrashLemmas.Resting.{rests_store}
use Rattle.lerc_cli.proofs.AnswerLemmas.Got.{grid_stopped}
use Rattle.lerc_cli.proofs.commands.get.get.Goals as goal

pub returns-in-Err-decode_tile-clause-output : goal.returns-in-Err-decode_tile-clause-output
returns-in-Err-decode_tile-clause-output g c = λ input.
    tile_stopped _ g.K.Sink.held g.K.Sink.faults _ _ input _ c.args.slot c.in-Ok.tile c.in-Err-decode_tile.stop refl c.in-Ok.ensures.gives (subst (λ (t : List ℕ). DecodesTile t (Err c.in-Err-decode_tile.stop)) c.as_slice.ensures c.in-Err-decode_tile.ensures)

pub returns-in-Ok-bands_write-clause-output : goal.returns-in-Ok-bands_write-clause-output
returns-in-Ok-bands_write-clause-output g c = λ input.
    grid_gave input _ c.args.slot c.in-Ok.tile c.in-Ok-decode_tile.bands _ c.in-Ok.ensures.gives (subst (λ (t : List ℕ). DecodesTile t (Ok c.in-Ok-decode_tile.bands)) c.as_slice.ensures c.in-Ok-decode_tile.ensures) c.in-Ok-bands_write.ensures.ok c.in-Ok-bands_write.ensures.counted

pub returns-in-Ok-bands_write-clause-volume : goal.returns-in-Ok-bands_write-clause-volume
returns-in-Ok-bands_write-clause-volume g c = reads_as _ _ _ (λ is. absurd cc) (λ is. absurd cc) c.in-Ok.ensures.volume

pub returns-clause-output : goal.returns-clause-output
returns-clause-output g c = λ input.
    grid_cut input _ c.args.slot c.in-Ok.tile c.in-Ok-decode_tile.bands _ c.in-Ok.ensures.gives (subst (λ (t : List ℕ). DecodesTile t (Ok c.in-Ok-decode_tile.bands)) c.as_slice.ensures c.in-Ok-decode_tile.ensures) c.in-Err-bands_write.ensures.err c.in-Err-bands_write.ensures.counted.0 c.in-Err-bands_write.ensures.counted.1

pub returns-clause-volume : goal.returns-clause-volume
returns-clause-volume g c = reads_as _ _ _ (λ is. absurd cc) (λ is. absurd cc) c.in-Ok.ensures.volume

pub returns-in-Err-clause-rests : goal.returns-in-Err-clause-rests
returns-in-Err-clause-rests g c = λ told. rw c.store_stop.ensures (rests_store c.in-Err.stop _ _ (c.in-Err.ensures.rests told))

pub returns-in-Err-decode_tile-clause-rests : goal.returns-in-Err-decode_tile-clause-rests
returns-in-Err-decode_tile-clause-rests g c = λ told.
    rests_undecoded _ c.in-Err-decode_tile.stop _ _ c.in-Err-decode_tile.ensures (c.in-Ok.ensures.rests told)

pub returns-in-Ok-bands_write-clause-rests : goal.returns-in-Ok-bands_write-clause-rests
returns-in-Ok-bands_write-clause-rests g c = c.in-Ok.ensures.rests

pub returns-clause-rests : goal.returns-clause-rests
returns-clause-rests g c = c.in-Ok.ensures.rests

pub returns-in-Err-clause-output : goal.returns-in-Err-clause-output
returns-in-Err-clause-output g c = λ input. rw c.store_stop.ensures (grid_stopped _ g.K.Sink.held g.K.Sink.faults _ _ input _ c.args.slot c.in-Err.stop refl c.in-Err.ensures.gives)

pub returns-in-Err-clause-volume : goal.returns-in-Err-clause-volume
returns-in-Err-clause-volume g c = rw c.store_stop.ensures (store_reads _ _ c.in-Err.stop _ c.in-Err.ensures.volume)

pub returns-in-Err-decode_tile-clause-volume : goal.returns-in-Err-decode_tile-clause-volume
returns-in-Err-decode_tile-clause-volume g c =
    reads_as _ _ _ (λ is. absurd cc) (λ is. absurd (undecoded_alone _ c.in-Err-decode_tile.stop c.in-Err-decode_tile.ensures (let same : c.in-Err-decode_tile.stop ≡ Volume = cc in same))) c.in-Ok.ensures.volume
