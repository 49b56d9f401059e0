use Rattle.std.proofs.Common.{◌≡◌, ℕ, Err, inr, sym, ap, subst, ◌∙◌}
use Rattle.tile_updates.specs.Stops.{TellsStop}
use Rattle.tile_updates.specs.Updates.{IsUpdates, OfBytes}
use Rattle.program_ends.specs.declared.stop.Stop.TheVariants.{Source}
use Rattle.program_ends.proofs.Ends.{caused}
use Rattle.lerc_cli.proofs.CrashLemmas.PutRuns.{no_cause, stream_cause}
use Rattle.lerc_cli.proofs.inputs.tiles.take_updates.Goals as goal

pub returns-in-Err-clause-updates : goal.returns-in-Err-clause-updates
returns-in-Err-clause-updates g c =
    inr (c.in-Err.stop, (c.stream_stop.ensures, subst (λ (n : ℕ). TellsStop c.args.encoding.version n (g.S.Source.left c.args.src.now) c.in-Err.stop) c.of.ensures.step c.in-Err.ensures.refused))

pub returns-in-Err-clause-source : goal.returns-in-Err-clause-source
returns-in-Err-clause-source g c =
    caused _ _ _ _ (λ is. ap (λ s. Err s) (c.stream_stop.ensures ∙ is)) (λ is. sym c.stream_stop.ensures ∙ (let same : c.stream_stop.result ≡ Source = cc in same))
    (stream_cause c.in-Err.stop _ _ c.in-Err.ensures.counted)

pub returns-in-Ok-reserve-clause-updates : goal.returns-in-Ok-reserve-clause-updates
returns-in-Ok-reserve-clause-updates g c =
    subst (λ (n : ℕ). OfBytes (g.S.Source.left c.args.src.now) (λ bytes. IsUpdates c.args.encoding.version n bytes c.in-Ok.updates.items)) c.of.ensures.step c.in-Ok.ensures.ok

pub returns-in-Ok-reserve-clause-source : goal.returns-in-Ok-reserve-clause-source
returns-in-Ok-reserve-clause-source g c = no_cause _ _ _ _ (λ is. absurd cc) (λ is. absurd cc) c.in-Ok.ensures.counted
