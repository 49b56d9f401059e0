use Rattle.std.proofs.Common.{◌≡◌, List, length, Err, refl, rules, ap, sym, subst, ◌∙◌}
use Rattle.outside_io.specs.volume.History.{current}
use Rattle.lerc_header.specs.Written.{step_of}
use Rattle.bundle_store.specs.declared.tile_rec.TileRec.{TileRec}
use Rattle.lerc_cli.specs.declared.words.Command.TheVariants.{Put}
use Rattle.lerc_cli.specs.answers.Table.{UpdatesOf}
use Rattle.opened_bundle.specs.Files.{files_of}
use Rattle.lerc_cli.specs.inputs.Given.{given}
use Rattle.lerc_cli.specs.inside.Updates.{put_end_of}
use Rattle.program_ends.specs.declared.stop.Stop.TheVariants.{Volume}
use Rattle.opened_bundle.proofs.BundleOpening.{reads_as}
use Rattle.lerc_cli.proofs.AnswerLemmas.Outputs.{source_read}
use Rattle.lerc_cli.proofs.CrashLemmas.PutRuns.{early_output, not_source, put_all_output, put_all_volume, puts_not_source, unopened_output}
use Rattle.lerc_cli.proofs.CrashLemmas.Unopened.{early_volume, unopened_volume}
use Rattle.lerc_cli.proofs.commands.put.put.Goals as goal

pub returns-in-Err-clause-output : goal.returns-in-Err-clause-output
returns-in-Err-clause-output g c = λ workers.
    rw c.in-Err.ensures.none (early_output c.args.encoding.version c.args.encoding.error workers _ _ g.K.Sink.held g.K.Sink.faults _ _ c.in-Err.stop refl c.in-Err.ensures.updates)

pub returns-in-Err-clause-volume : goal.returns-in-Err-clause-volume
returns-in-Err-clause-volume g c = λ workers.
    rw c.in-Err.ensures.none (early_volume (Put c.args.encoding.version c.args.encoding.error workers) _ (search rules) c.args.encoding.version (step_of c.args.encoding.error) c.in-Err.stop _ g.V.Volume.told g.V.Volume.history g.V.Volume.faults _ c.in-Err.ensures.updates)

pub returns-in-Err-open_bundle-clause-source : goal.returns-in-Err-open_bundle-clause-source
returns-in-Err-open_bundle-clause-source g c = λ workers.
    rw c.store_stop.ensures (source_read (Put c.args.encoding.version c.args.encoding.error workers) _ _ _ (search rules) (λ is. absurd cc) (not_source _ c.in-Err-open_bundle.stop c.in-Err-open_bundle.ensures.refused) c.in-Ok.ensures.source c.in-Ok.ensures.taken c.in-Ok.ensures.end)

pub returns-in-Err-open_bundle-clause-output : goal.returns-in-Err-open_bundle-clause-output
returns-in-Err-open_bundle-clause-output g c = λ workers.
    rw (c.in-Ok.ensures.none, c.store_stop.ensures) (unopened_output c.args.encoding.version c.args.encoding.error workers _ c.in-Ok.updates.items _ g.K.Sink.held g.K.Sink.faults _ _ c.in-Err-open_bundle.stop refl c.in-Ok.ensures.updates c.in-Err-open_bundle.ensures.refused)

pub returns-in-Err-open_bundle-clause-volume : goal.returns-in-Err-open_bundle-clause-volume
returns-in-Err-open_bundle-clause-volume g c = λ workers.
    rw (c.in-Ok.ensures.none, c.store_stop.ensures) (unopened_volume (Put c.args.encoding.version c.args.encoding.error workers) _ (search rules) _ c.in-Ok.updates.items c.in-Err-open_bundle.stop c.in-Ok.ensures.updates c.in-Err-open_bundle.ensures.refused
    (reads_as _ _ _ (λ is. let same : c.in-Err-open_bundle.stop ≡ Volume = cc in same) (λ is. ap (λ s. Err s) is) c.in-Err-open_bundle.ensures.volume) c.in-Err-open_bundle.ensures.rests)

pub returns-clause-source : goal.returns-clause-source
returns-clause-source g c = λ workers.
    rw c.put_end.ensures (source_read (Put c.args.encoding.version c.args.encoding.error workers) _ (put_end_of c.put_all.result) _ (search rules) (λ is. absurd cc) (puts_not_source c.put_all.result) c.in-Ok.ensures.source c.in-Ok.ensures.taken c.in-Ok.ensures.end)

pub returns-clause-output : goal.returns-clause-output
returns-clause-output g c = λ workers.
    let old = g.V.Volume.history c.args.vol.now in
    let told = c.in-Ok-open_bundle.ensures.volume.told in
    let of = subst (λ (us : List TileRec). UpdatesOf (Put c.args.encoding.version c.args.encoding.error workers) (given (g.S.Source.left c.args.src.now) (files_of (g.V.Volume.told c.args.vol.now) old)) us) (sym c.as_slice.ensures.value) c.in-Ok.ensures.updates in
    rw c.put_end.ensures (put_all_output c.args.encoding.version c.args.encoding.error workers (g.S.Source.left c.args.src.now) (g.V.Volume.told c.args.vol.now) old c.in-Ok-open_bundle.session (current (g.V.Volume.history c.open_bundle.new.vol)) c.as_slice.result.now (length c.put_all.new.marks.marks) c.put_all.result _
    of c.in-Ok-open_bundle.ensures.opened (λ t. (c.put_all.ensures.ended.leaves (told ∙ t)).room) c.put_all.ensures.ended.full c.put_all.ensures.ended.gave c.put_all.ensures.output_failed)

pub returns-clause-volume : goal.returns-clause-volume
returns-clause-volume g c = λ workers.
    let old = g.V.Volume.history c.args.vol.now in
    let of = subst (λ (us : List TileRec). UpdatesOf (Put c.args.encoding.version c.args.encoding.error workers) (given (g.S.Source.left c.args.src.now) (files_of (g.V.Volume.told c.args.vol.now) old)) us) (sym c.as_slice.ensures.value) c.in-Ok.ensures.updates in
    rw c.put_end.ensures (put_all_volume c.args.encoding.version c.args.encoding.error workers _ _ _ g.V.Volume.told g.V.Volume.history g.V.Volume.faults c.args.vol.now c.open_bundle.new.vol c.put_all.new.vol c.in-Ok-open_bundle.session c.as_slice.result.now c.put_all.new.marks.marks c.put_all.result
    of (λ is. absurd cc) c.in-Ok-open_bundle.ensures.volume c.in-Ok-open_bundle.ensures.opened c.put_all.ensures.told.counted c.put_all.ensures.told.same c.put_all.new.session c.put_all.ensures.ended.leaves)
