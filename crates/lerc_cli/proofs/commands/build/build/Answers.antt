use Rattle.std.proofs.Common.{◌≡◌, List, Err, refl, rules, ap, sym, subst, ◌∙◌}
use Rattle.outside_io.specs.volume.History.{current}
use Rattle.lerc_header.specs.Written.{step_of}
use Rattle.bundle_store.specs.declared.tile_rec.TileRec.{TileRec}
use Rattle.lerc_cli.specs.declared.words.Command.TheVariants.{Build}
use Rattle.lerc_cli.specs.answers.Table.{UpdatesOf}
use Rattle.opened_bundle.specs.Files.{files_of}
use Rattle.lerc_cli.specs.inputs.Given.{given}
use Rattle.lerc_cli.specs.inside.Updates.{build_end_of}
use Rattle.program_ends.specs.declared.stop.Stop.TheVariants.{Volume}
use Rattle.opened_bundle.proofs.BundleOpening.{reads_as}
use Rattle.lerc_cli.proofs.AnswerLemmas.Outputs.{source_read}
use Rattle.lerc_cli.proofs.CrashLemmas.PutRuns.{not_source}
use Rattle.lerc_cli.proofs.CrashLemmas.BuildRuns.{build_all_output, build_all_volume, builds_not_source, early_output, unopened_output}
use Rattle.lerc_cli.proofs.CrashLemmas.Unopened.{early_volume, unopened_volume}
use Rattle.lerc_cli.proofs.commands.build.build.Goals as goal

pub returns-in-Err-clause-output : goal.returns-in-Err-clause-output
returns-in-Err-clause-output g c = λ workers.
    rw c.in-Err.ensures.none (early_output c.args.encoding.version c.args.encoding.error workers _ _ g.K.Sink.held g.K.Sink.faults _ _ c.in-Err.stop refl c.in-Err.ensures.updates)

pub returns-in-Err-clause-volume : goal.returns-in-Err-clause-volume
returns-in-Err-clause-volume g c = λ workers.
    rw c.in-Err.ensures.none (early_volume (Build c.args.encoding.version c.args.encoding.error workers) _ (search rules) c.args.encoding.version (step_of c.args.encoding.error) c.in-Err.stop _ g.V.Volume.told g.V.Volume.history g.V.Volume.faults _ c.in-Err.ensures.updates)

pub returns-in-Err-open_bundle-clause-source : goal.returns-in-Err-open_bundle-clause-source
returns-in-Err-open_bundle-clause-source g c = λ workers.
    rw c.store_stop.ensures (source_read (Build c.args.encoding.version c.args.encoding.error workers) _ _ _ (search rules) (λ is. absurd cc) (not_source _ c.in-Err-open_bundle.stop c.in-Err-open_bundle.ensures.refused) c.in-Ok.ensures.source c.in-Ok.ensures.taken c.in-Ok.ensures.end)

pub returns-in-Err-open_bundle-clause-output : goal.returns-in-Err-open_bundle-clause-output
returns-in-Err-open_bundle-clause-output g c = λ workers.
    rw (c.in-Ok.ensures.none, c.store_stop.ensures) (unopened_output c.args.encoding.version c.args.encoding.error workers _ c.in-Ok.updates.items _ g.K.Sink.held g.K.Sink.faults _ _ c.in-Err-open_bundle.stop refl c.in-Ok.ensures.updates c.in-Err-open_bundle.ensures.refused)

pub returns-in-Err-open_bundle-clause-volume : goal.returns-in-Err-open_bundle-clause-volume
returns-in-Err-open_bundle-clause-volume g c = λ workers.
    rw (c.in-Ok.ensures.none, c.store_stop.ensures) (unopened_volume (Build c.args.encoding.version c.args.encoding.error workers) _ (search rules) _ c.in-Ok.updates.items c.in-Err-open_bundle.stop c.in-Ok.ensures.updates c.in-Err-open_bundle.ensures.refused
    (reads_as _ _ _ (λ is. let same : c.in-Err-open_bundle.stop ≡ Volume = cc in same) (λ is. ap (λ s. Err s) is) c.in-Err-open_bundle.ensures.volume) c.in-Err-open_bundle.ensures.rests)

pub returns-clause-source : goal.returns-clause-source
returns-clause-source g c = λ workers.
    rw c.build_end.ensures (source_read (Build c.args.encoding.version c.args.encoding.error workers) _ (build_end_of c.build_all.result) _ (search rules) (λ is. absurd cc) (builds_not_source c.build_all.result) c.in-Ok.ensures.source c.in-Ok.ensures.taken c.in-Ok.ensures.end)

pub returns-clause-output : goal.returns-clause-output
returns-clause-output g c = λ workers.
    let old = g.V.Volume.history c.args.vol.now in
    let told = c.in-Ok-open_bundle.ensures.volume.told in
    let of = subst (λ (us : List TileRec). UpdatesOf (Build c.args.encoding.version c.args.encoding.error workers) (given (g.S.Source.left c.args.src.now) (files_of (g.V.Volume.told c.args.vol.now) old)) us) (sym c.as_slice.ensures.value) c.in-Ok.ensures.updates in
    rw c.build_end.ensures (build_all_output c.args.encoding.version c.args.encoding.error workers (g.S.Source.left c.args.src.now) (g.V.Volume.told c.args.vol.now) old c.in-Ok-open_bundle.session (current (g.V.Volume.history c.open_bundle.new.vol)) c.as_slice.result.now _ _
    of c.in-Ok-open_bundle.ensures.opened _ g.K.Sink.held g.K.Sink.faults _ _ c.build_all.new.marks.marks c.build_all.result (λ t. c.build_all.ensures.reads (told ∙ t)) c.build_all.ensures.not_empty c.build_all.ensures.marks c.build_all.ensures.gave c.build_all.ensures.output_failed)

pub returns-clause-volume : goal.returns-clause-volume
returns-clause-volume g c = λ workers.
    let old = g.V.Volume.history c.args.vol.now in
    let of = subst (λ (us : List TileRec). UpdatesOf (Build c.args.encoding.version c.args.encoding.error workers) (given (g.S.Source.left c.args.src.now) (files_of (g.V.Volume.told c.args.vol.now) old)) us) (sym c.as_slice.ensures.value) c.in-Ok.ensures.updates in
    rw c.build_end.ensures (build_all_volume c.args.encoding.version c.args.encoding.error workers _ _ _ g.V.Volume.told g.V.Volume.history g.V.Volume.faults c.args.vol.now c.open_bundle.new.vol c.build_all.new.vol c.in-Ok-open_bundle.session c.as_slice.result.now
    of (λ is. absurd cc) c.in-Ok-open_bundle.ensures.volume c.in-Ok-open_bundle.ensures.opened c.build_all.ensures.told.same c.build_all.ensures.later
    c.build_all.new.marks.marks c.build_all.result c.build_all.ensures.marks c.build_all.ensures.reads c.build_all.ensures.images c.build_all.ensures.kept c.build_all.new.session c.build_all.ensures.ready c.build_all.ensures.told.counted)
