use Rattle.std.proofs.Common.{◌≡◌, Err, ap}
use Rattle.program_ends.specs.declared.stop.Stop.TheVariants.{Volume}
use Rattle.tiles_cli.proofs.Importing.{imported, unimported}
use Rattle.tiles_cli.proofs.perform.import.Goals as goal

pub returns-in-Err : goal.returns-in-Err
returns-in-Err g c =
    rw c.store_stop.ensures (unimported _ _ _ g.S.Source.left g.S.Source.faults g.K.Sink.held g.K.Sink.faults g.V.Volume.told g.V.Volume.history g.V.Volume.faults c.args.src.now c.args.out.now c.args.vol.now c.open_bundle.new.vol
    _ c.in-Err.stop (λ is. let same : c.in-Err.stop ≡ Volume = cc in same) (λ is. ap (λ s. Err s) is) c.in-Err.ensures.volume c.in-Err.ensures.refused c.in-Err.ensures.rests)

pub returns : goal.returns
returns g c =
    rw c.import_end.ensures (imported _ _ _ g.S.Source.left g.S.Source.faults g.K.Sink.held g.K.Sink.faults g.V.Volume.told g.V.Volume.history g.V.Volume.faults c.args.src.now c.args.out.now c.args.vol.now c.open_bundle.new.vol
    c.import_all.new.vol c.import_all.new.src c.import_all.new.out c.in-Ok.session c.import_all.new.session _ (λ is. absurd cc) c.in-Ok.ensures.volume c.in-Ok.ensures.opened c.import_all.result c.import_all.ensures.ended
    c.import_all.ensures.told.same c.import_all.ensures.told.counted c.import_all.ensures.output_failed c.import_all.ensures.source_failed)
