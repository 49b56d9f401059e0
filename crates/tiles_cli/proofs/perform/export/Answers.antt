use Rattle.std.proofs.Common.{Ok, Err, ap, sym, ◌∙◌}
use Rattle.bundle_tiles.specs.Exported.{slots_of}
use Rattle.tiles_cli.proofs.Exporting.{exported, read_still, unnumbered}
use Rattle.tiles_cli.proofs.perform.export.Goals as goal

pub returns-in_default : goal.returns-in_default
returns-in_default g c =
    unnumbered _ _ g.K.Sink.held g.K.Sink.faults g.V.Volume.told g.V.Volume.history g.V.Volume.faults c.args.out.now c.args.vol.now c.open_bundle.new.vol _ _ (λ is. absurd cc) c.in-Ok.ensures.volume c.in-Ok.ensures.rests c.in-Ok.session c.in-Ok.ensures.opened

pub returns-in-Ok-export_slots : goal.returns-in-Ok-export_slots
returns-in-Ok-export_slots g c =
    let reads = c.in-Ok-export_slots.ensures.reads in
    exported _ _ g.K.Sink.held g.K.Sink.faults g.V.Volume.told g.V.Volume.history g.V.Volume.faults c.args.out.now c.args.vol.now c.open_bundle.new.vol _ _ (λ is. absurd cc) c.in-Ok.ensures.volume c.in-Ok.ensures.rests
    c.in-Ok.session c.in-Ok.ensures.opened c.export_slots.new.vol c.export_slots.new.out c.as_slice.result.now (Ok tt) c.in-Ok-export_slots.ensures.gave reads c.in-Ok-export_slots.ensures.output_failed
    (λ told. c.as_slice.ensures.value ∙ c.in-Ok-filled_slots.ensures _ (c.in-Ok.ensures.opened told).serves ∙ sym (ap slots_of (read_still _ _ (reads.during (c.in-Ok.ensures.volume.told ∙ told)))))

pub returns : goal.returns
returns g c =
    let reads = c.in-Err-export_slots.ensures.reads in
    rw c.store_stop-in-Err-export_slots.ensures (exported _ _ g.K.Sink.held g.K.Sink.faults g.V.Volume.told g.V.Volume.history g.V.Volume.faults c.args.out.now c.args.vol.now c.open_bundle.new.vol _ _ (λ is. absurd cc) c.in-Ok.ensures.volume c.in-Ok.ensures.rests
    c.in-Ok.session c.in-Ok.ensures.opened c.export_slots.new.vol c.export_slots.new.out c.as_slice.result.now (Err c.in-Err-export_slots.stop) c.in-Err-export_slots.ensures.gave reads c.in-Err-export_slots.ensures.output_failed
    (λ told. c.as_slice.ensures.value ∙ c.in-Ok-filled_slots.ensures _ (c.in-Ok.ensures.opened told).serves ∙ sym (ap slots_of (read_still _ _ (reads.during (c.in-Ok.ensures.volume.told ∙ told))))))
