use Rattle.std.proofs.Common.{Ok, Err, refl}
use Rattle.tiles_cli.proofs.Exporting.{exported}
use Rattle.tiles_cli.proofs.perform.export_these.Goals as goal

pub returns-in-Ok-export_slots : goal.returns-in-Ok-export_slots
returns-in-Ok-export_slots g c =
    exported _ _ g.K.Sink.held g.K.Sink.faults g.V.Volume.told g.V.Volume.history g.V.Volume.faults c.args.out.now c.args.vol.now c.open_bundle.new.vol _ _ (λ is. absurd cc) c.in-Ok.ensures.volume c.in-Ok.ensures.rests
    c.in-Ok.session c.in-Ok.ensures.opened c.export_slots.new.vol c.export_slots.new.out c.args.slots.now (Ok tt) c.in-Ok-export_slots.ensures.gave c.in-Ok-export_slots.ensures.reads c.in-Ok-export_slots.ensures.output_failed refl

pub returns : goal.returns
returns g c =
    rw c.store_stop-in-Err-export_slots.ensures (exported _ _ g.K.Sink.held g.K.Sink.faults g.V.Volume.told g.V.Volume.history g.V.Volume.faults c.args.out.now c.args.vol.now c.open_bundle.new.vol _ _ (λ is. absurd cc) c.in-Ok.ensures.volume c.in-Ok.ensures.rests
    c.in-Ok.session c.in-Ok.ensures.opened c.export_slots.new.vol c.export_slots.new.out c.args.slots.now (Err c.in-Err-export_slots.stop) c.in-Err-export_slots.ensures.gave c.in-Err-export_slots.ensures.reads c.in-Err-export_slots.ensures.output_failed refl)
