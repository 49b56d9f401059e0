use Rattle.std.proofs.Common.{◌≡◌, Err, refl, sym, ap, subst, ◌∙◌, arith}
use Rattle.std.specs.Prelude.{IsTrue}
use Rattle.std.proofs.lemmas.List.{get_or_default}
use Rattle.outside_io.specs.volume.Disk.{Disk}
use Rattle.outside_io.specs.volume.History.{During, current}
use Rattle.outside_io.proofs.VolumeLemmas.Moments.{during_end, during_join, started}
use Rattle.bundle_tiles.proofs.Exporting.{gave_all, gave_more, gave_none, gave_stop, slot_as, tile_as, unraised}
use Rattle.bundle_tiles.proofs.giving.export_slots.Goals as goal

pub loop-slot-init : goal.loop-slot-init
loop-slot-init g c = record {
  gave = gave_none _ _ c.args.slots.now _;
  same = refl;
  during = λ told. started (λ d. d ≡ current (g.V.Volume.history c.args.vol.now)) _ refl;
  volume = refl;
  output = refl;
}

pub returns-in-Err-clause-gave : goal.returns-in-Err-clause-gave
returns-in-Err-clause-gave g c =
    let inv = c.loop-slot.invariant in
    let slot = c.slot-item.result in
    let is = get_or_default c.args.slots.now c.loop-slot.slot-index 0 slot c.loop-slot-test.true ∙ sym c.slot-item.is in
    gave_stop _ _ c.args.slots.now c.loop-slot.slot-index slot _ (g.K.Sink.held c.loop-slot.out) _ c.loop-slot-test.true is c.in-Err.stop inv.gave
    (slot_as _ _ _ _ slot inv.same (λ told. ap (λ (d : Disk). d.bundle.now) (during_end _ _ _ (inv.during told))) (Err c.in-Err.stop) (g.K.Sink.held c.loop-slot.out) (g.K.Sink.held c.export_slot.new.out) c.in-Err.ensures.gave)

pub loop-slot-preserved : goal.loop-slot-preserved
loop-slot-preserved g c =
    let inv = c.loop-slot.invariant in
    let slot = c.slot-item.result in
    let is = get_or_default c.args.slots.now c.loop-slot.slot-index 0 slot c.loop-slot-test.true ∙ sym c.slot-item.is in
    let gave = c.in-Ok.ensures.gave in
    let at = tile_as _ _ _ _ slot inv.same (λ told. ap (λ (d : Disk). d.bundle.now) (during_end _ _ _ (inv.during told))) gave.0 gave.1.0 in
    let reads = c.in-Ok.ensures.reads in
    record {
      gave = gave_more _ _ c.args.slots.now c.loop-slot.slot-index slot _ (g.K.Sink.held c.loop-slot.out) _ c.loop-slot-test.true is gave.0 inv.gave at gave.1.1;
      same = reads.same ∙ inv.same;
      during = λ told. during_join _ _ _ _ (inv.during told) (subst (λ (now : Disk). During (λ d. d ≡ now) (g.V.Volume.history c.loop-slot.vol) (g.V.Volume.history c.export_slot.new.vol)) (during_end _ _ _ (inv.during told)) (reads.during (subst IsTrue (sym inv.same) told)));
      volume = unraised _ _ _ reads.counted (λ is. let no : ⊥ = cc in no) ∙ inv.volume;
      output = unraised _ _ _ c.in-Ok.ensures.output_failed (λ is. let no : ⊥ = cc in no) ∙ inv.output;
    }

pub returns-clause-gave : goal.returns-clause-gave
returns-clause-gave g c = gave_all _ _ c.args.slots.now c.loop-slot.slot-index _ _ (omega (arith, c.loop-slot-test.false)) c.loop-slot.invariant.gave
