use Rattle.std.proofs.Common.{◌≡◌, ◌∙◌, ℕ, refl, subst, arith}
use Rattle.outside_io.specs.declared.volume.VolFile.TheVariants.{Bundle}
use Rattle.outside_io.specs.volume.History.{contents, current}
use Rattle.outside_io.proofs.VolumeLemmas.Moments.{started}
use Rattle.tile_audit.specs.Gave.{IsAuditOf}
use Rattle.tile_audit.proofs.Standing.{cause_same, none_stand, stand_more, walk_stops}
use Rattle.tile_audit.proofs.Still.{still_contents, still_join}
use Rattle.tile_audit.proofs.Waiting.{waiting_so}
use Rattle.tile_audit.proofs.walk.give_tiles.Goals as goal

pub loop-next-init : goal.loop-next-init
loop-next-init g c =
    let h = g.V.Volume.history in
    let vol = c.args.vol.now in (
      none_stand (g.V.Volume.told vol) (contents Bundle (h vol)) c.args.all c.none-totals.result (g.V.Volume.faults vol) (g.K.Sink.held c.args.out.now) c.none-totals.ensures,
      (refl, (refl, λ tells. started (λ d. d ≡ current (h vol)) (h vol) refl)),
    )

pub returns-in-Err-clause-gave : goal.returns-in-Err-clause-gave
returns-in-Err-clause-gave g c =
    let inv = c.loop-next.invariant in
    let h = g.V.Volume.history in
    let told = g.V.Volume.told in
    let entry = c.args.vol.now in
    let mid = c.loop-next.vol in
    let new = c.fill.new.vol in
    let same = inv.1.1.0 in
    let are = waiting_so (told mid) (told entry) (contents Bundle (h mid)) (contents Bundle (h entry)) c.loop-next.next c.in-Ok.behind c.in-Ok.batch (g.V.Volume.faults mid) (g.V.Volume.faults new) c.in-Ok.ensures.waiting (λ tells. same ∙ tells) (λ tells. still_contents (h entry) (h mid) (inv.1.1.1 tells)) in
    walk_stops (told entry) (contents Bundle (h entry)) c.args.all c.loop-next.next c.in-Ok.behind c.loop-next.totals c.give_batch.new.totals c.in-Ok.batch c.in-Err.stop (g.V.Volume.faults entry) (g.V.Volume.faults mid) (g.V.Volume.faults new) (g.K.Sink.held c.args.out.now) (g.K.Sink.held c.loop-next.out) (g.K.Sink.held c.give_batch.new.out)
    (omega (arith, c.in-Ok.ensures.further.0)) c.in-Ok.ensures.further.1 inv.0 are c.in-Err.ensures.gave

pub loop-next-preserved : goal.loop-next-preserved
loop-next-preserved g c =
    let inv = c.loop-next.invariant in
    let h = g.V.Volume.history in
    let told = g.V.Volume.told in
    let entry = c.args.vol.now in
    let mid = c.loop-next.vol in
    let new = c.fill.new.vol in
    let same = inv.1.1.0 in
    let are = waiting_so (told mid) (told entry) (contents Bundle (h mid)) (contents Bundle (h entry)) c.loop-next.next c.in-Ok.behind c.in-Ok.batch (g.V.Volume.faults mid) (g.V.Volume.faults new) c.in-Ok.ensures.waiting (λ tells. same ∙ tells) (λ tells. still_contents (h entry) (h mid) (inv.1.1.1 tells)) in (
      stand_more (told entry) (contents Bundle (h entry)) c.args.all c.loop-next.next c.in-Ok.behind c.loop-next.totals c.give_batch.new.totals c.in-Ok.batch (g.V.Volume.faults entry) (g.V.Volume.faults mid) (g.V.Volume.faults new) (g.K.Sink.held c.args.out.now) (g.K.Sink.held c.loop-next.out) (g.K.Sink.held c.give_batch.new.out)
          (omega (arith, c.in-Ok.ensures.further.0)) c.in-Ok.ensures.further.1 inv.0 are c.in-Ok-give_batch.ensures.gave,
      (
        cause_same _ (g.K.Sink.faults c.loop-next.out) (g.K.Sink.faults c.give_batch.new.out) c.in-Ok-give_batch.ensures.output_failed (λ e. (let bad : ⊥ = cc in bad)) ∙ inv.1.0,
        (c.fill.ensures.reads.same ∙ same, λ tells. still_join (h entry) (h mid) (h new) (inv.1.1.1 tells) (c.fill.ensures.reads.during (same ∙ tells))),
      ),
    )

pub returns-clause-gave : goal.returns-clause-gave
returns-clause-gave g c =
    let stands = c.loop-next.invariant.0 in
    let end : c.loop-next.next ≡ 16384 = omega (arith, stands.within, c.loop-next-test.false) in
    let h = g.V.Volume.history in
    let entry = c.args.vol.now in
    let audit = subst (λ (n : ℕ). IsAuditOf (g.V.Volume.told entry) (contents Bundle (h entry)) n stands.tiles (g.V.Volume.faults entry) (g.V.Volume.faults c.loop-next.vol)) end stands.audit in
    (stands.tiles, (record { audit = audit; rose = stands.rose }, (stands.counted, stands.gave)))
