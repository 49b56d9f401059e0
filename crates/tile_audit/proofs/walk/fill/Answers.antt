use Rattle.std.proofs.Common.{◌≡◌, ◌∙◌, ℕ, List, refl, sym, subst, arith}
use Rattle.outside_io.specs.declared.volume.VolFile.TheVariants.{Bundle}
use Rattle.outside_io.specs.volume.History.{contents, current}
use Rattle.outside_io.proofs.VolumeLemmas.Moments.{started}
use Rattle.tile_audit.specs.declared.batch.Waiting.{Waiting}
use Rattle.tile_audit.specs.inside.Waits.{HasLooked}
use Rattle.tile_audit.specs.inside.Walks.{AreWaiting}
use Rattle.tile_audit.proofs.Still.{still_contents, still_join}
use Rattle.tile_audit.proofs.Waiting.{look_more, looked_so, none_wait}
use Rattle.tile_audit.proofs.walk.fill.Goals as goal

pub loop-number-init : goal.loop-number-init
loop-number-init g c =
    let h = g.V.Volume.history in
    let vol = c.args.vol.now in
    let none = c.new-batch.ensures in (
      subst (λ (b : List Waiting). AreWaiting (g.V.Volume.told vol) (contents Bundle (h vol)) c.args.from c.args.from b (g.V.Volume.faults vol) (g.V.Volume.faults vol)) (sym none)
          (none_wait (g.V.Volume.told vol) (contents Bundle (h vol)) c.args.from (g.V.Volume.faults vol)),
      (omega arith, (omega (arith, c.requires.from), (λ at. none, (refl, λ tells. started (λ d. d ≡ current (h vol)) (h vol) refl)))),
    )

pub loop-number-preserved : goal.loop-number-preserved
loop-number-preserved g c =
    let inv = c.loop-number.invariant in
    let h = g.V.Volume.history in
    let entry = c.args.vol.now in
    let mid = c.loop-number.vol in
    let new = c.wait_for.new.vol in
    let n = c.loop-number.number in
    let same = inv.1.1.1.1.0 in
    let here = subst (λ (s : ℕ). HasLooked (g.V.Volume.told mid) (contents Bundle (h mid)) s c.loop-number.batch c.wait_for.new.batch (g.V.Volume.faults mid) (g.V.Volume.faults new)) c.slot_numbered.ensures c.in_ok-wait_for.ensures.looked in
    let looked = looked_so (g.V.Volume.told mid) (g.V.Volume.told entry) (contents Bundle (h mid)) (contents Bundle (h entry)) n c.loop-number.batch c.wait_for.new.batch (g.V.Volume.faults mid) (g.V.Volume.faults new) here (λ tells. same ∙ tells) (λ tells. still_contents (h entry) (h mid) (inv.1.1.1.1.1 tells)) in (
      look_more (g.V.Volume.told entry) (contents Bundle (h entry)) c.args.from n c.loop-number.batch c.wait_for.new.batch (g.V.Volume.faults entry) (g.V.Volume.faults mid) (g.V.Volume.faults new) inv.1.0 inv.0 looked,
      (
        omega (arith, inv.1.0),
        (
          omega (arith, c.loop-number-test.true),
          (
            λ at. absurd (omega (arith, at, inv.1.0)),
            (c.wait_for.ensures.reads.same ∙ same, λ tells. still_join (h entry) (h mid) (h new) (inv.1.1.1.1.1 tells) (c.wait_for.ensures.reads.during (same ∙ tells))),
          ),
        ),
      ),
    )
