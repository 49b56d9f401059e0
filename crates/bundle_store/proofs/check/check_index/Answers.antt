use Rattle.std.proofs.Common.{◌≡◌, refl, length, sym, ap, subst, ◌∙◌, arith}
use Rattle.outside_io.specs.volume.Disk.{Disk}
use Rattle.outside_io.specs.volume.History.{current}
use Rattle.outside_io.proofs.VolumeLemmas.Moments.{during_end, during_join, during_map, started}
use Rattle.bundle_store.specs.Ahead.{IsAheadOf}
use Rattle.bundle_store.specs.Kept.{Keeps}
use Rattle.bundle_store.specs.inside.Checking.{Sees}
use Rattle.bundle_store.proofs.Counting.{reports_more, reports_none}
use Rattle.bundle_store.proofs.Cutting.{ahead_none}
use Rattle.bundle_store.proofs.check.check_index.Goals as goal

pub loop-number-init : goal.loop-number-init
loop-number-init g c =
    let h = g.V.Volume.history c.args.vol.now in
    record {
      small = record { tiles = omega arith; bytes = omega arith; bad = omega arith };
      report = λ told. reports_none (current h).bundle.now _ refl refl refl refl;
      words = λ told. ahead_none (current h).bundle.now c.none-words.result c.none-words.ensures;
      during = λ told. started (λ d. d ≡ current h) h refl;
      calls = omega arith;
      needed = omega arith;
      told = refl;
      counted = refl;
    }

pub look_at-requires-clause-keeps : goal.look_at-requires-clause-keeps
look_at-requires-clause-keeps g c = λ told.
    let old = g.V.Volume.history c.args.vol.now in
    let told_0 = sym c.loop-number.invariant.told ∙ told in
    let still = during_end (λ d. d ≡ current old) old _ (c.loop-number.invariant.during told_0) in
    subst (λ (d : Disk). Keeps c.args.front.now d.bundle.now) (sym still) (c.requires.keeps told_0)

pub look_at-requires-clause-len : goal.look_at-requires-clause-len
look_at-requires-clause-len g c = λ told.
    let old = g.V.Volume.history c.args.vol.now in
    let told_0 = sym c.loop-number.invariant.told ∙ told in
    let still = during_end (λ d. d ≡ current old) old _ (c.loop-number.invariant.during told_0) in
    c.requires.len told_0 ∙ sym (ap (λ (d : Disk). length d.bundle.now) still)

pub look_at-requires-clause-words : goal.look_at-requires-clause-words
look_at-requires-clause-words g c = λ told.
    let old = g.V.Volume.history c.args.vol.now in
    let told_0 = sym c.loop-number.invariant.told ∙ told in
    let still = during_end (λ d. d ≡ current old) old _ (c.loop-number.invariant.during told_0) in
    subst (λ (d : Disk). IsAheadOf d.bundle.now c.loop-number.words) (sym still) (c.loop-number.invariant.words told_0)

pub loop-number-preserved : goal.loop-number-preserved
loop-number-preserved g c =
    let old = g.V.Volume.history c.args.vol.now in
    let inv = c.loop-number.invariant in
    let n = c.loop-number.number in
    let b = (current old).bundle.now in
    record {
      small = c.with_slot-all.ensures.small;
      report = λ told.
          let still = during_end (λ d. d ≡ current old) old _ (inv.during told) in
          let sees = subst (λ (d : Disk). Sees d.bundle.now n c.in_ok-seen.seen) still (c.in_ok-seen.ensures.sees (inv.told ∙ told)) in
          reports_more b n c.in_ok-seen.seen.size c.in_ok-seen.seen.bad c.loop-number.all c.with_slot-all.result sees.size sees.bad c.with_slot-all.ensures.next (inv.report told);
      words = λ told.
          let still = during_end (λ d. d ≡ current old) old _ (inv.during told) in
          subst (λ (d : Disk). IsAheadOf d.bundle.now c.look_at.new.words) still (c.look_at.ensures.words (inv.told ∙ told));
      during = λ told.
          let still = during_end (λ d. d ≡ current old) old _ (inv.during told) in
          during_join (λ d. d ≡ current old) _ _ _ (inv.during told) (during_map _ (λ d. d ≡ current old) _ _ (λ d same. same ∙ still) (c.look_at.ensures.reads.during (inv.told ∙ told)));
      calls = omega (arith, inv.calls, c.look_at.ensures.calls);
      needed = omega (arith, inv.needed, c.in_ok-seen.ensures.needed, c.with_slot-all.ensures.next.tiles);
      told = c.look_at.ensures.reads.same ∙ inv.told;
      counted = c.in_ok-seen.ensures.reads.counted ∙ inv.counted;
    }
