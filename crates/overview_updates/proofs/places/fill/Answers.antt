use Rattle.std.proofs.Common.{◌≡◌, ◌∙◌, IsTrue, subst, sym, arith, refl}
use Rattle.outside_io.specs.declared.volume.VolFile.TheVariants.{Bundle}
use Rattle.outside_io.specs.volume.History.{contents, current}
use Rattle.outside_io.proofs.VolumeLemmas.Moments.{started}
use Rattle.tile_updates.proofs.SoFar.{same_count}
use Rattle.overview_updates.specs.declared.places.Next.{Next}
use Rattle.overview_updates.specs.inside.SoFar.{IsFilled}
use Rattle.overview_updates.proofs.SoFar.{filled_as, none_wait, waiting_as}
use Rattle.overview_updates.proofs.Still.{still_contents, still_join}
use Rattle.overview_updates.proofs.places.fill.Goals as goal

pub loop-waiting-init : goal.loop-waiting-init
loop-waiting-init g c =
    let h = g.V.Volume.history c.args.vol.now in
    record {
      waiting = none_wait (g.V.Volume.told c.args.vol.now) (contents Bundle h) c.args.asked.now.quarter c.args.asked.now.coding.version c.args.place (record { batch = c.new.result; place = c.args.place }) c.new.ensures refl (omega (arith, c.requires.place));
      faults = refl;
      same = refl;
      stays = λ tells. started (λ d. d ≡ current h) h refl;
      reading = c.requires.reading;
    }

pub wait_round-requires-clause-few : goal.wait_round-requires-clause-few
wait_round-requires-clause-few g c = omega (arith, c.loop-waiting.invariant.waiting.few)

-- a round more, said of the bundle as it was at first
pub loop-waiting-preserved : goal.loop-waiting-preserved
loop-waiting-preserved g c =
    let inv = c.loop-waiting.invariant in
    let h = g.V.Volume.history in
    let told = g.V.Volume.told in
    let entry = c.args.vol.now in
    let mid = c.loop-waiting.vol in
    let new = c.wait_round.new.vol in
    let q = c.args.asked.now.quarter in
    let v = c.args.asked.now.coding.version in
    let k = c.args.place in
    let same : told mid ≡ told entry = inv.same in
    let here : IsTrue (told entry) → contents Bundle (h mid) ≡ contents Bundle (h entry) = λ tells. still_contents (h entry) (h mid) (inv.stays tells) in
    let before = waiting_as (told entry) (told mid) (contents Bundle (h entry)) (contents Bundle (h mid)) q v k c.loop-waiting.waiting same here inv.waiting in
    let after = c.in-Ok-More.ensures.waits k before in
    record {
      waiting = waiting_as (told mid) (told entry) (contents Bundle (h mid)) (contents Bundle (h entry)) q v k c.wait_round.new.waiting (sym same) (λ tells. sym (here (sym same ∙ tells))) after.waiting;
      faults = same_count _ (g.V.Volume.faults mid) (g.V.Volume.faults new) c.in-Ok-More.ensures.reads.counted (λ e. let no : ⊥ = cc e in no) ∙ inv.faults;
      same = c.wait_round.ensures.reads.same ∙ same;
      stays = λ tells. still_join (h entry) (h mid) (h new) (inv.stays tells) (c.wait_round.ensures.reads.during (same ∙ tells));
      reading = c.in-Ok-More.ensures.reading;
    }

pub returns-in-Ok-Refused-clause-ok : goal.returns-in-Ok-Refused-clause-ok
returns-in-Ok-Refused-clause-ok g c =
    let inv = c.loop-waiting.invariant in
    let h = g.V.Volume.history in
    let told = g.V.Volume.told in
    let entry = c.args.vol.now in
    let mid = c.loop-waiting.vol in
    let q = c.args.asked.now.quarter in
    let v = c.args.asked.now.coding.version in
    let k = c.args.place in
    let same : told mid ≡ told entry = inv.same in
    let here : IsTrue (told entry) → contents Bundle (h mid) ≡ contents Bundle (h entry) = λ tells. still_contents (h entry) (h mid) (inv.stays tells) in
    let before = waiting_as (told entry) (told mid) (contents Bundle (h entry)) (contents Bundle (h mid)) q v k c.loop-waiting.waiting same here inv.waiting in
    let next : Next = c.in-Ok-Refused.field-0 in
    let after = filled_as (told mid) (told entry) (contents Bundle (h mid)) (contents Bundle (h entry)) q v k c.wait_round.new.waiting next (sym same) (λ tells. sym (here (sym same ∙ tells))) (c.in-Ok-Refused.ensures.waits k before) in
    subst (λ (n : Next). IsFilled (told entry) (contents Bundle (h entry)) q v k c.wait_round.new.waiting n) c.in-Ok-Refused.field-0-is after

pub loop-waiting-smaller : goal.loop-waiting-smaller
loop-waiting-smaller g c = omega (arith, c.loop-waiting-test.true, c.in-Ok-More.ensures.forth c.in-Ok-More.field-0-is)
