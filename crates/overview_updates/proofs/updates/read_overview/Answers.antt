use Rattle.std.proofs.Common.{◌≡◌, ◌∙◌, ◌≤◌, ℕ, IsTrue, List, length, sym, ap, subst, refl, arith}
use Rattle.outside_io.specs.declared.volume.VolFile.TheVariants.{Bundle}
use Rattle.outside_io.specs.volume.History.{contents, current}
use Rattle.outside_io.proofs.VolumeLemmas.Moments.{started}
use Rattle.bundle_store.specs.declared.tile_rec.TileRec.{TileRec}
use Rattle.bundle_store.specs.Build.{EachFits}
use Rattle.bundle_store.specs.Serving.{Serving}
use Rattle.bundle_store.specs.Session.{SessionState}
use Rattle.bundle_store.proofs.Cutting.{ahead_none}
use Rattle.tile_updates.specs.Updates.{AreEncoded}
use Rattle.tile_updates.proofs.SoFar.{same_count}
use Rattle.overview_updates.specs.Stops.{TellsStop}
use Rattle.overview_updates.specs.Updates.{IsEncodedOverview, IsOverviewUpdates}
use Rattle.overview_updates.proofs.SoFar.{all_encoded, all_fit, all_near, all_updates, so_far_as, so_far_none}
use Rattle.overview_updates.proofs.Still.{still_contents, still_join}
use Rattle.overview_updates.proofs.updates.read_overview.Goals as goal

pub loop-done-init : goal.loop-done-init
loop-done-init g c =
    let h = g.V.Volume.history c.args.vol.now in
    let none : length c.new-2.result ≡ 0 = ap length c.new-2.ensures in
    let bundle = contents Bundle h in
    let reading = c.in-Ok.reading in
    record {
      so_far = so_far_none (g.V.Volume.told c.args.vol.now) bundle c.args.asked.quarter c.args.asked.coding.version c.args.asked.coding.step (record { list = c.new-2.result; place = 0 }) c.new-2.ensures refl;
      few = omega (arith, none);
      within = omega arith;
      faults = refl;
      same = refl;
      stays = λ tells. started (λ d. d ≡ current h) h refl;
      reading = record {
        serving = subst (λ (s : SessionState). Serving g.V.Volume.told g.V.Volume.history s c.args.vol.now) (sym c.in-Ok.ensures.session) c.requires.serving;
        upper = λ tells. ahead_none bundle reading.upper c.in-Ok.ensures.upper;
        lower = λ tells. ahead_none bundle reading.lower c.in-Ok.ensures.lower;
      };
    }

pub returns-clause-ok : goal.returns-clause-ok
returns-clause-ok g c = λ tells.
    let inv = c.loop-done.invariant in
    let m = contents Bundle (g.V.Volume.history c.args.vol.now) in
    let end : c.loop-done.done.place ≡ 4096 = omega (arith, inv.within, c.loop-done-test.false) in
    subst (IsOverviewUpdates m c.args.asked.quarter c.args.asked.coding.version c.args.asked.coding.step) (sym c.into_vec.ensures) (all_updates (g.V.Volume.told c.args.vol.now) m c.args.asked.quarter c.args.asked.coding.version c.args.asked.coding.step c.loop-done.done end tells inv.so_far)

pub returns-clause-near : goal.returns-clause-near
returns-clause-near g c = λ tells.
    let inv = c.loop-done.invariant in
    let m = contents Bundle (g.V.Volume.history c.args.vol.now) in
    let end : c.loop-done.done.place ≡ 4096 = omega (arith, inv.within, c.loop-done-test.false) in
    subst (IsEncodedOverview m c.args.asked.quarter c.args.asked.coding.version c.args.asked.coding.step) (sym c.into_vec.ensures) (all_near (g.V.Volume.told c.args.vol.now) m c.args.asked.quarter c.args.asked.coding.version c.args.asked.coding.step c.loop-done.done end tells inv.so_far)

pub returns-clause-encoded : goal.returns-clause-encoded
returns-clause-encoded g c = subst (AreEncoded c.args.asked.coding.version c.args.asked.coding.step) (sym c.into_vec.ensures) (all_encoded _ _ _ c.args.asked.coding.version c.args.asked.coding.step c.loop-done.done c.loop-done.invariant.so_far)

pub returns-clause-fits : goal.returns-clause-fits
returns-clause-fits g c = subst EachFits (sym c.into_vec.ensures) (all_fit _ _ _ c.args.asked.coding.version c.args.asked.coding.step c.loop-done.done c.loop-done.invariant.so_far)

pub returns-clause-few : goal.returns-clause-few
returns-clause-few g c =
    let inv = c.loop-done.invariant in
    subst (λ (us : List TileRec). length us ≤ 4096) (sym c.into_vec.ensures) (omega (arith, inv.few, inv.within))

pub loop-done-preserved : goal.loop-done-preserved
loop-done-preserved g c =
    let inv = c.loop-done.invariant in
    let h = g.V.Volume.history in
    let told = g.V.Volume.told in
    let entry = c.args.vol.now in
    let mid = c.loop-done.vol in
    let new = c.add_batch.new.vol in
    let same : told mid ≡ told entry = inv.same in
    let here : IsTrue (told entry) → contents Bundle (h mid) ≡ contents Bundle (h entry) = λ tells. still_contents (h entry) (h mid) (inv.stays tells) in
    let before = so_far_as (told entry) (told mid) (contents Bundle (h entry)) (contents Bundle (h mid)) c.args.asked.quarter c.args.asked.coding.version c.args.asked.coding.step c.loop-done.done same here inv.so_far in
    let after = c.in-Ok-add_batch.ensures.ok before in
    record {
      so_far = so_far_as (told mid) (told entry) (contents Bundle (h mid)) (contents Bundle (h entry)) c.args.asked.quarter c.args.asked.coding.version c.args.asked.coding.step c.add_batch.new.done (sym same) (λ tells. sym (here (sym same ∙ tells))) after;
      few = c.in-Ok-add_batch.ensures.few;
      within = c.in-Ok-add_batch.ensures.within;
      faults = same_count _ (g.V.Volume.faults mid) (g.V.Volume.faults new) c.in-Ok-add_batch.ensures.reads.counted (λ e. let no : ⊥ = cc e in no) ∙ inv.faults;
      same = c.add_batch.ensures.reads.same ∙ same;
      stays = λ tells. still_join (h entry) (h mid) (h new) (inv.stays tells) (c.add_batch.ensures.reads.during (same ∙ tells));
      reading = c.in-Ok-add_batch.ensures.reading;
    }

pub returns-in-Err-add_batch-clause-refused : goal.returns-in-Err-add_batch-clause-refused
returns-in-Err-add_batch-clause-refused g c = λ tells.
    let inv = c.loop-done.invariant in
    let h = g.V.Volume.history in
    let told = g.V.Volume.told in
    let entry = c.args.vol.now in
    let mid = c.loop-done.vol in
    let same : told mid ≡ told entry = inv.same in
    let here : IsTrue (told entry) → contents Bundle (h mid) ≡ contents Bundle (h entry) = λ tells. still_contents (h entry) (h mid) (inv.stays tells) in
    let before = so_far_as (told entry) (told mid) (contents Bundle (h entry)) (contents Bundle (h mid)) c.args.asked.quarter c.args.asked.coding.version c.args.asked.coding.step c.loop-done.done same here inv.so_far in
    subst (λ (b : List ℕ). TellsStop b c.args.asked.quarter c.args.asked.coding.version c.args.asked.coding.step c.in-Err-add_batch.stop) (here tells) (c.in-Err-add_batch.ensures.refused before (same ∙ tells))
