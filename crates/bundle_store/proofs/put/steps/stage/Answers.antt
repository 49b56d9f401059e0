use Rattle.std.proofs.Common.{◌≡◌, inr, refl, ◌∷◌, ◌++◌, sym, ap, ◌∙◌, subst, rules}
use Rattle.std.proofs.lemmas.Result.{IfOk-from_err, on_ok_weaker}
use Rattle.outside_io.specs.volume.Disk.{Disk, File, IsSettled, settled}
use Rattle.side_journal.specs.Bodies.{body_bytes}
use Rattle.side_journal.specs.Says.{IsOpen}
use Rattle.outside_io.specs.volume.History.{current}
use Rattle.outside_io.proofs.VolumeLemmas.Moments.{during_join, during_map}
use Rattle.bundle_store.specs.Images.{EachImage}
use Rattle.bundle_store.specs.GroupPuts.{group_records}
use Rattle.bundle_store.specs.Tiles.{IsBundle, tiles}
use Rattle.bundle_store.proofs.Region.{front_bundle, front_tiles}
use Rattle.bundle_store.proofs.Standing.{in_append, in_closed}
use Rattle.bundle_store.proofs.put.steps.stage.Goals as goal

pub returns-in_err-append_records-clause-changes : goal.returns-in_err-append_records-clause-changes
returns-in_err-append_records-clause-changes g c = record {
  same = (cc);
  counted = search rules;
  during = λ told.
      let old = g.V.Volume.history c.args.vol.now in
      let b = (current old).bundle.now in
      let Pass : Disk → Type 0 = λ d. IsBundle b → EachImage (λ map. map ≡ tiles b) d in
      let appending = during_map _ Pass _ _ (λ d keeps is. in_append b (current old) d is refl (c.requires.idle told).quiet.journal (c.requires.idle told).closed keeps) (c.append_records.ensures.changes.during told) in
      appending;
}

pub returns-in_err-prepare-clause-changes : goal.returns-in_err-prepare-clause-changes
returns-in_err-prepare-clause-changes g c = record {
  same = (cc);
  counted = search rules;
  during = λ told.
      let old = g.V.Volume.history c.args.vol.now in
      let b = (current old).bundle.now in
      let Pass : Disk → Type 0 = λ d. IsBundle b → EachImage (λ map. map ≡ tiles b) d in
      let appending = during_map _ Pass _ _ (λ d keeps is. in_append b (current old) d is refl (c.requires.idle told).quiet.journal (c.requires.idle told).closed keeps) (c.append_records.ensures.changes.during told) in
      let whole = b ++ group_records c.args.updates.now in
      let told_1 = c.append_records.ensures.changes.same ∙ told in
      let bundle_1 = ap (λ (x : Disk). x.bundle) (c.in_ok-append_records.ensures.done told) in
      let more = group_records c.args.updates.now in
      let preparing = during_join Pass _ _ _ appending (during_map _ Pass _ _ (λ d keeps is. in_closed whole (λ map. map ≡ tiles b) (current (g.V.Volume.history c.append_records.new.vol)) d (inr (front_bundle b more is)) (front_tiles b more is) bundle_1 keeps) (c.prepare.ensures.during told_1)) in
      preparing;
}

pub returns-clause-changes : goal.returns-clause-changes
returns-clause-changes g c = record {
  same = (cc);
  counted = search rules;
  during = λ told.
      let old = g.V.Volume.history c.args.vol.now in
      let b = (current old).bundle.now in
      let Pass : Disk → Type 0 = λ d. IsBundle b → EachImage (λ map. map ≡ tiles b) d in
      let appending = during_map _ Pass _ _ (λ d keeps is. in_append b (current old) d is refl (c.requires.idle told).quiet.journal (c.requires.idle told).closed keeps) (c.append_records.ensures.changes.during told) in
      let whole = b ++ group_records c.args.updates.now in
      let told_1 = c.append_records.ensures.changes.same ∙ told in
      let bundle_1 = ap (λ (x : Disk). x.bundle) (c.in_ok-append_records.ensures.done told) in
      let more = group_records c.args.updates.now in
      let preparing = during_join Pass _ _ _ appending (during_map _ Pass _ _ (λ d keeps is. in_closed whole (λ map. map ≡ tiles b) (current (g.V.Volume.history c.append_records.new.vol)) d (inr (front_bundle b more is)) (front_tiles b more is) bundle_1 keeps) (c.prepare.ensures.during told_1)) in
      let told_2 = c.prepare.ensures.told ∙ told_1 in
      let bundle_2 = c.prepare.ensures.bundle told_1 ∙ bundle_1 in
      during_join Pass _ _ _ preparing (during_map _ Pass _ _ (λ d keeps is. in_closed whole (λ map. map ≡ tiles b) (current (g.V.Volume.history c.prepare.new.vol)) d (inr (front_bundle b more is)) (front_tiles b more is) bundle_2 keeps) (c.arm.ensures.during told_2));
}

pub prepare-requires-clause-settled : goal.prepare-requires-clause-settled
prepare-requires-clause-settled g c = λ told_1.
    let told = sym c.append_records.ensures.changes.same ∙ told_1 in
    let journal = ap (λ (d : Disk). d.journal) (c.in_ok-append_records.ensures.done told) in
    subst IsSettled (sym journal) (c.requires.idle told).quiet.journal

pub prepare-requires-clause-closed : goal.prepare-requires-clause-closed
prepare-requires-clause-closed g c = λ told_1.
    let told = sym c.append_records.ensures.changes.same ∙ told_1 in
    let journal = ap (λ (d : Disk). d.journal) (c.in_ok-append_records.ensures.done told) in
    subst (λ (f : File). ¬ IsOpen f.now) (sym journal) (c.requires.idle told).closed

pub returns-clause-done : goal.returns-clause-done
returns-clause-done g c = λ told.
    let told_1 = c.append_records.ensures.changes.same ∙ told in
    let appended = ap (λ (d : Disk). d.bundle) (c.in_ok-append_records.ensures.done told) in
    let journal = settled (0 ∷ body_bytes c.args.body.now) in
    let Armed : File → Disk = λ f. record { bundle = f; journal = journal } in
    let still = ap Armed (c.prepare.ensures.bundle told_1 ∙ appended) in
    on_ok_weaker c.arm.result (λ is. is ∙ still)
    (c.arm.ensures.done (c.prepare.ensures.told ∙ told_1))

pub arm-requires-clause-settled : goal.arm-requires-clause-settled
arm-requires-clause-settled g c = λ told_2.
    let told_1 = sym c.prepare.ensures.told ∙ told_2 in
    c.in_ok-prepare.ensures.settled told_1

pub arm-requires-clause-ready : goal.arm-requires-clause-ready
arm-requires-clause-ready g c = λ told_2.
    let told_1 = sym c.prepare.ensures.told ∙ told_2 in
    c.in_ok-prepare.ensures.ready told_1

pub returns-in_err-append_records-clause-done : goal.returns-in_err-append_records-clause-done
returns-in_err-append_records-clause-done g c = λ told.
    IfOk-from_err c.from_residual.result _ c.from_residual.ensures.0

pub returns-in_err-prepare-clause-done : goal.returns-in_err-prepare-clause-done
returns-in_err-prepare-clause-done g c = λ told.
    IfOk-from_err c.from_residual-in_err-prepare.result _ c.from_residual-in_err-prepare.ensures.0
