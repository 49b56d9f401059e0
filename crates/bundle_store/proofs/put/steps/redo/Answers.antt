use Rattle.std.proofs.Common.{◌≡◌, refl, ap, sym, ◌∙◌, subst, ◌∷◌, drop, length, rules}
use Rattle.outside_io.specs.volume.Disk.{Disk, change, settled}
use Rattle.std.specs.Prelude.{OnOk}
use Rattle.outside_io.specs.declared.volume.VolFile.TheVariants.{Journal}
use Rattle.outside_io.specs.volume.History.{current}
use Rattle.outside_io.proofs.VolumeLemmas.Moments.{during_join, during_map}
use Rattle.side_journal.specs.Says.{IsWhole}
use Rattle.bundle_store.specs.GroupPuts.{with_entries}
use Rattle.bundle_store.specs.inside.Grouped.{AreUnderWay}
use Rattle.bundle_store.specs.Images.{EachImage}
use Rattle.bundle_store.specs.Tiles.{tiles}
use Rattle.bundle_store.proofs.GroupStanding.{in_all_over, in_group_closing}
use Rattle.bundle_store.proofs.GroupWrites.{new_slots}
use Rattle.bundle_store.proofs.Midway.{redo_midway}
use Rattle.bundle_store.proofs.Ways.{tiles_way, writing_way}
use Rattle.bundle_store.proofs.put.steps.redo.Goals as goal

pub returns-in_err-write_all_over-clause-changes : goal.returns-in_err-write_all_over-clause-changes
returns-in_err-write_all_over-clause-changes g c = record {
  same = (cc);
  counted = search rules;
  during = λ told.
      let old = g.V.Volume.history c.args.vol.now in
      let b = (current old).bundle.now in
      let j = (current old).journal.now in
      let Pass : Disk → Type 0 = λ d. AreUnderWay b j c.args.group.now c.args.header.now → EachImage (λ map. map ≡ tiles (with_entries c.args.header.now c.args.group.now b)) d in
      during_map _ Pass _ _ (λ d keeps way. in_all_over b j c.args.group.now c.args.header.now (current old) d (c.requires.opened told) way refl (c.requires.quiet told).journal keeps) (c.write_all_over.ensures.changes.during told);
}

pub close_gate-requires-clause-whole : goal.close_gate-requires-clause-whole
close_gate-requires-clause-whole g c = λ told_1.
    let told = sym c.write_all_over.ensures.changes.same ∙ told_1 in
    subst IsWhole (sym (ap (λ (d : Disk). length d.journal.now) (c.in_ok-write_all_over.ensures.done told))) (c.requires.opened told).whole

pub returns-clause-changes : goal.returns-clause-changes
returns-clause-changes g c = record {
  same = (cc);
  counted = search rules;
  during = λ told.
      let old = g.V.Volume.history c.args.vol.now in
      let b = (current old).bundle.now in
      let j = (current old).journal.now in
      let Pass : Disk → Type 0 = λ d. AreUnderWay b j c.args.group.now c.args.header.now → EachImage (λ map. map ≡ tiles (with_entries c.args.header.now c.args.group.now b)) d in
      let writing = during_map _ Pass _ _ (λ d keeps way. in_all_over b j c.args.group.now c.args.header.now (current old) d (c.requires.opened told) way refl (c.requires.quiet told).journal keeps) (c.write_all_over.ensures.changes.during told) in
      let told_1 = c.write_all_over.ensures.changes.same ∙ told in
      let done = c.in_ok-write_all_over.ensures.done told in
      let bundle = ap (λ (x : Disk). x.bundle) done in
      let journal = ap (λ (x : Disk). x.journal.now) done in
      let closing = during_map _ Pass _ _ (λ d keeps way. in_group_closing b j c.args.group.now c.args.header.now (current (g.V.Volume.history c.write_all_over.new.vol)) d c.requires.header (new_slots c.args.group.now c.requires.new) (c.requires.long told) (c.requires.opened told).whole way bundle journal keeps) (c.close_gate.ensures.during told_1) in
      during_join Pass _ _ _ writing closing;
}

pub returns-clause-done : goal.returns-clause-done
returns-clause-done g c = λ told.
    subst (λ (d : Disk). OnOk c.close_gate.result (current (g.V.Volume.history c.close_gate.new.vol) ≡ change Journal (λ f. settled (0 ∷ drop 1 f.now)) d)) (c.in_ok-write_all_over.ensures.done told) (c.close_gate.ensures.done (c.write_all_over.ensures.changes.same ∙ told))

pub returns-in_err-write_all_over-clause-bytes : goal.returns-in_err-write_all_over-clause-bytes
returns-in_err-write_all_over-clause-bytes g c = λ told. during_map _ _ _ _ (λ d keeps. keeps.bundle) (c.write_all_over.ensures.changes.during told)

pub returns-clause-bytes : goal.returns-clause-bytes
returns-clause-bytes g c = λ told.
    redo_midway c.args.header.now c.args.group.now _ _ _ _ c.requires.header (new_slots c.args.group.now c.requires.new) (c.requires.long told) (during_map _ _ _ _ (λ d keeps. keeps.bundle) (c.write_all_over.ensures.changes.during told))
    (ap (λ (d : Disk). d.bundle) (c.in_ok-write_all_over.ensures.done told)) (c.close_gate.ensures.during (c.write_all_over.ensures.changes.same ∙ told))

pub returns-in_err-write_all_over-clause-files : goal.returns-in_err-write_all_over-clause-files
returns-in_err-write_all_over-clause-files g c = λ told size place these fits.
    writing_way (g.V.Volume.history c.args.vol.now) _ (c.requires.quiet told) (c.requires.opened told) c.args.group.now c.args.header.now size place these fits (c.write_all_over.ensures.changes.during told)

pub returns-clause-files : goal.returns-clause-files
returns-clause-files g c = λ told size place these fits.
    tiles_way (g.V.Volume.history c.args.vol.now) _ (c.requires.quiet told) (c.requires.opened told) c.args.group.now c.args.header.now size place these fits (c.write_all_over.ensures.changes.during told)
    _ (c.in_ok-write_all_over.ensures.done told) (c.close_gate.ensures.during (c.write_all_over.ensures.changes.same ∙ told))
