use Rattle.std.proofs.Common.{◌≡◌, ap, ◌∙◌, rules}
use Rattle.outside_io.specs.volume.Disk.{Disk}
use Rattle.outside_io.specs.volume.History.{current}
use Rattle.outside_io.proofs.VolumeLemmas.Moments.{during_join, during_map}
use Rattle.bundle_store.specs.Images.{EachImage}
use Rattle.bundle_store.specs.Tiles.{no_tiles}
use Rattle.bundle_store.proofs.Midway.{empty_midway}
use Rattle.bundle_store.proofs.Recovering.{in_emptied, in_wiping}
use Rattle.bundle_store.proofs.Ways.{emptied_way, wiping_way}
use Rattle.bundle_store.proofs.recovery.empty.Goals as goal

pub returns-in_err-wipe-clause-changes : goal.returns-in_err-wipe-clause-changes
returns-in_err-wipe-clause-changes g c = record {
  same = (cc);
  counted = search rules;
  during = λ told.
      let old = g.V.Volume.history c.args.vol.now in
      let j = (current old).journal.now in
      let Pass = EachImage (λ map. map ≡ no_tiles) in
      let wiping = during_map _ Pass _ _ (λ d. in_wiping j (current old) d (c.requires.opened told) (c.requires.says told) (c.requires.quiet told).journal) (c.wipe.ensures.changes.during told) in
      wiping;
}

pub returns-clause-changes : goal.returns-clause-changes
returns-clause-changes g c = record {
  same = (cc);
  counted = search rules;
  during = λ told.
      let old = g.V.Volume.history c.args.vol.now in
      let j = (current old).journal.now in
      let Pass = EachImage (λ map. map ≡ no_tiles) in
      let wiping = during_map _ Pass _ _ (λ d. in_wiping j (current old) d (c.requires.opened told) (c.requires.says told) (c.requires.quiet told).journal) (c.wipe.ensures.changes.during told) in
      let done = c.in_ok-wipe.ensures.done told in
      let bundle = ap (λ (d : Disk). d.bundle) done in
      let journal = ap (λ (d : Disk). d.journal.now) done in
      during_join Pass _ _ _ wiping (during_map _ Pass _ _ (λ d. in_emptied j (current (g.V.Volume.history c.wipe.new.vol)) d (c.requires.says told) bundle journal) (c.close_gate.ensures.during (c.wipe.ensures.changes.same ∙ told)));
}

pub returns-clause-bytes : goal.returns-clause-bytes
returns-clause-bytes g c = λ told.
    empty_midway (current (g.V.Volume.history c.args.vol.now)).bundle.now _ _ _ (c.wipe.ensures.bytes told) (ap (λ (d : Disk). d.bundle) (c.in_ok-wipe.ensures.done told)) (c.close_gate.ensures.during (c.wipe.ensures.changes.same ∙ told))

pub returns-in_err-wipe-clause-files : goal.returns-in_err-wipe-clause-files
returns-in_err-wipe-clause-files g c = λ told.
    wiping_way (g.V.Volume.history c.args.vol.now) _ (c.requires.quiet told) (c.requires.opened told) (c.requires.says told) (c.wipe.ensures.changes.during told) (c.wipe.ensures.bytes told)

pub returns-clause-files : goal.returns-clause-files
returns-clause-files g c = λ told.
    emptied_way (g.V.Volume.history c.args.vol.now) _ (c.requires.quiet told) (c.requires.opened told) (c.requires.says told) (c.wipe.ensures.changes.during told) (c.wipe.ensures.bytes told)
    _ (c.in_ok-wipe.ensures.done told) (c.close_gate.ensures.during (c.wipe.ensures.changes.same ∙ told))
