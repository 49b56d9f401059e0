use Rattle.std.proofs.Common.{◌≡◌, ◌⊎◌, length, sym, ap, subst, rules}
use Rattle.outside_io.specs.volume.Disk.{Disk}
use Rattle.outside_io.specs.volume.History.{current}
use Rattle.outside_io.proofs.VolumeLemmas.Moments.{during_map}
use Rattle.side_journal.specs.declared.body.Body.{Body}
use Rattle.side_journal.specs.Says.{IsWhole}
use Rattle.bundle_store.specs.inside.Grouped.{AreUnderWay}
use Rattle.bundle_store.specs.LaidOver.{entries_in, header_in, with_body}
use Rattle.bundle_store.specs.Images.{EachImage}
use Rattle.bundle_store.specs.Tiles.{IsReadable, tiles}
use Rattle.bundle_store.proofs.GroupStanding.{body_way, body_whole}
use Rattle.bundle_store.proofs.put.steps.apply_body.Goals as goal

pub apply-requires-clause-whole : goal.apply-requires-clause-whole
apply-requires-clause-whole g c = λ told.
    subst IsWhole (sym (ap length (c.requires.holds told))) (body_whole c.args.body.now c.requires.body)

pub returns-in-Group-clause-changes : goal.returns-in-Group-clause-changes
returns-in-Group-clause-changes g c = record {
  same = (cc);
  counted = search rules;
  during = λ told.
      let old = g.V.Volume.history c.args.vol.now in
      let b = (current old).bundle.now in
      let j = (current old).journal.now in
      let Pass : Disk → Type 0 = λ d. IsReadable b → IsReadable (with_body c.args.body.now b) → EachImage (λ map. (map ≡ tiles b) ⊎ (map ≡ tiles (with_body c.args.body.now b))) d in
      during_map _ Pass _ _ (λ d each readable laid.
      subst (λ (x : Body). EachImage (λ map. (map ≡ tiles b) ⊎ (map ≡ tiles (with_body x b))) d) (sym c.in-Group.is)
      (each readable (subst (λ (x : Body). AreUnderWay b j (entries_in x) (header_in x)) c.in-Group.is (body_way c.args.body.now b j c.requires.body (c.requires.least told) (c.requires.within told) (c.requires.holds told) laid))))
      (c.apply.ensures.changes.during told);
}
