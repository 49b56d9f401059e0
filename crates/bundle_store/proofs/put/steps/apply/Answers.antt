use Rattle.std.proofs.Common.{◌≡◌, ◌⊎◌, inl, inr, refl, ℕ, List, sym, ap, subst, ◌∙◌, ◌∷◌, drop, rules}
use Rattle.std.proofs.lemmas.Result.{IfOk-from_err, on_ok_weaker}
use Rattle.outside_io.specs.volume.Disk.{Disk, File, IsSettled, settled}
use Rattle.outside_io.specs.volume.History.{current}
use Rattle.outside_io.proofs.VolumeLemmas.Moments.{during_join, during_map}
use Rattle.bundle_store.specs.GroupPuts.{with_entries}
use Rattle.bundle_store.specs.inside.Grouped.{AreUnderWay}
use Rattle.bundle_store.specs.Images.{EachImage}
use Rattle.bundle_store.specs.Tiles.{IsReadable, TileMap, tiles}
use Rattle.bundle_store.proofs.GroupStanding.{in_group_opening, ways_gated}
use Rattle.bundle_store.proofs.Standing.{weaker}
use Rattle.bundle_store.proofs.put.steps.apply.Goals as goal

pub returns-in_err-open_gate-clause-changes : goal.returns-in_err-open_gate-clause-changes
returns-in_err-open_gate-clause-changes g c = record {
  same = (cc);
  counted = search rules;
  during = λ told.
      let old = g.V.Volume.history c.args.vol.now in
      let b = (current old).bundle.now in
      let j = (current old).journal.now in
      let Either : TileMap → Type 0 = λ map. (map ≡ tiles b) ⊎ (map ≡ tiles (with_entries c.args.header.now c.args.group.now b)) in
      let Pass : Disk → Type 0 = λ d. IsReadable b → AreUnderWay b j c.args.group.now c.args.header.now → EachImage Either d in
      during_map _ Pass _ _ (λ d keeps is way. in_group_opening b j c.args.group.now c.args.header.now Either (current old) d (c.requires.whole told) way is (inl refl) (inr refl) (c.requires.quiet told).bundle refl keeps) (c.open_gate.ensures.during told);
}

pub returns-clause-changes : goal.returns-clause-changes
returns-clause-changes g c = record {
  same = (cc);
  counted = search rules;
  during = λ told.
      let old = g.V.Volume.history c.args.vol.now in
      let b = (current old).bundle.now in
      let j = (current old).journal.now in
      let h = c.args.header.now in
      let es = c.args.group.now in
      let Either : TileMap → Type 0 = λ map. (map ≡ tiles b) ⊎ (map ≡ tiles (with_entries h es b)) in
      let Pass : Disk → Type 0 = λ d. IsReadable b → AreUnderWay b j es h → EachImage Either d in
      let opening = during_map _ Pass _ _ (λ d keeps is way. in_group_opening b j es h Either (current old) d (c.requires.whole told) way is (inl refl) (inr refl) (c.requires.quiet told).bundle refl keeps) (c.open_gate.ensures.during told) in
      let told_1 = c.open_gate.ensures.told ∙ told in
      let done = c.in_ok-open_gate.ensures.done told in
      let next = current (g.V.Volume.history c.open_gate.new.vol) in
      let bundle = ap (λ (x : Disk). x.bundle.now) done in
      let journal = ap (λ (x : Disk). x.journal.now) done in
      let redoing = during_map _ Pass _ _ (λ d each is way. weaker (λ map. map ≡ tiles (with_entries h es next.bundle.now)) Either d (λ map same. inr (same ∙ ap (λ (l : List ℕ). tiles (with_entries h es l)) bundle)) (each (ways_gated b next.bundle.now j next.journal.now 1 es h (c.requires.whole told) bundle journal way))) (c.redo.ensures.changes.during told_1) in
      during_join Pass _ _ _ opening redoing;
}

pub returns-clause-done : goal.returns-clause-done
returns-clause-done g c = λ told.
    let over = with_entries c.args.header.now c.args.group.now in
    let Done : Disk → Disk = λ d. record {
      bundle = settled (over d.bundle.now);
      journal = settled (0 ∷ drop 1 d.journal.now);
    } in
    on_ok_weaker c.redo.result (λ is. is ∙ ap Done (c.in_ok-open_gate.ensures.done told))
    (c.redo.ensures.done (c.open_gate.ensures.told ∙ told))

pub returns-in_err-open_gate-clause-done : goal.returns-in_err-open_gate-clause-done
returns-in_err-open_gate-clause-done g c = λ told.
    IfOk-from_err c.from_residual.result _ c.from_residual.ensures.0

pub redo-requires-clause-quiet : goal.redo-requires-clause-quiet
redo-requires-clause-quiet g c = λ told_1.
    let told = sym c.open_gate.ensures.told ∙ told_1 in
    let bundle = ap (λ (d : Disk). d.bundle) (c.in_ok-open_gate.ensures.done told) in
    let journal = ap (λ (d : Disk). d.journal) (c.in_ok-open_gate.ensures.done told) in
    record {
      bundle = subst IsSettled (sym bundle) (c.requires.quiet told).bundle;
      journal = journal ∙ ap (λ (f : File). settled f.now) (sym journal);
    }
