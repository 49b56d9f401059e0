use Rattle.std.proofs.Common.{◌≡◌, ◌⊎◌, inl, inr, ℕ, ◌+◌, ◌^◌, ◌≤◌, List, ◌++◌, length, get_or, sym, ap, ◌∙◌, subst, arith, rules}
use Rattle.std.proofs.lemmas.Result.{on_ok_weaker}
use Rattle.outside_io.specs.volume.Disk.{Disk, settled}
use Rattle.outside_io.specs.volume.History.{During, History, current}
use Rattle.outside_io.proofs.VolumeLemmas.Moments.{during_map}
use Rattle.side_journal.specs.declared.body.Body.{Body}
use Rattle.bundle_store.specs.declared.tile_rec.TileRec.{TileRec}
use Rattle.bundle_store.specs.GroupPuts.{AllOrNone, AreTilesIn, bundle_with_tiles, group_records, new_entries, with_entries}
use Rattle.bundle_store.specs.Images.{EachImage}
use Rattle.bundle_store.specs.Kept.{FrontBytes, Keeps}
use Rattle.bundle_store.specs.LaidOver.{size_in, with_body}
use Rattle.bundle_store.specs.Tiles.{IsBundle, IsReadable, tiles}
use Rattle.bundle_store.specs.inside.Grouped.{IsOfGroup}
use Rattle.bundle_store.proofs.GroupEntries.{entries_fit, entries_long, group_done, room_all}
use Rattle.bundle_store.proofs.Grouping.{puts_replace}
use Rattle.bundle_store.proofs.Standing.{weaker}
use Rattle.side_journal.specs.declared.body.Body.TheVariants.{Group}
use Rattle.bundle_store.proofs.put.put_on_bundle.Goals as goal

-- the images, by the bundle that is left
images : (b after : List ℕ) (us : List TileRec) (old new : History) → after ≡ bundle_with_tiles b us → AreTilesIn us → length b + length (group_records us) ≤ 2 ^ 40
    → During (λ d. IsBundle b → IsReadable after → EachImage (λ map. (map ≡ tiles b) ⊎ (map ≡ tiles after)) d) old new
    → During (λ d. IsBundle b → EachImage (AllOrNone us (tiles b)) d) old new
images b after us old new put are room during =
    let Pass : Disk → Type 0 = λ d. IsBundle b → EachImage (AllOrNone us (tiles b)) d in
    during_map _ Pass old new (λ d each is.
    let done = puts_replace us b is are (room_all us (length b) room) in
    weaker (λ map. (map ≡ tiles b) ⊎ (map ≡ tiles after)) (AllOrNone us (tiles b)) d (λ map either. elim either [
      | inl before ↦ inl before
      | inr all ↦ inr (all ∙ ap tiles put ∙ done.1)
    ]) (each is (inr (subst IsBundle (sym put) done.0)))) during

-- what the body lays over the bundle and the records
laid : (b : List ℕ) (us : List TileRec) (len : ℕ) (front : FrontBytes) (body : Body) → len ≡ length b → 131136 ≤ length b → AreTilesIn us → Keeps front (bundle_with_tiles b us)
    → body ≡ Group (new_entries len us) (len + length (group_records us)) front.header → with_body body (b ++ group_records us) ≡ bundle_with_tiles b us
laid b us len front body is long are keeps body_is = ap (λ (x : Body). with_body x (b ++ group_records us)) body_is
    ∙ (λ i. with_entries front.header (new_entries (is i) us) (b ++ group_records us)) ∙ group_done b us front long are keeps

pub commit-requires-clause-body : goal.commit-requires-clause-body
commit-requires-clause-body g c =
    let us = c.args.updates.now in
    let size = entries_long us c.args.len in
    subst IsOfGroup (sym c.body_of_tiles-body.ensures.body) (record {
      some = omega (arith, size, c.requires.group.some);
      most = omega (arith, size, c.requires.group.most);
      new = entries_fit us c.args.len c.body_of_tiles-body.ensures.tiles c.requires.room;
      size_below = omega (arith, c.requires.room);
      header_size = c.body_of_tiles-body.ensures.header;
    })

pub commit-requires-clause-names : goal.commit-requires-clause-names
commit-requires-clause-names g c = ap size_in c.body_of_tiles-body.ensures.body

pub returns-clause-done : goal.returns-clause-done
returns-clause-done g c = λ told.
    let b = (current (g.V.Volume.history c.args.vol.now)).bundle.now in
    let us = c.args.updates.now in
    let len = c.requires.len told in
    let made = c.body_of_tiles-body in
    let long : 131136 ≤ length b = omega (arith, len, c.requires.least told) in
    let keeps = made.ensures.keeps b long len (c.requires.keeps told) in
    let put = laid b us c.args.len made.new.front made.result len long made.ensures.tiles keeps made.ensures.body in
    on_ok_weaker c.commit.result (λ is. record {
      bundle_is = ap (λ (d : Disk). d.bundle) is ∙ ap settled put;
      journal = ap (λ (d : Disk). d.journal) is ∙ ap (λ (d : Disk). settled d.journal.now) (sym is);
      closed = λ opened. opened.gate (ap (λ (d : Disk). get_or d.journal.now 0 0) is);
    }) (c.commit.ensures.done told)

pub returns-clause-keeps : goal.returns-clause-keeps
returns-clause-keeps g c = λ told.
    let b = (current (g.V.Volume.history c.args.vol.now)).bundle.now in
    let len = c.requires.len told in
    let long : 131136 ≤ length b = omega (arith, len, c.requires.least told) in
    on_ok_weaker c.commit.result (λ is. c.body_of_tiles-body.ensures.keeps b long len (c.requires.keeps told)) (c.commit.ensures.done told)

pub returns-clause-changes : goal.returns-clause-changes
returns-clause-changes g c = record {
  same = (cc);
  counted = search rules;
  during = λ told.
      let old = g.V.Volume.history c.args.vol.now in
      let b = (current old).bundle.now in
      let us = c.args.updates.now in
      let len = c.requires.len told in
      let made = c.body_of_tiles-body in
      let long : 131136 ≤ length b = omega (arith, len, c.requires.least told) in
      let keeps = made.ensures.keeps b long len (c.requires.keeps told) in
      let put = laid b us c.args.len made.new.front made.result len long made.ensures.tiles keeps made.ensures.body in
      images b (with_body made.result (b ++ group_records us)) us old _ put made.ensures.tiles (omega (arith, len, c.requires.room)) (c.commit.ensures.changes.during told);
}
