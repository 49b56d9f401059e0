use Rattle.std.proofs.Common.{◌≡◌, ◌≢◌, inl, inr, refl, ℕ, ◌+◌, ◌^◌, ◌≤◌, List, Result, length, sym, ap, ◌∙◌, subst, arith, rules}
use Rattle.outside_io.specs.volume.Disk.{Disk, IsQuiet}
use Rattle.outside_io.specs.volume.History.{During, History, Ticks, current}
use Rattle.side_journal.specs.Says.{IsOpen}
use Rattle.outside_io.proofs.VolumeLemmas.Moments.{during_join, during_map}
use Rattle.bundle_store.specs.Images.{EachImage, HoldsClosed}
use Rattle.bundle_store.specs.Tiles.{TileMap, tiles}
use Rattle.bundle_store.proofs.Standing.{still_good}
use Rattle.std.proofs.lemmas.List.{nil_from_length}
use Rattle.outside_io.proofs.VolumeLemmas.Moments.{started, stays_on}
use Rattle.bundle_store.specs.Tiles.{HasIndex, IsBundle, IsReadable, no_tiles}
use Rattle.bundle_store.proofs.Recovering.{tiles_empty}
use Rattle.bundle_store.specs.Tiles.{Opens}
use Rattle.bundle_store.specs.declared.tile_rec.TileRec.{TileRec}
use Rattle.bundle_store.specs.GroupPuts.{AllOrNone, bundle_with_tiles, group_records}
use Rattle.bundle_store.specs.Kept.{Keeps}
use Rattle.bundle_store.specs.Layout.{layout}
use Rattle.bundle_store.proofs.GroupEntries.{puts_on, puts_on_nothing, records_small, room_all}
use Rattle.bundle_store.proofs.Grouping.{puts_index, puts_replace}
use Rattle.bundle_store.proofs.Layouts.{layout_bundle, length-nothing, nothing_fits}
use Rattle.bundle_store.proofs.Rests.{holds_rest}
use Rattle.bundle_store.proofs.put.put_tiles.Goals as goal

-- the bundle is measured, and is as it was
measured : {T E : Type 0} (us : List TileRec) (old next : History) (r : Result T E) → IsQuiet (current old) → ¬ IsOpen (current old).journal.now → Ticks old next r → current next ≡ current old
    → During (λ d. IsReadable (current old).bundle.now → EachImage (AllOrNone us (tiles (current old).bundle.now)) d) old next
measured us old next r quiet closed tick same =
    let Either = AllOrNone us (tiles (current old).bundle.now) in
    let Pass : Disk → Type 0 = λ d. IsReadable (current old).bundle.now → EachImage Either d in
    stays_on Pass old old next r (started Pass old (λ readable. still_good Either (current old) quiet closed readable (inl refl))) tick same

-- the bundle is measured, which is empty, and the tile is put
put_first : {T E : Type 0} (us : List TileRec) (old next last : History) (r : Result T E) → IsQuiet (current old) → ¬ IsOpen (current old).journal.now → Ticks old next r → current next ≡ current old
    → length (current old).bundle.now ≡ 0 → During (EachImage (AllOrNone us no_tiles)) next last
    → During (λ d. IsReadable (current old).bundle.now → EachImage (AllOrNone us (tiles (current old).bundle.now)) d) old last
put_first us old next last r quiet closed tick same zero during =
    let b = (current old).bundle.now in
    let none : tiles b ≡ no_tiles = ap tiles (nil_from_length b zero) ∙ tiles_empty in
    during_join _ old next last (measured us old next r quiet closed tick same)
    (during_map _ _ next last (λ d each readable. subst (λ (m : TileMap). EachImage (AllOrNone us m) d) (sym none) each) during)

-- the bundle is measured, which is not empty, and the tile is put
put_more : {T E : Type 0} (us : List TileRec) (old next last : History) (r : Result T E)
    → IsQuiet (current old) → ¬ IsOpen (current old).journal.now
    → Ticks old next r → current next ≡ current old
    → length (current old).bundle.now ≢ 0
    → During (λ d. IsBundle (current next).bundle.now
    → EachImage (AllOrNone us (tiles (current next).bundle.now)) d) next last
    → During (λ d. IsReadable (current old).bundle.now
    → EachImage (AllOrNone us (tiles (current old).bundle.now)) d) old last
put_more us old next last r quiet closed tick same more during =
    let bundle = ap (λ (d : Disk). d.bundle.now) same in
    let Either : List ℕ → Disk → Type 0 = λ b. EachImage (AllOrNone us (tiles b)) in
    during_join _ old next last (measured us old next r quiet closed tick same)
    (during_map _ _ next last (λ d each readable. elim readable [
      | inl zero ↦ absurd (more zero)
      | inr is ↦ subst (λ (b : List ℕ). Either b d) bundle (each (subst IsBundle (sym bundle) is))
    ]) during)

pub returns-in_err-len-clause-changes : goal.returns-in_err-len-clause-changes
returns-in_err-len-clause-changes g c = record {
  same = (cc);
  counted = search rules;
  during = λ told.
      measured c.args.updates.now _ _ _ (c.requires.rest told).quiet (c.requires.rest told).closed c.len.ensures.time (c.len.ensures.disk told);
}

pub returns-in_err-put_on_nothing-clause-changes : goal.returns-in_err-put_on_nothing-clause-changes
returns-in_err-put_on_nothing-clause-changes g c = record {
  same = (cc);
  counted = search rules;
  during = λ told.
      put_first c.args.updates.now _ _ _ _ (c.requires.rest told).quiet (c.requires.rest told).closed c.len.ensures.time (c.len.ensures.disk told)
      (omega (arith, c.in_ok-len.ensures.answer told)) (c.put_on_nothing.ensures.changes.during (c.len.ensures.told ∙ told));
}

pub returns-in_ok-put_on_nothing-clause-changes : goal.returns-in_ok-put_on_nothing-clause-changes
returns-in_ok-put_on_nothing-clause-changes g c = record {
  same = (cc);
  counted = search rules;
  during = λ told.
      put_first c.args.updates.now _ _ _ _ (c.requires.rest told).quiet (c.requires.rest told).closed c.len.ensures.time (c.len.ensures.disk told)
      (omega (arith, c.in_ok-len.ensures.answer told)) (c.put_on_nothing.ensures.changes.during (c.len.ensures.told ∙ told));
}

pub returns-in_err-put_on_bundle-clause-changes : goal.returns-in_err-put_on_bundle-clause-changes
returns-in_err-put_on_bundle-clause-changes g c = record {
  same = (cc);
  counted = search rules;
  during = λ told.
      put_more c.args.updates.now _ _ _ _ (c.requires.rest told).quiet (c.requires.rest told).closed
      c.len.ensures.time (c.len.ensures.disk told)
      (λ zero. c.if-len-eq0.false (c.in_ok-len.ensures.answer told ∙ zero))
      (c.put_on_bundle.ensures.changes.during (c.len.ensures.told ∙ told));
}

pub returns-in_ok-put_on_bundle-clause-changes : goal.returns-in_ok-put_on_bundle-clause-changes
returns-in_ok-put_on_bundle-clause-changes g c = record {
  same = (cc);
  counted = search rules;
  during = λ told.
      put_more c.args.updates.now _ _ _ _ (c.requires.rest told).quiet (c.requires.rest told).closed
      c.len.ensures.time (c.len.ensures.disk told)
      (λ zero. c.if-len-eq0.false (c.in_ok-len.ensures.answer told ∙ zero))
      (c.put_on_bundle.ensures.changes.during (c.len.ensures.told ∙ told));
}

pub put_on_nothing-requires-clause-empty : goal.put_on_nothing-requires-clause-empty
put_on_nothing-requires-clause-empty g c = λ told_1.
    let told = sym c.len.ensures.told ∙ told_1 in
    let zero = sym (c.in_ok-len.ensures.answer told) ∙ c.if-len-eq0.true in
    ap (λ (d : Disk). d.bundle.now) (c.len.ensures.disk told) ∙ nil_from_length _ zero

pub put_on_bundle-requires-clause-keeps : goal.put_on_bundle-requires-clause-keeps
put_on_bundle-requires-clause-keeps g c = λ told_1.
    let told = sym c.len.ensures.told ∙ told_1 in
    subst (λ (d : Disk). Keeps c.args.front.now d.bundle.now) (sym (c.len.ensures.disk told)) (c.requires.rest told).keeps

-- a bundle that is not empty and opens has its index
index_of_opens : (b : List ℕ) → Opens b → length b ≢ 0 → HasIndex b
index_of_opens b opens more = elim opens [ inl zero ↦ absurd (more zero) | inr index ↦ index ]

pub put_on_nothing-requires-clause-room : goal.put_on_nothing-requires-clause-room
put_on_nothing-requires-clause-room g c = omega (arith, records_small c.args.updates.now c.requires.group.fit, c.requires.group.most)

pub returns-in_ok-put_on_nothing-clause-done : goal.returns-in_ok-put_on_nothing-clause-done
returns-in_ok-put_on_nothing-clause-done g c = λ told.
    let b = (current (g.V.Volume.history c.args.vol.now)).bundle.now in
    let us = c.args.updates.now in
    let zero : length b ≡ 0 = sym (c.in_ok-len.ensures.answer told) ∙ c.if-len-eq0.true in
    subst (λ (l : List ℕ). HoldsClosed l (current (g.V.Volume.history c.put_on_nothing.new.vol))) (sym (puts_on_nothing b us zero c.requires.group.some c.in_ok-put_on_nothing.ensures.tiles))
    (c.in_ok-put_on_nothing.ensures.done (c.len.ensures.told ∙ told))

pub returns-in_ok-put_on_bundle-clause-done : goal.returns-in_ok-put_on_bundle-clause-done
returns-in_ok-put_on_bundle-clause-done g c = λ told.
    let b = (current (g.V.Volume.history c.args.vol.now)).bundle.now in
    let us = c.args.updates.now in
    let more : length b ≢ 0 = λ zero. c.if-len-eq0.false (c.in_ok-len.ensures.answer told ∙ zero) in
    let index = index_of_opens b (c.requires.rest told).opens more in
    let still = ap (λ (d : Disk). bundle_with_tiles d.bundle.now us) (c.len.ensures.disk told) in
    subst (λ (l : List ℕ). HoldsClosed l (current (g.V.Volume.history c.put_on_bundle.new.vol))) (still ∙ sym (puts_on b us index.long c.put_on_bundle.ensures.tiles))
    (c.in_ok-put_on_bundle.ensures.done (c.len.ensures.told ∙ told))

pub returns-in_ok-put_on_nothing-clause-rest : goal.returns-in_ok-put_on_nothing-clause-rest
returns-in_ok-put_on_nothing-clause-rest g c = λ told.
    let us = c.args.updates.now in
    let room : length (layout no_tiles) + length (group_records us) ≤ 2 ^ 40 = omega (arith, length-nothing, records_small us c.requires.group.fit, c.requires.group.most) in
    let done = puts_replace us (layout no_tiles) (layout_bundle no_tiles nothing_fits) c.in_ok-put_on_nothing.ensures.tiles (room_all us (length (layout no_tiles)) room) in
    holds_rest (bundle_with_tiles (layout no_tiles) us) c.put_on_nothing.new.front (current (g.V.Volume.history c.put_on_nothing.new.vol))
    (inr done.0.index) (c.in_ok-put_on_nothing.ensures.keeps (c.len.ensures.told ∙ told)) (c.in_ok-put_on_nothing.ensures.done (c.len.ensures.told ∙ told))

pub returns-in_ok-put_on_bundle-clause-rest : goal.returns-in_ok-put_on_bundle-clause-rest
returns-in_ok-put_on_bundle-clause-rest g c = λ told.
    let us = c.args.updates.now in
    let next = current (g.V.Volume.history c.len.new.self) in
    let opens : Opens next.bundle.now = subst (λ (d : Disk). Opens d.bundle.now) (sym (c.len.ensures.disk told)) (c.requires.rest told).opens in
    let size : length next.bundle.now ≡ c.in_ok-len.len = ap (λ (d : Disk). length d.bundle.now) (c.len.ensures.disk told) ∙ sym (c.in_ok-len.ensures.answer told) in
    let index = index_of_opens next.bundle.now opens (λ zero. c.if-len-eq0.false (sym size ∙ zero)) in
    let room : length next.bundle.now + length (group_records us) ≤ 2 ^ 40 = omega (arith, size, c.in_ok-room_for.ensures.room) in
    holds_rest (bundle_with_tiles next.bundle.now us) c.put_on_bundle.new.front (current (g.V.Volume.history c.put_on_bundle.new.vol))
    (inr (puts_index us next.bundle.now index c.put_on_bundle.ensures.tiles (room_all us (length next.bundle.now) room)))
    (c.in_ok-put_on_bundle.ensures.keeps (c.len.ensures.told ∙ told)) (c.in_ok-put_on_bundle.ensures.done (c.len.ensures.told ∙ told))

pub returns-in_err-room_for-clause-changes : goal.returns-in_err-room_for-clause-changes
returns-in_err-room_for-clause-changes g c = record {
  same = (cc);
  counted = search rules;
  during = λ told.
      measured c.args.updates.now _ _ _ (c.requires.rest told).quiet (c.requires.rest told).closed c.len.ensures.time (c.len.ensures.disk told);
}
