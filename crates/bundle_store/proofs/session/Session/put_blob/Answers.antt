use Rattle.std.proofs.Common.{◌≡◌, ◌+◌, ◌^◌, ◌≤◌, List, length, false, subst, ap, arith}
use Rattle.std.specs.Prelude.{IfErr, OnOk}
use Rattle.std.proofs.lemmas.Result.{on_ok_weaker}
use Rattle.outside_io.specs.volume.History.{During, current}
use Rattle.bundle_store.specs.declared.tile_rec.TileRec.{TileRec}
use Rattle.bundle_store.specs.Build.{EachFits}
use Rattle.bundle_store.specs.GroupPuts.{AllOrNone, NoRoom, OnFull, bundle_after_puts, group_records}
use Rattle.bundle_store.specs.Images.{EachImage, HoldsClosed}
use Rattle.bundle_store.specs.Session.{GroupFails, KeepsLength, PutFails}
use Rattle.bundle_store.specs.Tiles.{IsReadable, tiles}
use Rattle.bundle_store.proofs.OneUpdate.{err_both, one_fails, one_fits, one_full, one_room, only}
use Rattle.bundle_store.proofs.session.Session.put_blob.Goals as goal

pub put_updates-requires-clause-some : goal.put_updates-requires-clause-some
put_updates-requires-clause-some g c = omega (arith, ap length c.one.ensures)

pub put_updates-requires-clause-most : goal.put_updates-requires-clause-most
put_updates-requires-clause-most g c = omega (arith, ap length c.one.ensures)

pub returns-clause-done : goal.returns-clause-done
returns-clause-done g c = λ told.
    let b = (current (g.V.Volume.history c.args.vol.now)).bundle.now in
    subst (λ (us : List TileRec). OnOk c.put_updates.result (HoldsClosed (bundle_after_puts b us) (current (g.V.Volume.history c.put_updates.new.vol)))) c.one.ensures (c.put_updates.ensures.done told)

pub returns-clause-answers : goal.returns-clause-answers
returns-clause-answers g c =
    let fails = subst (λ (us : List TileRec). IfErr c.put_updates.result (λ f. GroupFails us f)) c.one.ensures c.put_updates.ensures.answers in
    err_both c.put_updates.result (GroupFails (only c.args.slot c.args.tile.now)) (GroupFails (only c.args.slot c.args.tile.now)) (PutFails (length c.args.tile.now)) (λ f is same. one_fails c.args.slot c.args.tile.now f is) fails fails

pub returns-clause-fits : goal.returns-clause-fits
returns-clause-fits g c =
    on_ok_weaker c.put_updates.result (one_fits c.args.slot c.args.tile.now) (subst (λ (us : List TileRec). OnOk c.put_updates.result (EachFits us)) c.one.ensures c.put_updates.ensures.fits)

pub returns-clause-room : goal.returns-clause-room
returns-clause-room g c = λ told.
    let n = length (current (g.V.Volume.history c.args.vol.now)).bundle.now in
    on_ok_weaker c.put_updates.result (one_room c.args.slot c.args.tile.now n) (subst (λ (us : List TileRec). OnOk c.put_updates.result (n + length (group_records us) ≤ 2 ^ 40)) c.one.ensures (c.put_updates.ensures.room told))

pub returns-clause-full : goal.returns-clause-full
returns-clause-full g c = λ told.
    let n = length (current (g.V.Volume.history c.args.vol.now)).bundle.now in
    let us = only c.args.slot c.args.tile.now in
    let fails = subst (λ (l : List TileRec). IfErr c.put_updates.result (λ f. GroupFails l f)) c.one.ensures c.put_updates.ensures.answers in
    let full = subst (λ (l : List TileRec). IfErr c.put_updates.result (λ f. OnFull (λ len. NoRoom n l len) f)) c.one.ensures (c.put_updates.ensures.full told) in
    err_both c.put_updates.result (GroupFails us) (OnFull (λ len. NoRoom n us len)) (KeepsLength n) (one_full c.args.slot c.args.tile.now n) fails full

pub returns-clause-images : goal.returns-clause-images
returns-clause-images g c = λ told.
    let old = g.V.Volume.history c.args.vol.now in
    let b = (current old).bundle.now in
    subst (λ (us : List TileRec). During (λ d. c.args.self.now.stopped ≡ false → IsReadable b → EachImage (AllOrNone us (tiles b)) d) old (g.V.Volume.history c.put_updates.new.vol)) c.one.ensures (c.put_updates.ensures.images told)
