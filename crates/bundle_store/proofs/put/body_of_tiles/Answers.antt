use Rattle.std.proofs.Common.{◌≡◌, ◌+◌, ◌++◌, ◌∷◌, [], ◌<◌, ℕ, length, get_or, take, ap, sym, subst, ◌∙◌, arith}
use Rattle.bundle_store.specs.declared.tile_rec.TileRec.{TileRec}
use Rattle.bundle_store.specs.Appended.{bundle_with_tile}
use Rattle.bundle_store.specs.GroupPuts.{AreTilesIn, bundle_with_tiles, new_entries}
use Rattle.bundle_store.specs.Kept.{Keeps}
use Rattle.bundle_store.proofs.GroupEntries.{entries_long, entries_next, item_is, records_step, take_step, tiles_next, with_long, with_next, within_step}
use Rattle.std.proofs.lemmas.List.{length-take-le}
use Rattle.bundle_store.proofs.GroupWrites.{nobody}
use Rattle.bundle_store.proofs.put.body_of_tiles.Goals as goal

pub add_tile-requires-clause-room : goal.add_tile-requires-clause-room
add_tile-requires-clause-room c =
    let us = c.args.tiles.now in
    let i = c.loop-i.i in
    let less : i < length us = omega (arith, c.loop-i-test.true, c.len-i-end.ensures) in
    omega (arith, c.loop-i.invariant.at, c.requires.room, ap length c.bytes-tile.ensures, within_step us i (get_or us i nobody) (item_is us i less) less)

pub add_tile-requires-clause-some : goal.add_tile-requires-clause-some
add_tile-requires-clause-some c =
    let us = c.args.tiles.now in
    let less : c.loop-i.i < length us = omega (arith, c.loop-i-test.true, c.len-i-end.ensures) in
    omega (arith, ap length c.bytes-tile.ensures, (c.requires.fit c.loop-i.i less).0)

pub add_tile-requires-clause-size : goal.add_tile-requires-clause-size
add_tile-requires-clause-size c =
    let us = c.args.tiles.now in
    let less : c.loop-i.i < length us = omega (arith, c.loop-i-test.true, c.len-i-end.ensures) in
    omega (arith, ap length c.bytes-tile.ensures, (c.requires.fit c.loop-i.i less).1)

pub add_tile-requires-clause-most : goal.add_tile-requires-clause-most
add_tile-requires-clause-most c =
    let us = c.args.tiles.now in
    let size : length c.loop-i.group ≡ c.loop-i.i = ap length c.loop-i.invariant.entries ∙ entries_long (take c.loop-i.i us) c.args.len ∙ length-take-le c.loop-i.i us (omega (arith, c.loop-i-test.true, c.len-i-end.ensures)) in
    omega (arith, size, c.loop-i-test.true, c.len-i-end.ensures, c.requires.most)

pub overflow_add-end : goal.overflow_add-end
overflow_add-end c =
    let us = c.args.tiles.now in
    let less : c.loop-i.i < length us = omega (arith, c.loop-i-test.true, c.len-i-end.ensures) in
    omega (arith, ap length c.bytes-tile.ensures, (c.requires.fit c.loop-i.i less).1)

pub overflow_add-end-in-loop-i : goal.overflow_add-end-in-loop-i
overflow_add-end-in-loop-i c =
    let us = c.args.tiles.now in
    let i = c.loop-i.i in
    let less : i < length us = omega (arith, c.loop-i-test.true, c.len-i-end.ensures) in
    omega (arith, c.loop-i.invariant.at, c.requires.room, ap length c.bytes-tile.ensures, within_step us i (get_or us i nobody) (item_is us i less) less)

pub loop-i-preserved : goal.loop-i-preserved
loop-i-preserved c =
    let us = c.args.tiles.now in
    let i = c.loop-i.i in
    let less : i < length us = omega (arith, c.loop-i-test.true, c.len-i-end.ensures) in
    let u = get_or us i nobody in
    let inv = c.loop-i.invariant in
    let fits = c.requires.fit i less in
    let next : take (i + 1) us ≡ take i us ++ u ∷ [] = take_step us i u (item_is us i less) less in
    let slot : c.slot.result ≡ u.slot = c.slot.ensures in
    let bytes : c.bytes-tile.result.now ≡ u.bytes = c.bytes-tile.ensures in
    let put : TileRec = record { slot = c.slot.result; bytes = c.bytes-tile.result.now } in
    let this : put ≡ u = λ j. let x : TileRec = record { slot = slot j; bytes = bytes j } in x in
    record {
      at = omega (arith, inv.at, records_step us i u (item_is us i less) less, ap length bytes);
      entries = c.add_tile.ensures.group ∙ (λ j. inv.entries j ++ new_entries (inv.at j) (this j ∷ [])) ∙ sym (entries_next c.args.len (take i us) u) ∙ ap (new_entries c.args.len) (sym next);
      are = subst AreTilesIn (sym next) (tiles_next (take i us) u inv.are (subst (λ (n : ℕ). n < 16384) slot c.add_tile.ensures.slot) fits.0 fits.1);
      keeps = λ b long len keeps.
          let before = bundle_with_tiles b (take i us) in
          let size = with_long b (take i us) long inv.are in
          subst (Keeps c.add_tile.new.front) (ap (λ (x : TileRec). bundle_with_tile before x.slot x.bytes) this ∙ sym (with_next b (take i us) u) ∙ ap (bundle_with_tiles b) (sym next))
          (c.add_tile.ensures.keeps before (omega (arith, size, long)) (omega (arith, inv.at, size, len)) (inv.keeps b long len keeps));
    }
