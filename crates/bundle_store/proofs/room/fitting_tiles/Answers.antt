use Rattle.std.proofs.Common.{◌≡◌, ℕ, ◌+◌, ◌^◌, ◌<◌, ◌≤◌, get_or, length, take, sym, ap, subst, inl, inr, arith}
use Rattle.std.proofs.lemmas.Bool.{cases_lt}
use Rattle.bundle_store.specs.Build.{bytes_at}
use Rattle.bundle_store.specs.GroupPuts.{AreTilesIn, group_records}
use Rattle.bundle_store.proofs.GroupEntries.{item_is, records_step, take_step, tiles_next}
use Rattle.bundle_store.proofs.GroupWrites.{nobody}
use Rattle.bundle_store.proofs.room.fitting_tiles.Goals as goal

pub loop-i-preserved : goal.loop-i-preserved
loop-i-preserved c =
    let us = c.args.tiles.now in
    let i = c.loop-i.i in
    let inv = c.loop-i.invariant in
    let less : i < length us = omega (arith, c.loop-i-test.true, c.requires.most) in
    let u = get_or us i nobody in
    let is = item_is us i less in
    let bytes = ap length c.bytes.ensures in
    let fits = c.requires.fit i less in
    let here : c.args.len + length (group_records (take i us)) + 4 + length (bytes_at us i) ≤ 2 ^ 40 = omega (arith, inv.at, c.if-end-size.false, bytes, fits.1) in
    let slot : u.slot < 16384 = subst (λ (s : ℕ). s < 16384) c.slot.ensures c.number-number.ensures.below in
    record {
      at = omega (arith, inv.at, records_step us i u is less, bytes);
      small = λ some. omega (arith, c.if-end-size.false, bytes, fits.1);
      first = record {
        room = λ j before. elim (cases_lt j i) [
          | inl earlier ↦ inv.first.room j earlier
          | inr last ↦ subst (λ (m : ℕ). c.args.len + length (group_records (take m us)) + 4 + length (bytes_at us m) ≤ 2 ^ 40) (let e : i ≡ j = omega (arith, last, before) in e) here
        ];
        tiles = subst AreTilesIn (sym (take_step us i u is less)) (tiles_next (take i us) u inv.first.tiles slot fits.0 fits.1);
      };
    }
