use Rattle.std.proofs.Common.{◌≡◌, ◌+◌, ◌-◌, ◌%◌, ◌*◌, ◌<◌, ◌≤◌, ◌++◌, length, take, drop, refl, ap, sym, ◌∙◌, subst, arith}
use Rattle.std.proofs.lemmas.List.{append-nil, length-append, length-drop, length-take-le}
use borrow.Rule.Slice.PartMut.{post_of, put_mid}
use Rattle.delta_mode.specs.EncodeStates.{deltas_before}
use Rattle.delta_mode.proofs.FullPieces.{symbols_more}
use Rattle.delta_mode.proofs.WholeDepth.{piece_within}
use Rattle.delta_mode.proofs.marked_piece.write_pieces.Goals as goal

pub loop-at-init : goal.loop-at-init
loop-at-init g c =
    let r = g.V.View.pixels c.args.plane.now.raster.now in
    let within = c.requires.within in
    record {
      within = omega (arith, within);
      kept = c.requires.at;
      counted = omega arith;
      few = omega arith;
      fits = omega arith;
      room = refl;
      distances = c.requires.distances;
      symbols = sym (append-nil (deltas_before r c.args.plane.now.d c.args.place));
    }

pub loop-at-preserved : goal.loop-at-preserved
loop-at-preserved g c =
    let r = g.V.View.pixels c.args.plane.now.raster.now in
    let inv = c.loop-at.invariant in
    let at = c.loop-at.at in
    let n = c.min-count.result in
    let old = c.loop-at.out in
    let filled = c.loop-at.filled in
    let w = c.write_piece-behind.ensures in
    let walk = c.write_piece-behind.result in
    let piece = c.write_piece-behind.new.out in
    let least = c.min-count.ensures in
    let few = c.min.ensures in
    let short : n ≤ r.cols - at % r.cols = subst (λ w. n ≤ w - at % w) c.cols-cols.ensures.value (omega (arith, least)) in
    let below : at < r.rows * r.cols = subst (λ n. at < n) (λ i. c.rows.ensures.value i * c.cols-cols.ensures.value i) c.loop-at-test.true in
    let behind = length-drop filled old in
    let rest = length-take-le (length old - filled) (drop filled old) (omega (arith, behind)) in
    let same = c.write_piece-behind.auto.out in
    let sum = length-append (take filled old) piece in
    let front : length (take filled old) ≡ filled = length-take-le filled old inv.fits in
    let more : filled + (walk.count - c.loop-at.behind.count) ≡ walk.count - c.args.walk.count = omega (arith, w.some, inv.counted) in
    let next : deltas_before r c.args.plane.now.d (at + n) ≡ deltas_before r c.args.plane.now.d at ++ take (walk.count - c.loop-at.behind.count) piece = w.symbols in
    record {
      within = piece_within at n r.rows r.cols below short c.cols-cols.ensures.sound.shape.cols_above;
      kept = w.at;
      counted = omega (arith, w.some, inv.counted);
      few = omega (arith, w.few, inv.counted, inv.few);
      fits = omega (arith, w.few, inv.counted, sum, front, same, rest, least, few);
      room = omega (arith, sum, front, same, rest, inv.fits, inv.room);
      distances = c.write_piece-behind.auto.distances ∙ inv.distances;
      symbols = symbols_more r c.args.plane.now.d c.args.place at n filled (walk.count - c.loop-at.behind.count) old piece (post_of filled (length old - filled) old) inv.fits
          (omega (arith, w.few, same, rest, least, few)) inv.symbols next
          ∙ ap (λ m. deltas_before r c.args.plane.now.d c.args.place ++ take m (put_mid filled (length old - filled) old piece)) more;
    }

pub write_piece-behind-requires-clause-within : goal.write_piece-behind-requires-clause-within
write_piece-behind-requires-clause-within g c =
    let r = g.V.View.pixels c.args.plane.now.raster.now in
    let inv = c.loop-at.invariant in
    let at = c.loop-at.at in
    let n = c.min-count.result in
    let least = c.min-count.ensures in
    let few = c.min.ensures in
    let short : n ≤ r.cols - at % r.cols = subst (λ w. n ≤ w - at % w) c.cols-cols.ensures.value (omega (arith, least)) in
    let below : at < r.rows * r.cols = subst (λ n. at < n) (λ i. c.rows.ensures.value i * c.cols-cols.ensures.value i) c.loop-at-test.true in
    piece_within at n r.rows r.cols below short c.cols-cols.ensures.sound.shape.cols_above

pub write_piece-behind-requires-clause-col : goal.write_piece-behind-requires-clause-col
write_piece-behind-requires-clause-col g c = ap (λ n. c.loop-at.at % n) c.cols-cols.ensures.value
