use Rattle.std.proofs.Common.{rules, ◌≡◌, ◌+◌, ◌*◌, ◌/◌, ◌<◌, length, get_or, map, sym, subst, ap, ◌∙◌, arith, w64, FitsSigned}
use Rattle.std.specs.Prelude.{pos, ◌+ℤ◌}
use Rattle.std.proofs.Math.ListN.{set}
use Rattle.std.proofs.lemmas.Int.{ints}
use Rattle.std.proofs.lemmas.List.{length-map}
use Rattle.overview_tiles.specs.inside.Comes.{GrowsSums, IsWithin, in_row, piece_amount}
use Rattle.overview_tiles.proofs.Comes.{pair_first, pair_second, sums_room, sums_start}
use Rattle.overview_tiles.proofs.Numbered.{number_at, number_pair, number_within, pair_room}
use Rattle.overview_tiles.proofs.values.add_value_pairs.Goals as goal

pub loop-k-init : goal.loop-k-init
loop-k-init g c =
    let p = c.args.piece in
    let N = g.S.Sum.number in
    let reach = g.S.Sum.reach in
    let values = c.args.cells.now.values in
    let a = piece_amount p.first p.depth p.d values in
    let to = in_row p.base p.col in
    let fits = c.requires.fits in
    subst (λ n. GrowsSums p.depth p.d to a n (map N c.args.sums.now) (map N c.args.sums.now)) (let e : 0 ≡ 2 * 0 = omega arith in e) (sums_start p.depth p.d to a (map N c.args.sums.now))

pub value_of-one-requires-clause-few : goal.value_of-one-requires-clause-few
value_of-one-requires-clause-few g c = c.requires.fits.size

pub value_of-one-requires-clause-depth : goal.value_of-one-requires-clause-depth
value_of-one-requires-clause-depth g c = c.requires.fits.depth

pub value_of-one-requires-clause-there : goal.value_of-one-requires-clause-there
value_of-one-requires-clause-there g c = c.requires.fits.there

pub value_of-other-requires-clause-few : goal.value_of-other-requires-clause-few
value_of-other-requires-clause-few g c = c.requires.fits.size

pub value_of-other-requires-clause-depth : goal.value_of-other-requires-clause-depth
value_of-other-requires-clause-depth g c = c.requires.fits.depth

pub value_of-other-requires-clause-there : goal.value_of-other-requires-clause-there
value_of-other-requires-clause-there g c = c.requires.fits.there

pub bounds-sums-at : goal.bounds-sums-at
bounds-sums-at g c = pair_room g.S.Sum.number c.args.piece.base c.args.piece.col c.args.piece.depth c.args.piece.d c.loop-k.k c.args.piece.count c.args.sums.now c.loop-k.sums c.requires.even c.requires.fits.room (omega (arith, c.loop-k-test.true)) c.loop-k.auto.sums

pub offset_bounds-sums-at : goal.offset_bounds-sums-at
offset_bounds-sums-at g c = let under = pair_room g.S.Sum.number c.args.piece.base c.args.piece.col c.args.piece.depth c.args.piece.d c.loop-k.k c.args.piece.count c.args.sums.now c.loop-k.sums c.requires.even c.requires.fits.room (omega (arith, c.loop-k-test.true)) c.loop-k.auto.sums in search rules

pub bounds-sums-at-in-loop-k : goal.bounds-sums-at-in-loop-k
bounds-sums-at-in-loop-k g c = pair_room g.S.Sum.number c.args.piece.base c.args.piece.col c.args.piece.depth c.args.piece.d c.loop-k.k c.args.piece.count c.args.sums.now c.loop-k.sums c.requires.even c.requires.fits.room (omega (arith, c.loop-k-test.true)) c.loop-k.auto.sums

pub offset_bounds-sums-at-in-loop-k : goal.offset_bounds-sums-at-in-loop-k
offset_bounds-sums-at-in-loop-k g c = let under = pair_room g.S.Sum.number c.args.piece.base c.args.piece.col c.args.piece.depth c.args.piece.d c.loop-k.k c.args.piece.count c.args.sums.now c.loop-k.sums c.requires.even c.requires.fits.room (omega (arith, c.loop-k-test.true)) c.loop-k.auto.sums in search rules

pub overflow_add-one : goal.overflow_add-one
overflow_add-one g c =
    let low_y = c.value_of-one.ensures.small in
    let low_z = c.value_of-other.ensures.small in
    let y = c.value_of-one.result in
    let z = c.value_of-other.result in
    let fy : FitsSigned w64 y = search rules in
    let fz : FitsSigned w64 z = search rules in
    omega (arith, ints, fy, fz, low_y.0, low_y.1, low_z.0, low_z.1)

pub plus-requires-clause-within : goal.plus-requires-clause-within
plus-requires-clause-within g c =
    let p = c.args.piece in
    let N = g.S.Sum.number in
    let reach = g.S.Sum.reach in
    let values = c.args.cells.now.values in
    let a = piece_amount p.first p.depth p.d values in
    let to = in_row p.base p.col in
    let fits = c.requires.fits in
    let k = c.loop-k.k in
    let n = 2 * k in
    let place = (p.base + p.col / 2 + k) * p.depth + p.d in
    let first : to n ≡ p.base + p.col / 2 + k = pair_first p.base p.col k c.requires.even in
    let second : to (n + 1) ≡ to n = pair_second p.base p.col k c.requires.even ∙ sym first in
    let at : to n * p.depth + p.d ≡ place = ap (λ m. m * p.depth + p.d) first in
    let less : n < p.count = omega (arith, c.loop-k-test.true) in
    let beside : n + 1 < p.count = omega (arith, c.loop-k-test.true) in
    let sums = c.loop-k.sums in
    let wide = length-map c.args.sums.now N in
    let room : to n * p.depth + p.d < length (map N c.args.sums.now) = fits.room n less in
    let inside : place < length (map N c.args.sums.now) = subst (λ m. m < length (map N c.args.sums.now)) at room in
    let under : place < length sums = omega (arith, inside, wide, c.loop-k.auto.sums) in
    let e = c.index-sums-at.result in
    let small = sums_room reach p.depth p.d to a n place (map N c.args.sums.now) (map N sums) at (omega (arith, less, fits.few)) inside (λ j low. fits.small j (omega (arith, low, less))) c.loop-k.invariant fits.within in
    subst (λ x. IsWithin (2048 * reach) (N x)) (sym c.index-sums-at.is) (number_within N sums (2048 * reach) place e under small)

pub plus-requires-clause-small : goal.plus-requires-clause-small
plus-requires-clause-small g c =
    let p = c.args.piece in
    let N = g.S.Sum.number in
    let reach = g.S.Sum.reach in
    let values = c.args.cells.now.values in
    let a = piece_amount p.first p.depth p.d values in
    let to = in_row p.base p.col in
    let fits = c.requires.fits in
    let n = 2 * c.loop-k.k in
    let less : n < p.count = omega (arith, c.loop-k-test.true) in
    let beside : n + 1 < p.count = omega (arith, c.loop-k-test.true) in
    let y = c.value_of-one.result in
    let z = c.value_of-other.result in
    let fy : FitsSigned w64 y = search rules in
    let fz : FitsSigned w64 z = search rules in
    let is_y : y ≡ a n = c.value_of-one.ensures.value in
    let is_z : z ≡ a (n + 1) = c.value_of-other.ensures.value in
    let low_y = c.value_of-one.ensures.small in
    let low_z = c.value_of-other.ensures.small in
    let one = fits.small n less in
    let two = fits.small (n + 1) beside in
    (omega (arith, ints, fy, fz, is_y, is_z, low_y.0, low_y.1, low_z.0, low_z.1, one.0, one.1, two.0, two.1), omega (arith, ints, fy, fz, is_y, is_z, low_y.0, low_y.1, low_z.0, low_z.1, one.0, one.1, two.0, two.1))

pub loop-k-preserved : goal.loop-k-preserved
loop-k-preserved g c =
    let p = c.args.piece in
    let N = g.S.Sum.number in
    let reach = g.S.Sum.reach in
    let values = c.args.cells.now.values in
    let a = piece_amount p.first p.depth p.d values in
    let to = in_row p.base p.col in
    let fits = c.requires.fits in
    let k = c.loop-k.k in
    let n = 2 * k in
    let place = (p.base + p.col / 2 + k) * p.depth + p.d in
    let first : to n ≡ p.base + p.col / 2 + k = pair_first p.base p.col k c.requires.even in
    let second : to (n + 1) ≡ to n = pair_second p.base p.col k c.requires.even ∙ sym first in
    let at : to n * p.depth + p.d ≡ place = ap (λ m. m * p.depth + p.d) first in
    let less : n < p.count = omega (arith, c.loop-k-test.true) in
    let beside : n + 1 < p.count = omega (arith, c.loop-k-test.true) in
    let sums = c.loop-k.sums in
    let wide = length-map c.args.sums.now N in
    let room : to n * p.depth + p.d < length (map N c.args.sums.now) = fits.room n less in
    let inside : place < length (map N c.args.sums.now) = subst (λ m. m < length (map N c.args.sums.now)) at room in
    let under : place < length sums = omega (arith, inside, wide, c.loop-k.auto.sums) in
    let y = c.value_of-one.result in
    let z = c.value_of-other.result in
    let fy : FitsSigned w64 y = search rules in
    let fz : FitsSigned w64 z = search rules in
    let is_y : y ≡ a n = c.value_of-one.ensures.value in
    let is_z : z ≡ a (n + 1) = c.value_of-other.ensures.value in
    let low_y = c.value_of-one.ensures.small in
    let low_z = c.value_of-other.ensures.small in
    let e = c.index-sums-at.result in
    let v = c.plus.result in
    let was : get_or (map N sums) place (pos 0) ≡ N e = number_at N sums place e under ∙ ap N (sym c.index-sums-at.is) in
    let now : N v ≡ (get_or (map N sums) place (pos 0) +ℤ a n) +ℤ a (n + 1) = omega (arith, ints, fy, fz, is_y, is_z, low_y.0, low_y.1, low_z.0, low_z.1, was, c.plus.ensures) in
    subst (λ m. GrowsSums p.depth p.d to a m (map N c.args.sums.now) (map N (set sums place v))) (let e : n + 2 ≡ 2 * (k + 1) = omega arith in e)
    (number_pair N p.depth p.d to a n place v c.args.sums.now sums fits.depth at second under now c.loop-k.invariant)

pub returns : goal.returns
returns g c =
    let p = c.args.piece in
    let N = g.S.Sum.number in
    let reach = g.S.Sum.reach in
    let values = c.args.cells.now.values in
    let a = piece_amount p.first p.depth p.d values in
    let to = in_row p.base p.col in
    let fits = c.requires.fits in
    let all : 2 * c.loop-k.k ≡ p.count = omega (arith, c.loop-k-test.false, c.loop-k.auto.k-end, c.requires.pairs) in
    subst (λ n. GrowsSums p.depth p.d to a n (map N c.args.sums.now) (map N c.loop-k.sums)) all c.loop-k.invariant
