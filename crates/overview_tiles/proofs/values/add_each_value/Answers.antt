use Rattle.std.proofs.Common.{rules, ◌≡◌, ◌+◌, ◌*◌, ◌<◌, length, get_or, map, refl, sym, subst, ap, ◌∙◌, arith, w64, FitsSigned}
use Rattle.std.specs.Prelude.{pos, ◌+ℤ◌}
use Rattle.std.proofs.lemmas.Int.{ints}
use Rattle.std.proofs.lemmas.List.{length-map}
use Rattle.overview_tiles.specs.inside.Comes.{IsWithin, in_row, piece_amount}
use Rattle.overview_tiles.proofs.Comes.{sums_room, sums_start}
use Rattle.overview_tiles.proofs.Numbered.{number_at, number_step, number_within}
use Rattle.overview_tiles.proofs.values.add_each_value.Goals as goal

pub loop-i-init : goal.loop-i-init
loop-i-init g c = sums_start c.args.piece.depth c.args.piece.d (in_row c.args.piece.base c.args.piece.col) (piece_amount c.args.piece.first c.args.piece.depth c.args.piece.d c.args.cells.now.values) (map g.S.Sum.number c.args.sums.now)

pub value_of-value-requires-clause-few : goal.value_of-value-requires-clause-few
value_of-value-requires-clause-few g c = c.requires.fits.size

pub value_of-value-requires-clause-depth : goal.value_of-value-requires-clause-depth
value_of-value-requires-clause-depth g c = c.requires.fits.depth

pub value_of-value-requires-clause-there : goal.value_of-value-requires-clause-there
value_of-value-requires-clause-there g c = c.requires.fits.there

pub bounds-sums-at : goal.bounds-sums-at
bounds-sums-at g c =
    let p = c.args.piece in
    let N = g.S.Sum.number in
    let reach = g.S.Sum.reach in
    let values = c.args.cells.now.values in
    let a = piece_amount p.first p.depth p.d values in
    let to = in_row p.base p.col in
    let fits = c.requires.fits in
    let i = c.loop-i.i in
    let less = c.loop-i-test.true in
    let k = to i * p.depth + p.d in
    let sums = c.loop-i.sums in
    let wide = length-map c.args.sums.now N in
    let room : k < length sums = omega (arith, fits.room i less, wide, c.loop-i.auto.sums) in
    room

pub bounds-sums-at-in-loop-i : goal.bounds-sums-at-in-loop-i
bounds-sums-at-in-loop-i g c =
    let p = c.args.piece in
    let N = g.S.Sum.number in
    let reach = g.S.Sum.reach in
    let values = c.args.cells.now.values in
    let a = piece_amount p.first p.depth p.d values in
    let to = in_row p.base p.col in
    let fits = c.requires.fits in
    let i = c.loop-i.i in
    let less = c.loop-i-test.true in
    let k = to i * p.depth + p.d in
    let sums = c.loop-i.sums in
    let wide = length-map c.args.sums.now N in
    let room : k < length sums = omega (arith, fits.room i less, wide, c.loop-i.auto.sums) in
    room

pub plus-requires-clause-within : goal.plus-requires-clause-within
plus-requires-clause-within g c =
    let p = c.args.piece in
    let N = g.S.Sum.number in
    let reach = g.S.Sum.reach in
    let values = c.args.cells.now.values in
    let a = piece_amount p.first p.depth p.d values in
    let to = in_row p.base p.col in
    let fits = c.requires.fits in
    let i = c.loop-i.i in
    let less = c.loop-i-test.true in
    let k = to i * p.depth + p.d in
    let sums = c.loop-i.sums in
    let wide = length-map c.args.sums.now N in
    let room : k < length sums = omega (arith, fits.room i less, wide, c.loop-i.auto.sums) in
    let e = c.index-sums-at.result in
    let wide' = length-map sums N in
    let small = sums_room reach p.depth p.d to a i k (map N c.args.sums.now) (map N sums) refl (omega (arith, less, fits.few)) (fits.room i less) (λ j under. fits.small j (omega (arith, under, less))) c.loop-i.invariant fits.within in
    subst (λ x. IsWithin (2048 * reach) (N x)) (sym c.index-sums-at.is) (number_within N sums (2048 * reach) k e room small)

pub plus-requires-clause-small : goal.plus-requires-clause-small
plus-requires-clause-small g c =
    let p = c.args.piece in
    let N = g.S.Sum.number in
    let reach = g.S.Sum.reach in
    let values = c.args.cells.now.values in
    let a = piece_amount p.first p.depth p.d values in
    let to = in_row p.base p.col in
    let fits = c.requires.fits in
    let i = c.loop-i.i in
    let z = c.value_of-value.result in
    let fz : FitsSigned w64 z = search rules in
    let is : z ≡ a i = c.value_of-value.ensures.value in
    let one = fits.small i c.loop-i-test.true in
    (omega (arith, ints, fz, is, one.0, one.1), omega (arith, ints, fz, is, one.0, one.1))

pub loop-i-preserved : goal.loop-i-preserved
loop-i-preserved g c =
    let p = c.args.piece in
    let N = g.S.Sum.number in
    let reach = g.S.Sum.reach in
    let values = c.args.cells.now.values in
    let a = piece_amount p.first p.depth p.d values in
    let to = in_row p.base p.col in
    let fits = c.requires.fits in
    let i = c.loop-i.i in
    let less = c.loop-i-test.true in
    let k = to i * p.depth + p.d in
    let sums = c.loop-i.sums in
    let wide = length-map c.args.sums.now N in
    let room : k < length sums = omega (arith, fits.room i less, wide, c.loop-i.auto.sums) in
    let e = c.index-sums-at.result in
    let v = c.plus.result in
    let z = c.value_of-value.result in
    let fz : FitsSigned w64 z = search rules in
    let is : z ≡ a i = c.value_of-value.ensures.value in
    let was : get_or (map N sums) k (pos 0) ≡ N e = number_at N sums k e room ∙ ap N (sym c.index-sums-at.is) in
    let now : N v ≡ get_or (map N sums) k (pos 0) +ℤ a i = omega (arith, ints, fz, is, was, c.plus.ensures) in
    number_step N p.depth p.d to a i k v c.args.sums.now sums fits.depth refl room c.loop-i.auto.sums now c.loop-i.invariant
