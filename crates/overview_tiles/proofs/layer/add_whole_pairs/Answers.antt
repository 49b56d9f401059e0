use Rattle.std.proofs.Common.{◌≡◌, ◌+◌, ◌*◌, ◌/◌, ◌<◌, length, get_or, subst, arith}
use Rattle.std.specs.Prelude.{pos, ◌+ℤ◌}
use Rattle.std.proofs.lemmas.Int.{ints}
use Rattle.std.proofs.Math.ListN.{set}
use Rattle.overview_tiles.specs.inside.Comes.{GrowsCounts, in_row, ones}
use Rattle.overview_tiles.proofs.Comes.{counts_pair, counts_room_pair, counts_start, pair_first, pair_second}
use Rattle.overview_tiles.proofs.layer.add_whole_pairs.Goals as goal

pub loop-k-init : goal.loop-k-init
loop-k-init c = subst (λ n. GrowsCounts (in_row c.args.base c.args.col) ones n c.args.counts.now c.args.counts.now) (let e : 0 ≡ 2 * 0 = omega arith in e) (counts_start (in_row c.args.base c.args.col) ones c.args.counts.now)

pub overflow_add-counts-in-loop-k : goal.overflow_add-counts-in-loop-k
overflow_add-counts-in-loop-k c =
    let to = in_row c.args.base c.args.col in
    let k = c.loop-k.k in
    let n = 2 * k in
    let place = c.args.base + c.args.col / 2 + k in
    let first : to n ≡ place = pair_first c.args.base c.args.col k c.requires.even in
    let second : to (n + 1) ≡ place = pair_second c.args.base c.args.col k c.requires.even in
    let inside : place < length c.args.counts.now = subst (λ m. m < length c.args.counts.now) first (c.requires.room n (omega (arith, c.loop-k-test.true))) in
    let fit = counts_room_pair to ones n c.args.count place c.args.counts.now c.loop-k.counts (λ i. omega (arith, ints)) first second (omega (arith, c.loop-k-test.true)) inside c.loop-k.invariant c.requires.fits in
    omega (arith, ints, fit)

pub loop-k-preserved : goal.loop-k-preserved
loop-k-preserved c =
    let to = in_row c.args.base c.args.col in
    let counts = c.args.counts.now in
    let k = c.loop-k.k in
    let n = 2 * k in
    let place = c.args.base + c.args.col / 2 + k in
    let first : to n ≡ place = pair_first c.args.base c.args.col k c.requires.even in
    let second : to (n + 1) ≡ place = pair_second c.args.base c.args.col k c.requires.even in
    let inside : place < length counts = subst (λ m. m < length counts) first (c.requires.room n (omega (arith, c.loop-k-test.true))) in
    let under : place < length c.loop-k.counts = omega (arith, inside, c.loop-k.auto.counts) in
    let x = get_or c.loop-k.counts place 0 in
    let is : pos (x + 2) ≡ (pos x +ℤ pos 1) +ℤ pos 1 = omega (arith, ints) in
    subst (λ m. GrowsCounts to ones m counts (set c.loop-k.counts place (x + 2))) (let e : n + 2 ≡ 2 * (k + 1) = omega arith in e)
    (counts_pair to ones n place (x + 2) counts c.loop-k.counts first second under is c.loop-k.invariant)

pub returns : goal.returns
returns c =
    let all : 2 * c.loop-k.k ≡ c.args.count = omega (arith, c.loop-k-test.false, c.loop-k.auto.k-end, c.requires.pairs) in
    subst (λ n. GrowsCounts (in_row c.args.base c.args.col) ones n c.args.counts.now c.loop-k.counts) all c.loop-k.invariant
