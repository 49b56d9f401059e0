use Rattle.std.proofs.Common.{◌≡◌, ◌+◌, ◌*◌, ◌/◌, ◌<◌, false, length, get_or, ap, subst, ◌∙◌, arith}
use Rattle.std.specs.Prelude.{pos, ◌+ℤ◌}
use Rattle.std.proofs.lemmas.Int.{ints}
use Rattle.std.proofs.Math.ListN.{set}
use Rattle.raster_cells.proofs.Pack.{bit}
use Rattle.overview_tiles.specs.inside.Comes.{GrowsCounts, in_row, marks_amount}
use Rattle.overview_tiles.proofs.Comes.{counts_pair, counts_room_pair, counts_start, pair_first, pair_second}
use Rattle.overview_tiles.proofs.Steps.{mark_number, marks_up}
use Rattle.overview_tiles.proofs.layer.add_mark_pairs.Goals as goal

pub loop-k-init : goal.loop-k-init
loop-k-init c = subst (λ n. GrowsCounts (in_row c.args.base c.args.col) (marks_amount c.args.marks.now) n c.args.counts.now c.args.counts.now) (let e : 0 ≡ 2 * 0 = omega arith in e)
    (counts_start (in_row c.args.base c.args.col) (marks_amount c.args.marks.now) c.args.counts.now)

pub overflow_add-counts-in-loop-k-2 : goal.overflow_add-counts-in-loop-k-2
overflow_add-counts-in-loop-k-2 c =
    let marks = c.args.marks.now in
    let amount = marks_amount marks in
    let to = in_row c.args.base c.args.col in
    let k = c.loop-k.k in
    let n = 2 * k in
    let place = c.args.base + c.args.col / 2 + k in
    let first : to n ≡ place = pair_first c.args.base c.args.col k c.requires.even in
    let second : to (n + 1) ≡ place = pair_second c.args.base c.args.col k c.requires.even in
    let inside : place < length c.args.counts.now = subst (λ m. m < length c.args.counts.now) first (c.requires.room n (omega (arith, c.loop-k-test.true))) in
    let fit = counts_room_pair to amount n (length marks) place c.args.counts.now c.loop-k.counts (marks_up marks) first second (omega (arith, c.loop-k-test.true)) inside c.loop-k.invariant c.requires.fits in
    let first_mark = get_or marks n false in
    let second_mark = get_or marks (n + 1) false in
    let a : pos c.from.result ≡ amount n = ap pos (c.from.ensures ∙ bit first_mark) ∙ mark_number first_mark in
    let b : pos c.from-in-loop-k.result ≡ amount (n + 1) = ap pos (c.from-in-loop-k.ensures ∙ bit second_mark) ∙ mark_number second_mark in
    omega (arith, ints, fit, a, b)

pub loop-k-preserved : goal.loop-k-preserved
loop-k-preserved c =
    let to = in_row c.args.base c.args.col in
    let marks = c.args.marks.now in
    let amount = marks_amount marks in
    let counts = c.args.counts.now in
    let k = c.loop-k.k in
    let n = 2 * k in
    let place = c.args.base + c.args.col / 2 + k in
    let first : to n ≡ place = pair_first c.args.base c.args.col k c.requires.even in
    let second : to (n + 1) ≡ place = pair_second c.args.base c.args.col k c.requires.even in
    let inside : place < length counts = subst (λ m. m < length counts) first (c.requires.room n (omega (arith, c.loop-k-test.true))) in
    let under : place < length c.loop-k.counts = omega (arith, inside, c.loop-k.auto.counts) in
    let x = get_or c.loop-k.counts place 0 in
    let more = c.from.result + c.from-in-loop-k.result in
    let first_mark = get_or marks n false in
    let second_mark = get_or marks (n + 1) false in
    let a : pos c.from.result ≡ amount n = ap pos (c.from.ensures ∙ bit first_mark) ∙ mark_number first_mark in
    let b : pos c.from-in-loop-k.result ≡ amount (n + 1) = ap pos (c.from-in-loop-k.ensures ∙ bit second_mark) ∙ mark_number second_mark in
    let is : pos (x + more) ≡ (pos x +ℤ amount n) +ℤ amount (n + 1) = omega (arith, ints, a, b) in
    subst (λ m. GrowsCounts to amount m counts (set c.loop-k.counts place (x + more))) (let e : n + 2 ≡ 2 * (k + 1) = omega arith in e)
    (counts_pair to amount n place (x + more) counts c.loop-k.counts first second under is c.loop-k.invariant)

pub returns : goal.returns
returns c =
    let all : 2 * c.loop-k.k ≡ length c.args.marks.now = omega (arith, c.loop-k-test.false, c.loop-k.auto.k-end, c.requires.pairs) in
    subst (λ n. GrowsCounts (in_row c.args.base c.args.col) (marks_amount c.args.marks.now) n c.args.counts.now c.loop-k.counts) all c.loop-k.invariant
