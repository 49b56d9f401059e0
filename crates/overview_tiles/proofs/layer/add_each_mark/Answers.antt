use Rattle.std.proofs.Common.{◌≡◌, ◌+◌, List, ℕ, true, false, length, get_or, ap, sym, subst, refl, arith}
use Rattle.overview_tiles.specs.inside.Comes.{GrowsCounts, in_row, marks_amount, one_of}
use Rattle.overview_tiles.proofs.Comes.{counts_room, counts_skip, counts_start, counts_step}
use Rattle.overview_tiles.proofs.Steps.{marks_up}
use Rattle.overview_tiles.proofs.layer.add_each_mark.Goals as goal
use Rattle.overview_tiles.proofs.layer.add_each_mark.Goals.{then-mark, else-mark}

pub loop-i-init : goal.loop-i-init
loop-i-init c = counts_start (in_row c.args.base c.args.col) (marks_amount c.args.marks.now) c.args.counts.now

pub overflow_add-counts-then-mark-2 : goal.overflow_add-counts-then-mark-2
overflow_add-counts-then-mark-2 c =
    let to = in_row c.args.base c.args.col in
    let i = c.loop-i.i in
    let on : get_or c.args.marks.now i false ≡ true = c.if-mark.true in
    let fit = counts_room to (marks_amount c.args.marks.now) i (length c.args.marks.now) (to i) c.args.counts.now c.loop-i.counts (marks_up c.args.marks.now) refl c.loop-i-test.true (ap one_of on) (c.requires.room i c.loop-i-test.true) c.loop-i.invariant c.requires.fits in
    omega (arith, fit)

pub loop-i-preserved : goal.loop-i-preserved
loop-i-preserved c =
    let to = in_row c.args.base c.args.col in
    let amount = marks_amount c.args.marks.now in
    let i = c.loop-i.i in
    let old = c.args.counts.now in
    let new = c.loop-i.counts in
    let P : List ℕ → Type 0 = λ xs. GrowsCounts to amount (i + 1) old xs in
    elim c.if-mark.branch [
      | then-mark w ↦
          (let on : get_or c.args.marks.now i false ≡ true = w.if-mark.true in
          subst P (sym w.counts-is) (counts_step to amount i (to i) (get_or new (to i) 0 + 1) old new refl (omega (arith, c.requires.room i c.loop-i-test.true, c.loop-i.auto.counts)) c.loop-i.auto.counts (ap one_of on) refl c.loop-i.invariant))
      | else-mark w ↦
          (let off : get_or c.args.marks.now i false ≡ false = w.if-mark.false in
          subst P (sym w.counts-is) (counts_skip to amount i old new (ap one_of off) c.loop-i.invariant))
    ]
