use Rattle.std.proofs.Common.{ℕ, ◌+◌, ap, arith}
use Rattle.raster_cells.specs.Distance.{distance_of}
use Rattle.raster_values.proofs.GatheredRuns.{none_gathered}
use Rattle.raster_values.proofs.MixedRuns.{all_gathered}
use Rattle.raster_values.proofs.RunSteps.{length_places}
use Rattle.raster_values.proofs.blocks.gathering.gather_word.Goals as goal

pub overflow_add-end : goal.overflow_add-end
overflow_add-end c =
    let few = length_places c.args.plane.now.marks.now c.args.from c.args.count in
    omega (arith, few, (c.marks_of_word.ensures c.args.plane.now.marks.now c.args.from c.word.ensures), c.requires.room)

pub returns-then-end-at : goal.returns-then-end-at
returns-then-end-at c =
    none_gathered (distance_of c.args.plane.now.samples.now.kind) c.args.plane.now.depth c.args.plane.now.d c.args.plane.now.marks.now c.args.plane.now.samples.now.values c.args.from c.args.count c.args.out.now c.args.at
    (let none = c.if-end-at.true in omega (arith, none, c.marks_of_word.ensures c.args.plane.now.marks.now c.args.from c.word.ensures))

pub returns-then-end-at-2 : goal.returns-then-end-at-2
returns-then-end-at-2 c =
    let few = length_places c.args.plane.now.marks.now c.args.from c.args.count in
    all_gathered (distance_of c.args.plane.now.samples.now.kind) c.args.plane.now.depth c.args.plane.now.d c.args.plane.now.marks.now c.args.plane.now.samples.now.values c.args.from c.args.count c.args.out.now c.get_distances_as.new.out c.args.at (c.args.at + c.marks_of_word.result)
    (ap (λ (n : ℕ). c.args.at + n) (c.marks_of_word.ensures c.args.plane.now.marks.now c.args.from c.word.ensures)) (let full = c.if-end-at-2.true in omega (arith, full)) (omega (arith, few, (c.marks_of_word.ensures c.args.plane.now.marks.now c.args.from c.word.ensures), c.requires.room)) c.get_distances_as.ensures

pub offset_bounds-out-end : goal.offset_bounds-out-end
offset_bounds-out-end c =
    let few = length_places c.args.plane.now.marks.now c.args.from c.args.count in
    let other = c.if-end-at-2.false in
    omega (arith, few, other, (c.marks_of_word.ensures c.args.plane.now.marks.now c.args.from c.word.ensures), c.requires.room)

pub bounds-out-end : goal.bounds-out-end
bounds-out-end c =
    let few = length_places c.args.plane.now.marks.now c.args.from c.args.count in
    let other = c.if-end-at-2.false in
    omega (arith, few, other, (c.marks_of_word.ensures c.args.plane.now.marks.now c.args.from c.word.ensures), c.requires.room)

pub bounds-out-end-2 : goal.bounds-out-end-2
bounds-out-end-2 c =
    let few = length_places c.args.plane.now.marks.now c.args.from c.args.count in
    let other = c.if-end-at-2.false in
    omega (arith, few, other, (c.marks_of_word.ensures c.args.plane.now.marks.now c.args.from c.word.ensures), c.requires.room, c.gather_mixed.auto.out)
