use Rattle.std.proofs.Common.{◌-◌, ◌/◌, ◌%◌, ◌^◌, arith}
use Rattle.raster_cells.specs.Distance.{distance_of}
use Rattle.raster_values.proofs.MixedRuns.{mixed_more}
use Rattle.raster_cells.proofs.MarkWords.{word_mark}
use Rattle.raster_values.proofs.RunSteps.{length_places}
use Rattle.raster_values.proofs.blocks.gathering.gather_mixed.Goals as goal

pub bounds-out-n : goal.bounds-out-n
bounds-out-n c =
    let few = length_places c.args.plane.now.marks.now c.args.from c.loop-i.i in
    omega (arith, few, c.loop-i.invariant.end, c.loop-i-test.true, c.requires.room, c.loop-i.auto.out)

pub loop-i-preserved : goal.loop-i-preserved
loop-i-preserved c =
    let few = length_places c.args.plane.now.marks.now c.args.from c.loop-i.i in
    mixed_more (distance_of c.args.plane.now.samples.now.kind) c.args.plane.now.depth c.args.plane.now.d c.args.plane.now.marks.now c.args.plane.now.samples.now.values c.args.from c.loop-i.i c.args.out.now c.loop-i.out c.args.at c.loop-i.n c.distance_as.result (c.word-bits.result / 2 ^ (c.args.count - 1 - c.loop-i.i) % 2)
    (omega (arith, few, c.loop-i.invariant.end, c.loop-i-test.true, c.requires.room, c.loop-i.auto.out)) c.distance_as.ensures
    (word_mark c.args.plane.now.marks.now c.args.from c.args.count c.word-bits.result c.loop-i.i c.word-bits.ensures c.loop-i-test.true) c.loop-i.invariant
