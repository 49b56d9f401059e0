use Rattle.std.proofs.Common.{◌≡◌, map, refl, subst, arith}
use Rattle.raster_cells.specs.Distance.{distance_of}
use Rattle.raster_values.specs.inside.Runs.{run_values, Gathers}
use Rattle.raster_values.proofs.GatheredRuns.{gathered_more, gathered_within, none_gathered}
use Rattle.raster_values.proofs.blocks.gathering.gather_run.Goals as goal

pub loop-k-init : goal.loop-k-init
loop-k-init c = record {
  within = omega arith;
  gathered = none_gathered (distance_of c.args.plane.now.samples.now.kind) c.args.plane.now.depth c.args.plane.now.d c.args.plane.now.marks.now c.args.plane.now.samples.now.values c.args.from 0 c.args.out.now c.args.at refl;
}

pub gather_word-n-requires-clause-some : goal.gather_word-n-requires-clause-some
gather_word-n-requires-clause-some c = omega (arith, c.min-more.ensures, c.loop-k-test.true)

pub gather_word-n-requires-clause-word : goal.gather_word-n-requires-clause-word
gather_word-n-requires-clause-word c = omega (arith, c.min-more.ensures)

pub gather_word-n-requires-clause-within : goal.gather_word-n-requires-clause-within
gather_word-n-requires-clause-within c = omega (arith, c.min-more.ensures, c.loop-k-test.true, c.requires.within)

pub gather_word-n-requires-clause-room : goal.gather_word-n-requires-clause-room
gather_word-n-requires-clause-room c =
    let most = gathered_within (distance_of c.args.plane.now.samples.now.kind) c.args.plane.now.depth c.args.plane.now.d c.args.plane.now.marks.now c.args.plane.now.samples.now.values c.args.out.now c.loop-k.out c.args.from c.loop-k.k c.args.at c.loop-k.n c.loop-k.invariant.gathered in
    omega (arith, most, c.min-more.ensures, c.loop-k-test.true, c.requires.room, c.loop-k.auto.out)

pub loop-k-preserved : goal.loop-k-preserved
loop-k-preserved c = record {
  within = omega (arith, c.min-more.ensures, c.loop-k-test.true);
  gathered = gathered_more (distance_of c.args.plane.now.samples.now.kind) c.args.plane.now.depth c.args.plane.now.d c.args.plane.now.marks.now c.args.plane.now.samples.now.values c.args.out.now c.loop-k.out c.gather_word-n.new.out c.args.from c.loop-k.k c.min-more.result c.args.at c.loop-k.n c.gather_word-n.result
      c.loop-k.invariant.gathered c.gather_word-n.ensures;
}

pub returns : goal.returns
returns c =
    let whole : c.loop-k.k ≡ c.args.count = omega (arith, c.loop-k.invariant.within, c.loop-k-test.false) in
    subst (λ n. Gathers (map (distance_of c.args.plane.now.samples.now.kind) (run_values c.args.plane.now.depth c.args.plane.now.d c.args.plane.now.marks.now c.args.plane.now.samples.now.values c.args.from n)) c.args.out.now c.loop-k.out c.args.at c.loop-k.n) whole c.loop-k.invariant.gathered
