use Rattle.std.proofs.Common.{◌≡◌, ℕ, List, length, map, take, sym, subst, ◌∙◌, ap, arith}
use Rattle.std.proofs.lemmas.Int.{ints, clamps}
use Rattle.std.proofs.lemmas.List.{take_all}
use Rattle.lane_kernels.specs.Kernels.{IsLeast, IsGreatest}
use Rattle.raster_cells.specs.Distance.{value_above}
use Rattle.raster_cells.specs.Runs.{AreEnds}
use Rattle.raster_cells.proofs.Distances.{sum_is}
use Rattle.raster_values.proofs.GatheredRanges.{ends_first, ends_next}
use Rattle.raster_values.proofs.blocks.ranging.ends_above.Goals as goal

pub loop-i-init : goal.loop-i-init
loop-i-init c = record {
  ends = ends_first c.args.kind c.args.distances.now c.requires;
  near = omega (arith, c.type_inv.distances 0);
  far = omega (arith, c.type_inv.distances 0);
}

pub loop-i-preserved : goal.loop-i-preserved
loop-i-preserved c = record {
  ends = ends_next c.args.kind c.args.distances.now c.loop-i.i c.loop-i.near c.loop-i.far c.min-near.result c.max-far.result c.loop-i-test.true c.min-near.ensures c.max-far.ensures c.loop-i.invariant.ends;
  near = omega (arith, clamps, c.min-near.ensures, c.loop-i.invariant.near);
  far = omega (arith, clamps, c.max-far.ensures, c.loop-i.invariant.far, c.type_inv.distances c.loop-i.i);
}

pub returns-clause-least : goal.returns-clause-least
returns-clause-least c =
    let kind = c.args.kind in
    let ds = c.args.distances.now in
    let i = c.loop-i.i in
    let all : take i ds ≡ ds = take_all i ds (omega arith) in
    let ends : AreEnds kind (map (value_above kind) ds) c.loop-i.near c.loop-i.far = subst (λ (l : List ℕ). AreEnds kind (map (value_above kind) l) c.loop-i.near c.loop-i.far) all c.loop-i.invariant.ends in
    subst (IsLeast (map (value_above kind) ds)) (sym (sum_is kind c.least-bottom.result c.from.result c.loop-i.near c.least-bottom.ensures (omega (arith, ints, c.from.ensures)) c.loop-i.invariant.near)) ends.least

pub returns-clause-greatest : goal.returns-clause-greatest
returns-clause-greatest c =
    let kind = c.args.kind in
    let ds = c.args.distances.now in
    let i = c.loop-i.i in
    let all : take i ds ≡ ds = take_all i ds (omega arith) in
    let ends : AreEnds kind (map (value_above kind) ds) c.loop-i.near c.loop-i.far = subst (λ (l : List ℕ). AreEnds kind (map (value_above kind) l) c.loop-i.near c.loop-i.far) all c.loop-i.invariant.ends in
    subst (IsGreatest (map (value_above kind) ds)) (sym (sum_is kind c.least-bottom.result c.from-2.result c.loop-i.far c.least-bottom.ensures (omega (arith, ints, c.from-2.ensures)) c.loop-i.invariant.far)) ends.greatest
