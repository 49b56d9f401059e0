use Rattle.std.proofs.Common.{pos, get_or, arith}
use Rattle.std.specs.Prelude.{unsigned_abs}
use Rattle.std.proofs.lemmas.Int.{ints, to_z-of_z}
use mir.Syntax.{w64}
use Rattle.micro_block.specs.inside.Products.{rounded_steps}
use Rattle.micro_block.proofs.InPlace.{changed_more, far_value, fits_up_to, item_up_to, same_item, steps_few}
use Rattle.micro_block.proofs.quantising.far_each.Goals as goal

pub overflow_cast-distances : goal.overflow_cast-distances
overflow_cast-distances c =
    let i = c.loop-i.i in
    let up = item_up_to 8589934592 c.args.distances.now c.loop-i.distances i c.requires.far c.loop-i-test.true c.loop-i.invariant.1 in
    let same = to_z-of_z w64 (get_or c.loop-i.distances i (pos 0)) (fits_up_to 8589934592 _ (omega arith) up.0 up.1) in
    (omega (arith, ints, same, up.0), omega (arith, ints, same, up.0, up.1))

pub round_steps-requires-clause-far : goal.round_steps-requires-clause-far
round_steps-requires-clause-far c =
    let i = c.loop-i.i in
    let up = item_up_to 8589934592 c.args.distances.now c.loop-i.distances i c.requires.far c.loop-i-test.true c.loop-i.invariant.1 in
    let same = to_z-of_z w64 (get_or c.loop-i.distances i (pos 0)) (fits_up_to 8589934592 _ (omega arith) up.0 up.1) in
    omega (arith, ints, same, up.0, up.1)

pub overflow_cast-distances-in-loop-i : goal.overflow_cast-distances-in-loop-i
overflow_cast-distances-in-loop-i c =
    let i = c.loop-i.i in
    let up = item_up_to 8589934592 c.args.distances.now c.loop-i.distances i c.requires.far c.loop-i-test.true c.loop-i.invariant.1 in
    let same = to_z-of_z w64 (get_or c.loop-i.distances i (pos 0)) (fits_up_to 8589934592 _ (omega arith) up.0 up.1) in
    let few = steps_few c.args.step _ c.round_steps.result (omega (arith, ints, same, up.0, up.1)) (omega (arith, c.requires.step)) c.round_steps.ensures in
    omega (arith, ints, few)

pub loop-i-preserved : goal.loop-i-preserved
loop-i-preserved c =
    let i = c.loop-i.i in
    let before = c.args.distances.now in
    let now = c.loop-i.distances in
    let up = item_up_to 8589934592 before now i c.requires.far c.loop-i-test.true c.loop-i.invariant.1 in
    let fits = fits_up_to 8589934592 (get_or now i (pos 0)) (omega arith) up.0 up.1 in
    let few = steps_few c.args.step _ c.round_steps.result (omega (arith, ints, to_z-of_z w64 (get_or now i (pos 0)) fits, up.0, up.1)) (omega (arith, c.requires.step)) c.round_steps.ensures in
    let value = far_value c.args.step c.round_steps.result (get_or now i (pos 0)) (get_or before i (pos 0)) fits few c.round_steps.ensures (same_item before now i (pos 0) c.loop-i.invariant.1) in
    changed_more (λ d. pos (rounded_steps c.args.step (unsigned_abs d))) before now i _ c.loop-i-test.true (omega arith) c.loop-i.invariant.0 c.loop-i.invariant.1 value
