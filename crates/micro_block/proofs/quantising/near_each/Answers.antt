use Rattle.std.proofs.Common.{pos, get_or, arith}
use Rattle.std.specs.Prelude.{unsigned_abs}
use Rattle.std.proofs.lemmas.Int.{ints, to_z-of_z}
use mir.Syntax.{w64}
use Rattle.micro_block.specs.inside.Products.{rounded_steps}
use Rattle.micro_block.proofs.InPlace.{changed_more, fits_up_to, item_up_to, near_value, rule_nearer, same_item}
use Rattle.micro_block.proofs.quantising.near_each.Goals as goal

pub overflow_cast-distances : goal.overflow_cast-distances
overflow_cast-distances c =
    let i = c.loop-i.i in
    let up = item_up_to c.args.reach c.args.distances.now c.loop-i.distances i c.requires.near c.loop-i-test.true c.loop-i.invariant.1 in
    let same = to_z-of_z w64 (get_or c.loop-i.distances i (pos 0)) (fits_up_to c.args.reach _ (omega arith) up.0 up.1) in
    (omega (arith, ints, same, up.0), omega (arith, ints, same, up.0, up.1, c.ranges.reach))

pub steps_at-requires-clause-rule : goal.steps_at-requires-clause-rule
steps_at-requires-clause-rule c =
    let i = c.loop-i.i in
    let up = item_up_to c.args.reach c.args.distances.now c.loop-i.distances i c.requires.near c.loop-i-test.true c.loop-i.invariant.1 in
    let same = to_z-of_z w64 (get_or c.loop-i.distances i (pos 0)) (fits_up_to c.args.reach _ (omega arith) up.0 up.1) in
    rule_nearer c.args.step c.args.reach _ c.rule_for-rule.result (omega (arith, ints, same, up.0, up.1)) c.rule_for-rule.ensures

pub loop-i-preserved : goal.loop-i-preserved
loop-i-preserved c =
    let i = c.loop-i.i in
    let before = c.args.distances.now in
    let now = c.loop-i.distances in
    let up = item_up_to c.args.reach before now i c.requires.near c.loop-i-test.true c.loop-i.invariant.1 in
    let value =
    near_value c.args.step c.steps_at.result c.from.result (get_or now i (pos 0)) (get_or before i (pos 0)) (fits_up_to c.args.reach _ (omega arith) up.0 up.1) c.from.ensures (omega arith) c.steps_at.ensures
    (same_item before now i (pos 0) c.loop-i.invariant.1) in
    changed_more (λ d. pos (rounded_steps c.args.step (unsigned_abs d))) before now i _ c.loop-i-test.true (omega arith) c.loop-i.invariant.0 c.loop-i.invariant.1 value
