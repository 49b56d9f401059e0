use Rattle.std.proofs.Common.{◌%◌, ◌*◌, ◌+◌, ◌^◌, ℕ, List, map, sym, subst, take}
use Rattle.std.proofs.lemmas.List.{take_all}
use lib.Bits.{bit_or}
use Rattle.micro_block.specs.inside.Remainders.{AreAdded}
use Rattle.micro_block.specs.inside.Stepping.{steps_above}
use Rattle.micro_block.proofs.Above.{least_at, rule_at}
use Rattle.micro_block.proofs.RemainderSets.{added_next}
use Rattle.micro_block.proofs.remainders.with_remainders.Goals as goal

pub steps_at-requires-clause-from : goal.steps_at-requires-clause-from
steps_at-requires-clause-from c = least_at c.args.step c.args.least c.loop-distance.distance-index c.args.rule c.args.distances.now c.requires c.loop-distance-test.true

pub steps_at-requires-clause-rule : goal.steps_at-requires-clause-rule
steps_at-requires-clause-rule c = rule_at c.args.step c.args.least c.loop-distance.distance-index c.args.rule c.args.distances.now c.requires c.loop-distance-test.true

pub loop-distance-preserved : goal.loop-distance-preserved
loop-distance-preserved c =
    let ds = c.args.distances.now in
    let i = c.loop-distance.distance-index in
    let with = c.loop-distance.with in
    subst (λ (q : ℕ). AreAdded c.args.bits (map (steps_above c.args.step c.args.least) (take (i + 1) ds)) (bit_or with (1 * 2 ^ (q % 64) % 18446744073709551616))) (sym c.steps_at.ensures)
    (added_next c.args.bits with (steps_above c.args.step c.args.least) ds i c.loop-distance-test.true c.loop-distance.invariant)

pub returns : goal.returns
returns c = subst (λ (front : List ℕ). AreAdded c.args.bits (map (steps_above c.args.step c.args.least) front) c.loop-distance.with) (take_all c.loop-distance.distance-index c.args.distances.now c.loop-distance-test.false) c.loop-distance.invariant
