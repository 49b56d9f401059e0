use Rattle.std.proofs.Common.{◌++◌, ◌∷◌, [], ◌+◌, ◌<◌, ◌≤◌, ℕ, List, ap, get_or, length, take, arith}
use Rattle.std.proofs.lemmas.List.{length-take-le, take_more}
use Rattle.lut_stuff.specs.Tables.{distinct_above_0}
use Rattle.lut_stuff.specs.inside.Slots.{AreDistinct}
use Rattle.lut_stuff.proofs.Gathered.{distinct_start, distinct_taken, slots_none}
use Rattle.lut_stuff.proofs.hashing.gather_distinct.Goals as goal

many : (values found : List ℕ) (i count : ℕ) → i < length values → count ≤ length found → 254 < count → AreDistinct (take i values ++ get_or values i 0 ∷ []) (take count found) → 254 < distinct_above_0 values
many values found i count lt within more d =
    omega (arith, more, length-take-le count found within, d.count, ap distinct_above_0 (take_more values i 0 lt), distinct_taken values (i + 1))

pub loop-value-init : goal.loop-value-init
loop-value-init c = record {
  slots = slots_none;
  found = distinct_start;
  few = omega arith;
  low = omega arith;
}

pub returns-then-count-gt254-clause-count : goal.returns-then-count-gt254-clause-count
returns-then-count-gt254-clause-count c =
    let values = c.args.values.now in
    let i = c.loop-value.value-index in
    let count = c.gather_value-count.result in
    let within : count ≤ length c.gather_value-count.new.found = omega (arith, c.gather_value-count.ensures.within, c.loop-value.invariant.few, c.loop-value-test.true, c.requires, c.gather_value-count.auto.found, c.loop-value.auto.found) in
    let d = c.gather_value-count.ensures.found (take i values) c.loop-value.invariant.slots c.loop-value.invariant.found in
    omega (arith, many values c.gather_value-count.new.found i count c.loop-value-test.true within c.if-count-gt254.true d, c.gather_value-count.ensures.within, c.loop-value.invariant.low, c.if-count-gt254.true)

pub returns-then-count-gt254-clause-distinct : goal.returns-then-count-gt254-clause-distinct
returns-then-count-gt254-clause-distinct c = λ few.
    let values = c.args.values.now in
    let i = c.loop-value.value-index in
    let count = c.gather_value-count.result in
    let within : count ≤ length c.gather_value-count.new.found = omega (arith, c.gather_value-count.ensures.within, c.loop-value.invariant.few, c.loop-value-test.true, c.requires, c.gather_value-count.auto.found, c.loop-value.auto.found) in
    let d = c.gather_value-count.ensures.found (take i values) c.loop-value.invariant.slots c.loop-value.invariant.found in
    absurd (omega (arith, few, many values c.gather_value-count.new.found i count c.loop-value-test.true within c.if-count-gt254.true d))
