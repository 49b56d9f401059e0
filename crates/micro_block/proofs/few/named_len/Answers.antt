use Rattle.std.proofs.Common.{◌≡◌, ◌-◌, ◌<◌, ◌^◌, length, map, sym, ap, ◌∙◌, arith}
use Rattle.std.proofs.lemmas.List.{length-map}
use Rattle.bit_stuff.specs.Simple.{binary_digits, greatest_number, width_of}
use Rattle.lut_stuff.specs.Tables.{distinct_above_0, table_size}
use Rattle.micro_block.specs.ChosenBlock.{quantised_values}
use Rattle.micro_block.specs.inside.Stepping.{steps_above, values_above}
use Rattle.micro_block.proofs.FarApart.{steps_distinct, table_short_by}
use Rattle.micro_block.proofs.SizeSteps.{exact_found}
use Rattle.micro_block.proofs.few.named_len.Goals as goal

pub overflow_sub-different : goal.overflow_sub-different
overflow_sub-different c =
    let one : c.args.step ≡ 1 = (let t = c.if-step-eq1.true in omega (arith, t)) in
    let far : 0 < c.args.spread.most = (let t = c.if-spread-ge-NEAR.true in omega (arith, t)) in
    let told = steps_distinct c.args.kind c.args.step c.args.distances.now c.args.spread one c.requires.in_range c.requires.spread far in
    omega (arith, told, c.in-Some.ensures.count)

pub known_len-requires-clause-width : goal.known_len-requires-clause-width
known_len-requires-clause-width c = let few = c.digit_count.ensures.least 30 (let low = c.if-spread.true in omega (arith, low)) in omega (arith, few)

pub returns-in-Some-clause-value : goal.returns-in-Some-clause-value
returns-in-Some-clause-value c =
    let kind = c.args.kind in
    let step = c.args.step in
    let ds = c.args.distances.now in
    let s = c.args.spread in
    let is = c.requires.spread in
    let one : step ≡ 1 = (let t = c.if-step-eq1.true in omega (arith, t)) in
    let far : 0 < s.most = (let t = c.if-spread-ge-NEAR.true in omega (arith, t)) in
    let low : s.most < 2 ^ 30 = (let t = c.if-spread.true in omega (arith, t)) in
    let told = steps_distinct kind step ds s one c.requires.in_range is far in
    let qs = map (steps_above step s.least) ds in
    let count : length qs ≡ length ds = length-map ds (steps_above step s.least) in
    let width : width_of qs ≡ c.digit_count.result = ap binary_digits (sym is.most) ∙ sym c.digit_count.ensures.value in
    let different : distinct_above_0 qs ≡ c.in-Some.different - 1 = omega (arith, told, c.in-Some.ensures.count) in
    let most : s.most ≡ greatest_number (quantised_values step (values_above kind ds)) = is.most ∙ ap greatest_number is.same in
    exact_found (values_above kind ds) step c.known_len.result (omega (arith, most, far)) (omega (arith, most, low)) (c.known_len.ensures.value qs count width different ∙ ap table_size is.same)

pub returns-in-Some-clause-short : goal.returns-in-Some-clause-short
returns-in-Some-clause-short c =
    let few = c.digit_count.ensures.least 30 (let low = c.if-spread.true in omega (arith, low)) in
    table_short_by (length c.args.distances.now) c.digit_count.result (c.in-Some.different - 1) c.known_len.result c.requires.count (omega (arith, few)) c.known_len.ensures.size
