use Rattle.std.proofs.Common.{ℤ, ◌+ℤ◌, ◌*ℤ◌, map, take, sym, subst, ◌∙◌}
use Rattle.std.specs.Prelude.{All}
use Rattle.std.specs.Int.{int_min}
use Rattle.std.proofs.lemmas.Int.{to_z-of_z}
use Rattle.std.proofs.lemmas.List.Elements.{recursion_from_All, All-from_recursion, All-take}
use mir.Syntax.{w64}
use mir.Val.{SFits}
use Rattle.lane_kernels.specs.Kernels.{IsQuantised}
use Rattle.lane_kernels.proofs.Caps.{reread}
use Rattle.lane_kernels.proofs.EightSums.{AreCapped, next_lanes, products_fit, sums_fit, sums_capped}
use Rattle.lane_kernels.proofs.Folds.{again_lanes, same_lanes}
use Rattle.lane_kernels.proofs.capped.eight_sums.Goals as goal

pub at_most-steps-requires : goal.at_most-steps-requires
at_most-steps-requires c = record { lanes = again_lanes c.eight_of.result c.eight_of.ensures.lanes }

pub times-requires-clause-lanes : goal.times-requires-clause-lanes
times-requires-clause-lanes c = again_lanes c.at_most-steps.result c.at_most-steps.ensures.lanes

pub times-requires-clause-fit : goal.times-requires-clause-fit
times-requires-clause-fit c =
    let are : AreCapped c.args.enough c.args.offset c.args.step c.args.top =
    record { offset_small = c.requires.small_offset; step_size = c.requires.step; positive = c.requires.positive; over = c.requires.past; product = c.requires.product } in
    let part = take 8 c.args.qs.now in
    let eight = same_lanes c.eight_of.result c.eight_of.ensures.lanes ∙ c.eight_of.ensures.same in
    let steps = next_lanes int_min c.args.enough _ part c.at_most-steps.result c.ranges.enough c.at_most-steps.ensures.lanes c.at_most-steps.ensures.values eight in
    let each = recursion_from_All IsQuantised part (All-take IsQuantised 8 c.args.qs.now c.requires.quantised) in
    let lanes = map (λ q. int_min q c.args.enough) part in
    let fit = All-from_recursion (λ v. SFits w64 (v *ℤ c.args.step)) lanes (products_fit c.args.enough c.args.offset c.args.step c.args.top are part each) in
    subst (All (λ v. SFits w64 (v *ℤ reread c.args.step))) (sym steps) (subst (λ (z : ℤ). All (λ v. SFits w64 (v *ℤ z)) lanes) (sym (to_z-of_z w64 c.args.step c.ranges.step)) fit)

pub plus-sums-requires-clause-lanes : goal.plus-sums-requires-clause-lanes
plus-sums-requires-clause-lanes c = again_lanes c.times.result c.times.ensures.lanes

pub plus-sums-requires-clause-fit : goal.plus-sums-requires-clause-fit
plus-sums-requires-clause-fit c =
    let are : AreCapped c.args.enough c.args.offset c.args.step c.args.top =
    record { offset_small = c.requires.small_offset; step_size = c.requires.step; positive = c.requires.positive; over = c.requires.past; product = c.requires.product } in
    let part = take 8 c.args.qs.now in
    let eight = same_lanes c.eight_of.result c.eight_of.ensures.lanes ∙ c.eight_of.ensures.same in
    let steps = next_lanes int_min c.args.enough _ part c.at_most-steps.result c.ranges.enough c.at_most-steps.ensures.lanes c.at_most-steps.ensures.values eight in
    let each = recursion_from_All IsQuantised part (All-take IsQuantised 8 c.args.qs.now c.requires.quantised) in
    let products = next_lanes (λ v y. v *ℤ y) c.args.step _ (map (λ q. int_min q c.args.enough) part) c.times.result c.ranges.step c.times.ensures.lanes c.times.ensures.values steps in
    let lanes = map (λ v. v *ℤ c.args.step) (map (λ q. int_min q c.args.enough) part) in
    let fit = All-from_recursion (λ v. SFits w64 (v +ℤ c.args.offset)) lanes (sums_fit c.args.enough c.args.offset c.args.step c.args.top are part each) in
    subst (All (λ v. SFits w64 (v +ℤ reread c.args.offset))) (sym products) (subst (λ (z : ℤ). All (λ v. SFits w64 (v +ℤ z)) lanes) (sym (to_z-of_z w64 c.args.offset c.ranges.offset)) fit)

pub at_most-requires : goal.at_most-requires
at_most-requires c = record { lanes = again_lanes c.plus-sums.result c.plus-sums.ensures.lanes }

pub returns-clause-values : goal.returns-clause-values
returns-clause-values c =
    let are : AreCapped c.args.enough c.args.offset c.args.step c.args.top =
    record { offset_small = c.requires.small_offset; step_size = c.requires.step; positive = c.requires.positive; over = c.requires.past; product = c.requires.product } in
    let part = take 8 c.args.qs.now in
    let eight = same_lanes c.eight_of.result c.eight_of.ensures.lanes ∙ c.eight_of.ensures.same in
    let steps = next_lanes int_min c.args.enough _ part c.at_most-steps.result c.ranges.enough c.at_most-steps.ensures.lanes c.at_most-steps.ensures.values eight in
    let products = next_lanes (λ v y. v *ℤ y) c.args.step _ (map (λ q. int_min q c.args.enough) part) c.times.result c.ranges.step c.times.ensures.lanes c.times.ensures.values steps in
    let sums = next_lanes (λ v y. v +ℤ y) c.args.offset _ (map (λ v. v *ℤ c.args.step) (map (λ q. int_min q c.args.enough) part)) c.plus-sums.result c.ranges.offset c.plus-sums.ensures.lanes c.plus-sums.ensures.values products in
    next_lanes int_min c.args.top _ (map (λ v. v +ℤ c.args.offset) (map (λ v. v *ℤ c.args.step) (map (λ q. int_min q c.args.enough) part))) c.at_most.result c.ranges.top c.at_most.ensures.lanes c.at_most.ensures.values sums
    ∙ sums_capped c.args.enough c.args.offset c.args.step c.args.top are part

pub returns-clause-lanes : goal.returns-clause-lanes
returns-clause-lanes c = again_lanes c.at_most.result c.at_most.ensures.lanes
