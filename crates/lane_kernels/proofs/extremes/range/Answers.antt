use Rattle.std.proofs.Common.{◌≡◌, ◌*◌, ◌/◌, length, take, ap, ◌∙◌, sym, subst, rules, to_z, of_z}
use Rattle.std.specs.Prelude.{fold}
use Rattle.std.specs.Int.{int_min, int_max, w64}
use Rattle.std.proofs.lemmas.Int.{to_z-of_z}
use Rattle.lane_kernels.specs.Kernels.{IsLeast, IsGreatest}
use Rattle.lane_kernels.proofs.Bounds.{range-unique}
use Rattle.lane_kernels.proofs.Folds.{parts_joined, least_of_list, greatest_of_list}
use Rattle.lane_kernels.proofs.extremes.range.Goals as goal

pub returns-clause-found : goal.returns-clause-found
returns-clause-found c =
    let values = c.args.values.now in
    let first = c.in_ok-first.field-0.now in
    let ends = c.ends_of_eights-least in
    let whole = length values / 8 * 8 in
    let is_first : to_z w64 (of_z w64 first) ≡ first = to_z-of_z w64 first (search rules) in
    let low : to_z w64 (of_z w64 ends.result.0) ≡ fold int_min first (take whole values) =
    to_z-of_z w64 ends.result.0 (search rules) ∙ ends.ensures.least ∙ ap (λ v. fold int_min v c.split_at.result.0.now) is_first ∙ ap (fold int_min first) c.split_at.ensures.front in
    let high : to_z w64 (of_z w64 ends.result.1) ≡ fold int_max first (take whole values) =
    to_z-of_z w64 ends.result.1 (search rules) ∙ ends.ensures.greatest ∙ ap (λ v. fold int_max v c.split_at.result.0.now) is_first ∙ ap (fold int_max first) c.split_at.ensures.front in
    let least : to_z w64 (of_z w64 c.least_from.result) ≡ fold int_min first values =
    to_z-of_z w64 c.least_from.result (search rules) ∙ c.least_from.ensures ∙ ap (λ v. fold int_min v c.split_at.result.1.now) low
    ∙ ap (fold int_min (fold int_min first (take whole values))) c.split_at.ensures.back ∙ parts_joined int_min first values whole in
    let greatest : to_z w64 (of_z w64 c.greatest_from.result) ≡ fold int_max first values =
    to_z-of_z w64 c.greatest_from.result (search rules) ∙ c.greatest_from.ensures ∙ ap (λ v. fold int_max v c.split_at.result.1.now) high
    ∙ ap (fold int_max (fold int_max first (take whole values))) c.split_at.ensures.back ∙ parts_joined int_max first values whole in
    let low_is : IsLeast values (to_z w64 (of_z w64 c.least_from.result)) = subst (IsLeast values) (sym least) (least_of_list first values (search rules) (search rules)) in
    let high_is : IsGreatest values (to_z w64 (of_z w64 c.greatest_from.result)) = subst (IsGreatest values) (sym greatest) (greatest_of_list first values (search rules) (search rules)) in
    λ l g. range-unique values _ _ l g (low_is, high_is)
