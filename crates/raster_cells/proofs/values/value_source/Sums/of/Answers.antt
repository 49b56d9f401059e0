use Rattle.std.proofs.Common.{◌≡◌, ◌+ℤ◌, ◌≤ℤ◌, pos, replicate, length, map, sym, ap, subst, ◌∙◌, arith}
use Rattle.std.proofs.lemmas.Int.{ints, to_z-of_z}
use Rattle.std.specs.Prelude.{All}
use Rattle.std.specs.Int.{int_min}
use mir.Syntax.{w64}
use mir.Val.{to_z, of_z}
use Rattle.lane_kernels.specs.Kernels.{capped_sums}
use Rattle.lane_kernels.specs.Within.{sums_within}
use Rattle.lane_kernels.proofs.Within.{within_is_capped, caps_all}
use Rattle.raster_cells.specs.PixelType.{InRange}
use Rattle.raster_cells.proofs.ValueBits.{same_bits}
use Rattle.raster_cells.proofs.GivenSums.{near_each_other, sums_fit, sums_flat}
use Rattle.raster_cells.proofs.values.value_source.Sums.of.Goals as goal

pub gap_between-gap-requires-clause-near : goal.gap_between-gap-requires-clause-near
gap_between-gap-requires-clause-near c =
    near_each_other c.args.kind _ _ (subst (InRange c.args.kind) (sym (same_bits c.args.kind c.args.offset c.requires.offset)) c.requires.offset) (subst (InRange c.args.kind) (sym (same_bits c.args.kind c.args.top c.requires.top)) c.requires.top)

pub returns-then-offset-top-clause-listed : goal.returns-then-offset-top-clause-listed
returns-then-offset-top-clause-listed c =
    let qs = c.args.numbers.now in
    let first = same_bits c.args.kind c.args.offset c.requires.offset in
    let last = same_bits c.args.kind c.args.top c.requires.top in
    let past : c.args.top ≤ℤ c.args.offset = subst (λ z. z ≤ℤ c.args.offset) last (subst (λ z. to_z w64 (of_z w64 c.args.top) ≤ℤ z) first (let e : to_z w64 (of_z w64 c.args.top) ≤ℤ to_z w64 (of_z w64 c.args.offset) = omega (arith, ints) in e)) in
    sums_flat qs (to_z w64 (of_z w64 c.args.top)) 1 ∙ ap (replicate (length qs)) last ∙ sym (caps_all qs c.args.offset c.args.step c.args.top past (omega (arith, ints, c.requires.step.0)))

pub returns-then-offset-top-clause-in_range : goal.returns-then-offset-top-clause-in_range
returns-then-offset-top-clause-in_range c =
    let kind = c.args.kind in
    subst (λ o. All (InRange kind) (sums_within c.args.numbers.now o 1 0)) (sym (same_bits kind c.args.top c.requires.top))
    (sums_fit kind c.args.numbers.now c.args.top 1 0 c.requires.top (subst (InRange kind) (let e : c.args.top ≡ c.args.top +ℤ pos 0 = omega (arith, ints) in e) c.requires.top))

pub returns-clause-listed : goal.returns-clause-listed
returns-clause-listed c =
    let qs = c.args.numbers.now in
    let gap = c.gap_between-gap.result in
    let first = same_bits c.args.kind c.args.offset c.requires.offset in
    let last = same_bits c.args.kind c.args.top c.requires.top in
    let top : c.args.top ≡ c.args.offset +ℤ pos gap = sym last ∙ c.gap_between-gap.ensures.above ∙ ap (λ z. z +ℤ pos gap) first in
    ap (λ o. sums_within qs o c.step_within-step.result gap) first
    ∙ within_is_capped qs c.args.offset c.args.step c.step_within-step.result gap (omega (arith, ints, c.requires.step.0)) (c.step_within-step.ensures ∙ ap (λ t. int_min t (pos gap)) (to_z-of_z w64 c.args.step c.ranges.step))
    ∙ ap (capped_sums (map pos qs) c.args.offset c.args.step) (sym top)

pub returns-clause-in_range : goal.returns-clause-in_range
returns-clause-in_range c =
    let kind = c.args.kind in
    let gap = c.gap_between-gap.result in
    let first = same_bits kind c.args.offset c.requires.offset in
    let last = same_bits kind c.args.top c.requires.top in
    let top : c.args.top ≡ c.args.offset +ℤ pos gap = sym last ∙ c.gap_between-gap.ensures.above ∙ ap (λ z. z +ℤ pos gap) first in
    subst (λ o. All (InRange kind) (sums_within c.args.numbers.now o c.step_within-step.result gap)) (sym first)
    (sums_fit kind c.args.numbers.now c.args.offset c.step_within-step.result gap c.requires.offset (subst (InRange kind) top c.requires.top))
