use Rattle.std.proofs.Common.{◌≡◌, ◌∙◌, sym, get_or, set, arith}
use Rattle.std.specs.Prelude.{pos}
use Rattle.std.proofs.lemmas.List.{ext_get_or, length-set, get_or-set_same, get_or-set_other}
use Rattle.std.proofs.lemmas.Int.{ints, to_z-of_z}
use borrow.Author.Count.{below_more}
use mir.Syntax.{w64}
use mir.Val.{to_z, of_z}
use Rattle.lane_kernels.specs.Within.{sums_within}
use Rattle.raster_cells.proofs.GivenSums.{length-sums, sum_at}
use Rattle.raster_cells.proofs.values.value_source.sums_together.Goals as goal

pub returns : goal.returns
returns c =
    let qs = c.args.numbers.now in
    let s = c.args.sums.now in
    ext_get_or (pos 0) _ _ (c.loop-i.invariant.0 ∙ sym (length-sums qs s.offset s.step s.gap ∙ c.requires)) (λ i below.
    c.loop-i.invariant.1 i (omega (arith, c.loop-i.invariant.0)))

pub loop-i-preserved : goal.loop-i-preserved
loop-i-preserved c =
    let i = c.loop-i.i in
    let values = c.loop-i.values in
    let qs = c.args.numbers.now in
    let s = c.args.sums.now in
    let here = to_z w64 (of_z w64 c.sum_of.result) in
    let vs = sums_within qs s.offset s.step s.gap in
    let is : c.sum_of.result ≡ get_or vs i (pos 0) = c.sum_of.ensures ∙ sym (sum_at qs s.offset s.step s.gap i (omega (arith, c.requires, c.loop-i-test.true))) in
    let same : here ≡ get_or vs i (pos 0) = to_z-of_z w64 c.sum_of.result (omega (arith, ints, c.sum_of.ensures, s.of_a_type.0, s.of_a_type.1)) ∙ is in (
      length-set values i here ∙ c.loop-i.invariant.0,
      below_more (λ k. get_or (set values i here) k (pos 0) ≡ get_or vs k (pos 0)) i
          (λ k less. get_or-set_other values i k here (pos 0) (λ e. omega arith) ∙ c.loop-i.invariant.1 k less)
          (get_or-set_same values i here (pos 0) (omega (arith, c.loop-i.invariant.0)) ∙ same),
    )
