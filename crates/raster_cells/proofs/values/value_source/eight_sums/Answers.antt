use Rattle.std.proofs.Common.{◌∙◌, ap, sym}
use Rattle.lane_kernels.specs.Within.{sums_within}
use Rattle.raster_cells.proofs.GivenSums.{of_type_bits}
use Rattle.raster_cells.proofs.values.value_source.eight_sums.Goals as goal

pub returns-then-sums-eq1 : goal.returns-then-sums-eq1
returns-then-sums-eq1 c =
    let s = c.args.sums.now in
    c.sums_together.ensures
    ∙ ap (λ o. sums_within c.args.numbers.now o 1 s.gap) (of_type_bits s.offset s.of_a_type)
    ∙ ap (λ n. sums_within c.args.numbers.now s.offset n s.gap) (sym c.if-sums-eq1.true)
