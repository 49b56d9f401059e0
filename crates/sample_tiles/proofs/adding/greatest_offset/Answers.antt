use Rattle.std.proofs.Common.{◌≡◌, ◌+◌, ◌≤◌, ℕ, ap, ◌∙◌, arith, subst}
use Rattle.std.specs.Prelude.{get_or, pos, ◌-ℤ◌, unsigned_abs}
use Rattle.raster_values.specs.Flat.{value_in}
use Rattle.sample_tiles.specs.Sums.{off_by}
use Rattle.sample_tiles.proofs.adding.greatest_offset.Goals as goal

pub returns-clause-bound : goal.returns-clause-bound
returns-clause-bound c = λ k within.
    let zero_and : 0 + k ≡ k = omega arith in
    let one : get_or c.values_from.new.out k (pos 0) ≡ value_in c.args.tile.now 0 k = c.values_from.ensures.values k within ∙ ap (value_in c.args.tile.now 0) zero_and in
    let two : get_or c.values_from-2.new.out k (pos 0) ≡ value_in c.args.other.now 0 k = c.values_from-2.ensures.values k within ∙ ap (value_in c.args.other.now 0) zero_and in
    let same : unsigned_abs (get_or c.values_from.new.out k (pos 0) -ℤ get_or c.values_from-2.new.out k (pos 0)) ≡ off_by c.args.tile.now c.args.other.now k = λ i. unsigned_abs (one i -ℤ two i) in
    subst (λ (n : ℕ). n ≤ c.greatest_difference.result) same (c.greatest_difference.ensures.bound k (omega (arith, within, c.values_from.ensures.room)))
