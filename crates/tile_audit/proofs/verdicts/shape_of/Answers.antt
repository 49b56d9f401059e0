use Rattle.std.proofs.Common.{ℕ, ◌*◌, ◌≤◌, sym, subst}
use Rattle.tile_audit.proofs.Shapes.{few_of}
use Rattle.tile_audit.proofs.verdicts.shape_of.Goals as goal

pub invariant_of-result : goal.invariant_of-result
invariant_of-result c =
    let rows = sym c.rows.ensures.value in
    let cols = sym c.cols.ensures.value in
    let count = sym c.len-count.ensures.value in
    record { few = subst (λ (n : ℕ). n ≤ 16777216) (λ i. rows i * cols i * count i) (few_of c.args.bands.now c.at-first.result.now c.len-count.ensures.sound c.at-first.ensures) }
