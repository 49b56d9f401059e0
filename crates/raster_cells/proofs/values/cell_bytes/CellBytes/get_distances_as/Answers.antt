use Rattle.std.proofs.Common.{◌≡◌, ◌+◌, ◌*◌, ◌∙◌, ℕ, ap, arith}
use Rattle.raster_cells.proofs.values.cell_bytes.CellBytes.get_distances_as.Goals as goal

pub returns-then-out-eq8 : goal.returns-then-out-eq8
returns-then-out-eq8 c =
    let none : c.args.pixels.d ≡ 0 = omega (arith, c.args.pixels.below, c.if-pixels-eq1.true) in
    let place : (k : ℕ) → k * c.args.pixels.depth + c.args.pixels.d ≡ k =
    λ k. ap (λ n. k * n + c.args.pixels.d) c.if-pixels-eq1.true ∙ omega (arith, none) in
    simp (place, c.if-out-eq8.true) c.get_eight_as.ensures
