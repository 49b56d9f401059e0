use Rattle.std.proofs.Common.{ℕ, ◌+◌, ◌*◌, ◌<◌, ◌≤◌, suc, arith}
use Rattle.std.proofs.Math.Nat.{mul-le-mul_right}
use Rattle.raster_values.proofs.rasters.raster.offset.Goals as goal

-- all values of a pixel within the shape are there
there : (rows cols depth row col : ℕ) → row < rows → col < cols
    → suc (row * cols + col) * depth ≤ rows * cols * depth
there rows cols depth row col high wide =
    let up : suc row * cols ≤ rows * cols = mul-le-mul_right cols high in
    mul-le-mul_right depth (omega (arith, up, wide))

pub overflow_mul-result-2 : goal.overflow_mul-result-2
overflow_mul-result-2 c =
    let up =
    there c.args.rows c.args.cols c.args.depth c.args.row c.args.col c.requires.row c.requires.col
    in
    omega (arith, up, c.requires.size)

pub overflow_add-result-2 : goal.overflow_add-result-2
overflow_add-result-2 c =
    let up =
    there c.args.rows c.args.cols c.args.depth c.args.row c.args.col c.requires.row c.requires.col
    in
    omega (arith, up, c.requires.size, c.requires.d)

pub returns-clause-below : goal.returns-clause-below
returns-clause-below c =
    let up =
    there c.args.rows c.args.cols c.args.depth c.args.row c.args.col c.requires.row c.requires.col
    in
    omega (arith, up, c.requires.d)
