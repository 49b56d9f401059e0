use Rattle.std.proofs.Common.{◌≡◌, ◌++◌, length, ap, arith, length-append}
use Rattle.tile_stream.proofs.tile.Tile.size.Goals as goal

pub returns-clause-size : goal.returns-clause-size
returns-clause-size c = λ bytes is.
    let grid = c.bands_size.ensures.size is.grid is.grid_is in
    let all : length bytes ≡ length (is.head ++ is.grid) = ap length is.joined in
    omega (arith, grid, all, is.head_is.size, length-append is.head is.grid)
