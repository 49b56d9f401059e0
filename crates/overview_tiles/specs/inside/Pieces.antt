-- A piece of a row whose values are added to sums.
use Rattle.std.specs.Prelude.{ℕ, ℤ, pos, ◌+◌, ◌*◌, ◌<◌, ◌≤◌, ◌^◌, List, length, get_or}
use Rattle.overview_tiles.specs.declared.values.Piece.{Piece}
use Rattle.overview_tiles.specs.inside.Comes.{IsWithin, in_row, piece_amount}

-- The piece is among the values, its sums are there, and nothing is further from 0 than a sum can
-- be, of which a value is at most `reach` from 0.
pub record CanAdd (reach : ℕ) (p : Piece) (values sums : List ℤ) : Type 0 where
  pub size : length values ≤ 16777216
  pub low : p.base < 2 ^ 32
  pub left : p.col < 2 ^ 32
  pub few : p.count ≤ 256
  pub depth : p.d < p.depth
  pub depths : p.depth ≤ 65536
  pub there : (p.first + p.count) * p.depth ≤ length values
  pub room : (i : ℕ) → i < p.count → in_row p.base p.col i * p.depth + p.d < length sums
  pub small : (i : ℕ) → i < p.count
      → IsWithin reach (piece_amount p.first p.depth p.d values i)
  pub within : (t : ℕ) → t * p.depth + p.d < length sums
      → IsWithin (1024 * reach) (get_or sums (t * p.depth + p.d) (pos 0))
