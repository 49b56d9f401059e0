-- Rows and columns of a level, and the bundles that have them.
use Rattle.std.specs.Prelude.{ℕ, ◌+◌, ◌-◌, ◌*◌, ◌%◌, ◌==◌, ◌&&◌, Bool}

-- a row and a column
pub record Corner : Type 0 where
  pub row : ℕ
  pub col : ℕ

-- the first row and the first column of the bundle that has the place
abbrev pub base_of : Corner → Corner
base_of p = record { row = p.row - p.row % 128; col = p.col - p.col % 128 }

-- the number of its slot there
abbrev pub slot_of : Corner → ℕ
slot_of p = 128 * (p.row % 128) + p.col % 128

abbrev pub same_corner : Corner → Corner → Bool
same_corner a b = (a.row == b.row) && (a.col == b.col)
