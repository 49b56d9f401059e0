-- The lines of a row of slots.
use Rattle.std.specs.Prelude.{ℕ, zero, suc, ◌+◌, ◌*◌, List, [], ◌++◌}
use Rattle.bundle_index.specs.Entry.{entry_at}
use Rattle.bundle_lines.specs.Lines.{list_line}

-- the lines of the first slots of a row of the bundle
unfoldable pub row_lines : List ℕ → ℕ → ℕ → List ℕ
row_lines bundle row zero = []
row_lines bundle row (suc col) = row_lines bundle row col ++ list_line (128 * row + col)
    (entry_at bundle (128 * row + col))
