-- Marks as bytes, one for each.
use Rattle.std.specs.Prelude.{ℕ, Bool, List, map, if◌then◌else◌}

-- one byte for each mark
abbrev pub mark_bytes : List Bool → List ℕ
mark_bytes marks = map (λ m. if m then 1 else 0) marks
