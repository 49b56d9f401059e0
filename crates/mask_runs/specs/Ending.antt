-- A mask with another last byte.
use Rattle.std.specs.Prelude.{ℕ, ◌-◌, List, length, slice_set}

-- the mask with its last byte replaced; of no bytes none
abbrev pub ending_with : List ℕ → ℕ → List ℕ
ending_with mask last = slice_set mask (length mask - 1) last
