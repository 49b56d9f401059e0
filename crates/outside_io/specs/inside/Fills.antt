-- A byte over written ranges, as pieces of a file.
use Rattle.std.specs.Prelude.{ℕ, List, [], ◌∷◌, ◌++◌, replicate}

-- the byte b over each of the ranges, the last one first
abbrev pub fills : ℕ → List (ℕ × ℕ) → List (ℕ × List ℕ)
fills b [] = []
fills b (r ∷ rs) = fills b rs ++ (r.0, replicate r.1 b) ∷ []
