-- A run of values set to 0.
use Rattle.std.specs.Prelude.{ℕ, ℤ, pos, ◌+◌, List, ◌++◌, take, drop, replicate}

abbrev pub cleared : List ℤ → ℕ → ℕ → List ℤ
cleared values at count = take at values ++ (replicate count (pos 0) ++ drop (at + count) values)
