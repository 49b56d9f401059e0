-- What was taken from a source.
use Rattle.std.specs.Prelude.{◌≡◌, ℕ, List, ◌++◌, Option, None, Some}

-- these bytes, the first of those left, were taken. The first two arguments are the bytes left
-- before and after, None for a source that does not tell them.
abbrev pub TookBytes : Option (List ℕ) → Option (List ℕ) → List ℕ → Type 0
TookBytes None new bytes = new ≡ None
TookBytes (Some left) new bytes = (rest : List ℕ) × ((left ≡ bytes ++ rest) × (new ≡ Some rest))

-- some first bytes were taken
abbrev pub TookSome : Option (List ℕ) → Option (List ℕ) → Type 0
TookSome old new = (bytes : List ℕ) × TookBytes old new bytes
