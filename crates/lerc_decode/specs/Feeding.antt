-- What a decoder takes of a source.
use Rattle.std.specs.Prelude.{◌≡◌, ℕ, List, ◌++◌, Option, None, Some, IfSome}
use Rattle.lerc_decode.specs.Decoding.{Stage, NoMemory}

-- What the source still had behind the bytes taken, and what it has now behind those: they are one
-- list of bytes. None is a source that does not tell its bytes.
abbrev pub Joins : Option (List ℕ) → Option (List ℕ) → List ℕ → List ℕ → Type 0
Joins None new old_taken new_taken = new ≡ None
Joins (Some left) new old_taken new_taken = (rest : List ℕ)
    × ((new ≡ Some rest) × (old_taken ++ left ≡ new_taken ++ rest))

-- the bytes taken come first in what the source had behind those taken before
abbrev pub Begins : Option (List ℕ) → List ℕ → List ℕ → Type 0
Begins left old_taken new_taken =
    IfSome left (λ bytes. (rest : List ℕ) × (old_taken ++ bytes ≡ new_taken ++ rest))

-- where memory was refused no more is said
abbrev pub Follows : Stage → Type 0 → Type 0
Follows NoMemory joins = Unit {0}
Follows _ joins = joins
