-- Sets of remainders modulo 64, as the bits of a number.
use Rattle.std.specs.Prelude.{◌≡◌, ℕ, ◌%◌, ◌<◌, ◌⊎◌, ◌↔◌, List, [], ◌∷◌}
use Rattle.std.specs.Int.{bit_at}

-- some number has this remainder
abbrev pub HasRemainder : List ℕ → ℕ → Type 0
HasRemainder [] k = ⊥
HasRemainder (q ∷ qs) k = (k ≡ q % 64) ⊎ HasRemainder qs k

-- a set with the remainders of these numbers beside what it had
abbrev pub AreAdded : ℕ → List ℕ → ℕ → Type 0
AreAdded bits qs more =
    (k : ℕ) → k < 64 → (bit_at more k ≡ 1) ↔ ((bit_at bits k ≡ 1) ⊎ HasRemainder qs k)
