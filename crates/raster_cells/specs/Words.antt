-- Marks of pixels as the bits of numbers.
use Rattle.std.specs.Prelude.{ℕ, ◌-◌, ◌/◌, ◌%◌, ◌^◌, Bool, nat_eq, ◌≡◌, ◌+◌, ◌<◌, false, List, get_or}

-- bit number q of a number of so many bits, counted from the highest
abbrev pub word_bit : ℕ → ℕ → ℕ → Bool
word_bit count word q = nat_eq (word / 2 ^ (count - 1 - q) % 2) 1

-- the number has so many bits, which are the marks of as many pixels from `from` on, the first the
-- highest
pub record AreMarks (marks : List Bool) (from count word : ℕ) : Type 0 where
  pub below : word < 2 ^ count
  pub bits : (q : ℕ) → q < count → word_bit count word q ≡ get_or marks (from + q) false
