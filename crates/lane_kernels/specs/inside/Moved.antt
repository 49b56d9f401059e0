-- Sixteen lanes of bytes, moved and summed.
use Rattle.std.specs.Prelude.{ℕ, ◌≡◌, ◌+◌, ◌-◌, ◌%◌, ◌<◌, ◌≤◌, List, get_or, sum, take}

-- the lanes stand k places further up, and zeros below them
pub record IsMoved (k : ℕ) (lanes moved : List ℕ) : Type 0 where
  pub low : (i : ℕ) → i < k → i < 16 → get_or moved i 0 ≡ 0
  pub high : (i : ℕ) → k ≤ i → i < 16 → get_or moved i 0 ≡ get_or lanes (i - k) 0

-- each lane has the sum of the last k numbers up to it, or of all where these are fewer
abbrev pub AreWindows : List ℕ → ℕ → List ℕ → Type 0
AreWindows xs k lanes = (i : ℕ) → i < 16
    → get_or lanes i 0 ≡ (sum (take (i + 1) xs) - sum (take (i + 1 - k) xs)) % 256
