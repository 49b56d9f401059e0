-- Values of the marked pixels in the flat vector.
use Rattle.std.specs.Prelude.{◌≡◌, ℕ, ℤ, pos, ◌+◌, ◌*◌, ◌<◌, ◌≤◌, List, get_or, length}

-- at depth d each of n pixels from `first` on has one of these values, and no other value was
-- changed
pub record PutsPixels (depth d first n : ℕ) (input old new : List ℤ) : Type 0 where
  pub put : (i : ℕ) → i < n → get_or new ((first + i) * depth + d) (pos 0) ≡ get_or input i (pos 0)
  pub rest : (k e : ℕ) → e < depth → (first ≤ k → k < first + n → e ≡ d → ⊥)
      → get_or new (k * depth + e) (pos 0) ≡ get_or old (k * depth + e) (pos 0)

-- each of n pixels from `first` on has this list of values, and no other value was changed
pub record FillsPixels (first n : ℕ) (pixel old new : List ℤ) : Type 0 where
  pub each : (k d : ℕ) → first ≤ k → k < first + n → d < length pixel
      → get_or new (k * length pixel + d) (pos 0) ≡ get_or pixel d (pos 0)
  pub rest : (k d : ℕ) → d < length pixel → (first ≤ k → k < first + n → ⊥)
      → get_or new (k * length pixel + d) (pos 0) ≡ get_or old (k * length pixel + d) (pos 0)
