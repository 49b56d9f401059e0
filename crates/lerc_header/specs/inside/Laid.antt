-- Bytes that were laid over a part of a list.
use Rattle.std.specs.Prelude.{◌≡◌, ℕ, ◌+◌, ◌≤◌, List, ◌++◌, length, take, drop}

-- `bytes` stand from one place to another, behind what stood in front of them; what stood behind
-- them stands there still
pub record AreLaid (old : List ℕ) (from to : ℕ) (bytes new : List ℕ) : Type 0 where
  pub size : from + length bytes ≡ to
  pub front : take to new ≡ take from old ++ bytes
  pub rest : (k : ℕ) → to ≤ k → drop k new ≡ drop k old
