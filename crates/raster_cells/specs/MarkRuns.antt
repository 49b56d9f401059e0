-- Runs of marked pixels.
use Rattle.std.specs.Prelude.{◌≡◌, ℕ, ◌<◌, ◌≤◌, Bool, true, false, List, length, get_or}

-- no pixel from `at` on is marked, then every one from `start` on, up to `end`
pub record AreRuns (marks : List Bool) (at start end : ℕ) : Type 0 where
  pub first : at ≤ start
  pub second : start ≤ end
  pub within : end ≤ length marks
  pub off : (k : ℕ) → at ≤ k → k < start → get_or marks k false ≡ false
  pub on : (k : ℕ) → start ≤ k → k < end → get_or marks k false ≡ true
