-- The step of values that may be changed: how far apart two values lie that can be told.
use Rattle.std.specs.Prelude.{◌≡◌, ◌≢◌, ℕ, ◌%◌, ◌<◌, ◌≤◌}

-- twice an error that values may have: 1 for the error 0.5, else an even number, for a whole error
-- from 1 to 2 ^ 32 - 1
pub record IsTwiceError (n : ℕ) : Type 0 where
  pub above : 0 < n
  pub below : n ≤ 8589934590
  pub even : n ≢ 1 → n % 2 ≡ 0
