-- Eight lanes of numbers.
use Rattle.std.specs.Prelude.{◌≡◌, ℤ, List, length, All, FitsSigned}
use Rattle.std.specs.Int.{w64}

-- eight numbers of 64 bits
pub record AreLanes (lanes : List ℤ) : Type 0 where
  pub eight : length lanes ≡ 8
  pub fit : All (FitsSigned w64) lanes
