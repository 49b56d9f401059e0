-- Symbols without a length right before one that has one.
use Rattle.std.specs.Prelude.{ℕ, ◌≡◌, ◌+◌, ◌-◌, ◌%◌, ◌<◌, List, slice_index}

-- Going back from a symbol, modulo 256, so many have no length, and the one before these has one.
-- Where only the symbol itself has one, these are all others.
pub record IsGapBefore (lengths : List ℕ) (symbol gap : ℕ) : Type 0 where
  pub unused : (g : ℕ) → g < gap → slice_index lengths ((symbol + 255 - g) % 256) ≡ 0
  pub used : 0 < slice_index lengths ((symbol + 255 - gap) % 256)
