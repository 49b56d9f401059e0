-- What holds of the definitions. It is the contract of a function in src/laws.rt.
use Rattle.std.specs.Prelude.{◌≡◌, ℕ}
use Rattle.sample_tiles.specs.Sums.{AreSums}
use Rattle.sample_tiles.specs.declared.adding.Sums.{Sums}

-- a sample comes to one thing
abbrev pub SumsAreOnce : Type 0
SumsAreOnce = (start count : ℕ) (s u : Sums) → AreSums start count s → AreSums start count u → s ≡ u
