-- The words that ask for packing.
use Rattle.std.specs.Prelude.{◌≡◌, ℕ, ◌≤◌, List, [], ◌∷◌, codes}

-- the one word `pack`, beside 1 to 8 sources
pub record IsAsked (words : List (List ℕ)) (sources : ℕ) : Type 0 where
  pub word : words ≡ codes "pack" ∷ []
  pub some : 1 ≤ sources
  pub few : sources ≤ 8
