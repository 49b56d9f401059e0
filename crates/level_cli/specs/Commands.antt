-- The words that spell each command.
use Rattle.std.specs.Prelude.{◌≡◌, ℕ, List, [], ◌∷◌, codes}
use Rattle.command_words.specs.Words.{IsVersionWord, IsWithin}
use Rattle.level_cache.specs.Places.{Corner}
use Rattle.level_cli.specs.declared.words.Command.{Command}
use Rattle.level_cli.specs.declared.words.Command.TheVariants.{Put, Get, Name}

-- two words are the row and the column of the place, each below 2 ^ 31
abbrev pub ArePlaceWords : List ℕ → List ℕ → Corner → Type 0
ArePlaceWords row col place =
    IsWithin row place.row 0 2147483647 × IsWithin col place.col 0 2147483647

-- the words, each a list of bytes, spell the command
abbrev pub IsSpelled : Command → List (List ℕ) → Type 0
IsSpelled (Put version error place) words = (v e row col : List ℕ)
    × ((words ≡ codes "put" ∷ v ∷ e ∷ row ∷ col ∷ []) × IsVersionWord v version
    × IsWithin e error 0 4294967295 × ArePlaceWords row col place)
IsSpelled (Get place) words = (row col : List ℕ)
    × ((words ≡ codes "get" ∷ row ∷ col ∷ codes "raw" ∷ []) × ArePlaceWords row col place)
IsSpelled (Name place) words = (row col : List ℕ)
    × ((words ≡ codes "name" ∷ row ∷ col ∷ []) × ArePlaceWords row col place)

-- the words spell no command
abbrev pub IsNoCommand : List (List ℕ) → Type 0
IsNoCommand words = (c : Command) → ¬ IsSpelled c words
