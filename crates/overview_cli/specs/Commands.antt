-- The words that spell the command.
use Rattle.std.specs.Prelude.{◌≡◌, ℕ, List, [], ◌∷◌, codes}
use Rattle.command_words.specs.Words.{IsVersionWord, IsWithin}
use Rattle.overview_cli.specs.declared.words.Command.{Command}

-- the words of a quarter, a version, an error and a number of workers
abbrev pub AreSpelled : Command → List ℕ → List ℕ → List ℕ → List ℕ → Type 0
AreSpelled c quarter version error workers = IsWithin quarter c.quarter 0 3
    × IsVersionWord version c.version × IsWithin error c.error 0 4294967295
    × IsWithin workers c.workers 1 64

-- the words are `overview` and four that spell the command
unfoldable pub IsSpelled : Command → List (List ℕ) → Type 0
IsSpelled c words = (quarter version error workers : List ℕ)
    × ((words ≡ codes "overview" ∷ quarter ∷ version ∷ error ∷ workers ∷ [])
    × AreSpelled c quarter version error workers)

-- the words spell no command
abbrev pub IsNoCommand : List (List ℕ) → Type 0
IsNoCommand words = (c : Command) → ¬ IsSpelled c words
