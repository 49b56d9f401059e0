-- The words that spell each command.
use Rattle.std.specs.Prelude.{◌≡◌, ℕ, List, [], ◌∷◌, codes}
use Rattle.tiles_cli.specs.declared.words.Command.{Command}
use Rattle.tiles_cli.specs.declared.words.Command.TheVariants.{Export, Listed, Import}

abbrev pub words_for : Command → List (List ℕ)
words_for Export = codes "export" ∷ []
words_for Listed = codes "export" ∷ codes "listed" ∷ []
words_for Import = codes "import" ∷ []

unfoldable pub IsSpelled : Command → List (List ℕ) → Type 0
IsSpelled c words = words ≡ words_for c

-- the words spell no command
abbrev pub IsNoCommand : List (List ℕ) → Type 0
IsNoCommand words = (c : Command) → ¬ IsSpelled c words
