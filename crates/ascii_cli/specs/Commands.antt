-- The words that spell each command.
use Rattle.std.specs.Prelude.{◌≡◌, ℕ, List, [], ◌∷◌, codes}
use Rattle.command_words.specs.Words.{type_name}
use Rattle.ascii_cli.specs.declared.words.Command.{Command}
use Rattle.ascii_cli.specs.declared.words.Command.TheVariants.{Split, Join}

-- the words, each a list of bytes, spell the command
abbrev pub IsSpelled : Command → List (List ℕ) → Type 0
IsSpelled (Split kind) words = words ≡ codes "split" ∷ type_name kind ∷ []
IsSpelled Join words = words ≡ codes "join" ∷ []

-- the words spell no command
abbrev pub IsNoCommand : List (List ℕ) → Type 0
IsNoCommand words = (c : Command) → ¬ IsSpelled c words
