-- The words that spell the command.
use Rattle.std.specs.Prelude.{◌≡◌, ℕ, Bool, if◌then◌else◌, List, [], ◌∷◌, ◌++◌, codes}
use Rattle.command_words.specs.Words.{IsWithin}
use Rattle.audit_cli.specs.declared.command.Command.{Command}

-- a word, where it is said
abbrev pub word_where : Bool → List ℕ → List (List ℕ)
word_where said word = if said then word ∷ [] else []

-- the words of the options: `all`, and behind it `strict`
abbrev pub option_words : Bool → Bool → List (List ℕ)
option_words all strict = word_where all (codes "all") ++ word_where strict (codes "strict")

-- the words are `audit`, a number of workers, and the options
unfoldable pub IsSpelled : Command → List (List ℕ) → Type 0
IsSpelled c words = (workers : List ℕ)
    × ((words ≡ codes "audit" ∷ (workers ∷ option_words c.all c.strict))
    × IsWithin workers c.workers 1 64)

-- the words spell no command
abbrev pub IsNoCommand : List (List ℕ) → Type 0
IsNoCommand words = (c : Command) → ¬ IsSpelled c words

-- a word is the number of workers of the command, which has these options
pub record AreAsked (c : Command) (workers : List ℕ) (all strict : Bool) : Type 0 where
  pub workers_are : IsWithin workers c.workers 1 64
  pub all_is : c.all ≡ all
  pub strict_is : c.strict ≡ strict

-- and another one is its name
pub record IsNamed (c : Command) (name workers : List ℕ) (all strict : Bool) : Type 0 where
  pub name_is : name ≡ codes "audit"
  pub asked : AreAsked c workers all strict
