-- The words behind the name of a command.
use Rattle.std.specs.Prelude.{◌≡◌, ℕ, List}
use Rattle.lerc_header.specs.declared.header.Version.{Version}
use Rattle.command_words.specs.Words.{IsVersionWord, IsWithin}
use Rattle.level_cache.specs.Places.{Corner}
use Rattle.level_cli.specs.declared.words.Command.{Command}
use Rattle.level_cli.specs.declared.words.Command.TheVariants.{Put, Get, Name}
use Rattle.level_cli.specs.Commands.{ArePlaceWords}

-- the command is `put` of these four words
abbrev pub IsPut : List ℕ → List ℕ → List ℕ → List ℕ → Command → Type 0
IsPut v e row col c = (version : Version) × ((error : ℕ) × ((place : Corner)
    × ((c ≡ Put version error place) × IsVersionWord v version
    × IsWithin e error 0 4294967295 × ArePlaceWords row col place)))

-- the command is `get` of these two words
abbrev pub IsGet : List ℕ → List ℕ → Command → Type 0
IsGet row col c = (place : Corner) × ((c ≡ Get place) × ArePlaceWords row col place)

-- the command is `name` of these two words
abbrev pub IsName : List ℕ → List ℕ → Command → Type 0
IsName row col c = (place : Corner) × ((c ≡ Name place) × ArePlaceWords row col place)
