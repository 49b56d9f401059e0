-- The words behind the name of a command.
use Rattle.std.specs.Prelude.{◌≡◌, ℕ, ◌≤◌, List}
use Rattle.lerc_header.specs.declared.header.Version.{Version}
use Rattle.lerc_cli.specs.declared.words.Command.{Command}
use Rattle.lerc_cli.specs.declared.words.Command.TheVariants.{Encode, Build, Put, Get, GetRaw, Sample}
use Rattle.command_words.specs.Words.{AreSlotWords, IsVersionWord, IsWithin}

-- the command is `encode` of these two words
abbrev pub IsEncode : List ℕ → List ℕ → Command → Type 0
IsEncode v e c = (version : Version) × ((error : ℕ) × ((c ≡ Encode version error)
    × IsVersionWord v version × IsWithin e error 0 4294967295))

-- the command is `get` of these two words
abbrev pub IsGet : List ℕ → List ℕ → Command → Type 0
IsGet row col c = (slot : ℕ) × ((c ≡ Get slot) × AreSlotWords row col slot)

-- the same of the tile's bytes
abbrev pub IsGetRaw : List ℕ → List ℕ → Command → Type 0
IsGetRaw row col c = (slot : ℕ) × ((c ≡ GetRaw slot) × AreSlotWords row col slot)

-- the command is `sample` of these two words
abbrev pub IsSample : List ℕ → List ℕ → Command → Type 0
IsSample s n c = (start count : ℕ) × ((c ≡ Sample start count)
    × IsWithin s start 0 4294967295 × IsWithin n count 0 4096)

-- The command is made of the version, the error and the number of workers that these three words
-- stand for.
abbrev pub IsOfTiles : (Version → ℕ → ℕ → Command) → List ℕ → List ℕ → List ℕ → Command → Type 0
IsOfTiles make v e w c = (version : Version) × ((error workers : ℕ)
    × ((c ≡ make version error workers) × IsVersionWord v version
    × IsWithin e error 0 4294967295 × IsWithin w workers 1 64))

-- the command is `build` of these three words
abbrev pub IsBuild : List ℕ → List ℕ → List ℕ → Command → Type 0
IsBuild v e w c = IsOfTiles Build v e w c

-- the command is `put` of these three words
abbrev pub IsPut : List ℕ → List ℕ → List ℕ → Command → Type 0
IsPut v e w c = IsOfTiles Put v e w c

-- the number of workers of a command that has one is from 1 to 64, and a sample has at most 4,096
-- tiles
abbrev pub IsLawful : Command → Type 0
IsLawful (Build version error workers) = (1 ≤ workers) × (workers ≤ 64)
IsLawful (Put version error workers) = (1 ≤ workers) × (workers ≤ 64)
IsLawful (Sample start count) = count ≤ 4096
IsLawful c = Unit {0}
