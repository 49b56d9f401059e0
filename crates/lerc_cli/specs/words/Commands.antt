-- The words that spell each command, and which objects it uses. Each definition has one case for
-- each command.
use Rattle.std.specs.Prelude.{◌≡◌, ℕ, Bool, true, false, List, [], ◌∷◌, codes}
use Rattle.command_words.specs.Words.{AreSlotWords, IsVersionWord, IsWithin}
use Rattle.lerc_cli.specs.declared.words.Command.{Command}
use Rattle.lerc_cli.specs.declared.words.Command.TheVariants.{Encode, Decode, Info, Build, Put, Get, GetRaw, List as ListAll, Check, Recover, Sample}

-- the words, each a list of bytes, spell the command
abbrev pub IsSpelled : Command → List (List ℕ) → Type 0
IsSpelled (Encode version error) words = (v e : List ℕ)
    × ((words ≡ codes "encode" ∷ v ∷ e ∷ []) × IsVersionWord v version
    × IsWithin e error 0 4294967295)
IsSpelled Decode words = words ≡ codes "decode" ∷ []
IsSpelled Info words = words ≡ codes "info" ∷ []
IsSpelled (Build version error workers) words = (v e w : List ℕ)
    × ((words ≡ codes "build" ∷ v ∷ e ∷ w ∷ []) × IsVersionWord v version
    × IsWithin e error 0 4294967295 × IsWithin w workers 1 64)
IsSpelled (Put version error workers) words = (v e w : List ℕ)
    × ((words ≡ codes "put" ∷ v ∷ e ∷ w ∷ []) × IsVersionWord v version
    × IsWithin e error 0 4294967295 × IsWithin w workers 1 64)
IsSpelled (Get slot) words = (row col : List ℕ)
    × ((words ≡ codes "get" ∷ row ∷ col ∷ []) × AreSlotWords row col slot)
IsSpelled (GetRaw slot) words = (row col : List ℕ)
    × ((words ≡ codes "get" ∷ row ∷ col ∷ codes "raw" ∷ []) × AreSlotWords row col slot)
IsSpelled ListAll words = words ≡ codes "list" ∷ []
IsSpelled Check words = words ≡ codes "check" ∷ []
IsSpelled Recover words = words ≡ codes "recover" ∷ []
IsSpelled (Sample start count) words = (s n : List ℕ)
    × ((words ≡ codes "sample" ∷ s ∷ n ∷ []) × IsWithin s start 0 4294967295
    × IsWithin n count 0 4096)

-- the words spell no command
abbrev pub IsNoCommand : List (List ℕ) → Type 0
IsNoCommand words = (c : Command) → ¬ IsSpelled c words

-- words spell at most one command
abbrev pub SpellsOne : Type 0
SpellsOne = (c d : Command) (words : List (List ℕ)) → IsSpelled c words → IsSpelled d words → c ≡ d

-- it reads the source
abbrev pub reads_source : Command → Bool
reads_source (Encode version error) = true
reads_source Decode = true
reads_source Info = true
reads_source (Build version error workers) = true
reads_source (Put version error workers) = true
reads_source (Get slot) = false
reads_source (GetRaw slot) = false
reads_source ListAll = false
reads_source Check = false
reads_source Recover = false
reads_source (Sample start count) = false

-- it calls the volume
abbrev pub calls_volume : Command → Bool
calls_volume (Encode version error) = false
calls_volume Decode = false
calls_volume Info = false
calls_volume (Build version error workers) = true
calls_volume (Put version error workers) = true
calls_volume (Get slot) = true
calls_volume (GetRaw slot) = true
calls_volume ListAll = true
calls_volume Check = true
calls_volume Recover = true
calls_volume (Sample start count) = false

-- it makes updates, each of which gets a mark
abbrev pub makes_updates : Command → Bool
makes_updates (Encode version error) = false
makes_updates Decode = false
makes_updates Info = false
makes_updates (Build version error workers) = true
makes_updates (Put version error workers) = true
makes_updates (Get slot) = false
makes_updates (GetRaw slot) = false
makes_updates ListAll = false
makes_updates Check = false
makes_updates Recover = false
makes_updates (Sample start count) = false
