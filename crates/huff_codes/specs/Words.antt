-- Code words: the codes of symbols joined, in as few words as hold them, and one further word.
use Rattle.std.specs.Prelude.{ℕ, ◌≡◌, ◌+◌, ◌*◌, ◌/◌, ◌<◌, Bool, List, [], ◌∷◌, ◌++◌}
use Rattle.std.specs.Prelude.{length, All}
use Rattle.first_fault.specs.Faults.{Faults, wrong}
use Rattle.huff_codes.specs.Bits.{word_bits, BeginsWith}
use Rattle.huff_codes.specs.Codes.{code_at, HasCode}
use Rattle.huff_codes.specs.declared.faults.CodeReason.{CodeReason}
use Rattle.huff_codes.specs.declared.faults.CodeReason.TheVariants.{Cut, NoCode}

-- the codes of the symbols, joined
unfoldable pub joined_codes : List (List Bool) → List ℕ → List Bool
joined_codes codes [] = []
joined_codes codes (s ∷ symbols) = code_at codes s ++ joined_codes codes symbols

-- the least number of words that hold so many bits
abbrev pub word_count : ℕ → ℕ
word_count bits = (bits + 31) / 32

-- the bytes are the words of n symbols, and a further word, which is not looked at
pub record AreWords (codes : List (List Bool)) (n : ℕ) (bytes : List ℕ) (symbols : List ℕ) :
    Type 0 where
  pub count : length symbols ≡ n
  pub coded : All (HasCode codes) symbols
  pub begin : BeginsWith (word_bits bytes) (joined_codes codes symbols)
  pub size : length bytes ≡ 4 * word_count (length (joined_codes codes symbols)) + 4

-- the codes of these symbols stand in front, and these bits are left in whole words
pub record ArePassed (codes : List (List Bool)) (bytes : List ℕ) (symbols : List ℕ)
    (left : List Bool) : Type 0 where
  pub coded : All (HasCode codes) symbols
  pub bits : word_bits bytes ≡ joined_codes codes symbols ++ left

-- no code stands in front of these bits
abbrev pub IsStuck : List (List Bool) → List Bool → Type 0
IsStuck codes left = (s : ℕ) → HasCode codes s → BeginsWith left (code_at codes s) → ⊥

-- some code begins with all of these bits
abbrev pub IsBegun : List (List Bool) → List Bool → Type 0
IsBegun codes left = (s : ℕ) × (HasCode codes s × BeginsWith (code_at codes s) left)

-- the first byte of the first word that does not lie whole in the bytes
abbrev pub whole_end : List ℕ → ℕ
whole_end bytes = 4 * (length bytes / 4)

-- What is wrong first with words of n symbols: some symbols stand, and what should follow them does
-- not.
pub data WordFault (codes : List (List Bool)) (n : ℕ) (bytes : List ℕ) (place : ℕ)
    (reason : CodeReason) : Type 0 where
  -- the words end within a code
  code_cut : (symbols : List ℕ) (left : List Bool) → ArePassed codes bytes symbols left
      → length symbols < n → IsStuck codes left → IsBegun codes left
      → wrong Cut (whole_end bytes) place reason → WordFault codes n bytes place reason
  -- what is left begins no code, which is told at the word in which it begins
  no_code : (symbols : List ℕ) (left : List Bool) → ArePassed codes bytes symbols left
      → length symbols < n → IsStuck codes left → ¬ IsBegun codes left
      → wrong NoCode (4 * (length (joined_codes codes symbols) / 32)) place reason
      → WordFault codes n bytes place reason
  -- all symbols stand, but the further word does not lie whole in the bytes
  further_cut : (symbols : List ℕ) (left : List Bool) → ArePassed codes bytes symbols left
      → length symbols ≡ n
      → length bytes < 4 * word_count (length (joined_codes codes symbols)) + 4
      → wrong Cut (whole_end bytes) place reason → WordFault codes n bytes place reason

abbrev pub word_faults : List (List Bool) → ℕ → List ℕ → Faults CodeReason
word_faults codes n bytes place reason = WordFault codes n bytes place reason
