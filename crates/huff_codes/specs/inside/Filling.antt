-- Writing bits word by word.
use Rattle.std.specs.Prelude.{ℕ, ◌≡◌, ◌-◌, ◌*◌, ◌%◌, ◌^◌, ◌<◌, ◌≤◌, Bool, false, List, ◌++◌, length, take}
use Rattle.std.specs.Prelude.{replicate}
use Rattle.huff_codes.specs.Bits.{bits_of, word_bits}
use Rattle.huff_codes.specs.declared.words.word_pairs.CodeNumber.{CodeNumber}

-- The bits are those of the words in front of a place, and `count` more, fewer than a word has,
-- which a number holds.
pub record IsPending (bits : List Bool) (out : List ℕ) (held count at : ℕ) : Type 0 where
  pub words : ℕ
  pub whole : at ≡ 4 * words
  pub within : at ≤ length out
  pub few : count < 32
  pub low : held < 2 ^ count
  pub same : bits ≡ word_bits (take at out) ++ bits_of count held

-- the same of the lowest `count` bits of a number, above which there may be others
abbrev pub IsLoose : List Bool → List ℕ → ℕ → ℕ → ℕ → Type 0
IsLoose bits out held count at = IsPending bits out (held % 2 ^ count) count at

-- a number has the bits of a code, as many as its length says
pub record IsNumbered (bits : List Bool) (c : CodeNumber) : Type 0 where
  pub low : c.length ≤ 32
  pub small : c.number < 2 ^ c.length
  pub same : bits_of c.length c.number ≡ bits

abbrev pub no_number : CodeNumber
no_number = record { number = 0; length = 0 }

-- the words in front of a place have these bits, and zeros behind them
pub record IsFlushed (bits : List Bool) (out : List ℕ) (at : ℕ) : Type 0 where
  pub words : ℕ
  pub whole : at ≡ 4 * words
  pub within : at ≤ length out
  pub holds : length bits ≤ 8 * at
  pub same : word_bits (take at out) ≡ bits ++ replicate (8 * at - length bits) false
