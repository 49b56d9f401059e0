-- Words that are written piece by piece.
use Rattle.std.specs.Prelude.{ℕ, ◌≡◌, ◌*◌, ◌≤◌, Bool, List, ◌++◌, length, take}
use Rattle.huff_codes.specs.Bits.{word_bits}
use Rattle.huff_codes.specs.Words.{joined_codes}
use Rattle.huff_codes.specs.Written.{written_size}

-- the codes, how many bytes of whole words are written, and the bits that wait for their word
pub record Writing : Type 0 where
  pub codes : List (List Bool)
  pub place : ℕ
  pub waiting : List Bool

-- the joined codes of these symbols are the bits of the words that are written, and then those that
-- wait
pub record AreBegun (w : Writing) (bytes symbols : List ℕ) : Type 0 where
  pub words : ℕ
  pub whole : w.place ≡ 4 * words
  pub within : w.place ≤ length bytes
  pub same : joined_codes w.codes symbols ≡ word_bits (take w.place bytes) ++ w.waiting

-- the words of what is written so far and of these symbols, and the further word, fit into the
-- bytes
abbrev pub HasRoom : Writing → List ℕ → List ℕ → Type 0
HasRoom w bytes symbols = (before : List ℕ)
    × (AreBegun w bytes before × (written_size w.codes (before ++ symbols) ≤ length bytes))
