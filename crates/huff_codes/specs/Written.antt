-- Words as they are written: the joined codes, and then zeros.
use Rattle.std.specs.Prelude.{ℕ, ◌≡◌, ◌+◌, ◌-◌, ◌*◌, ◌<◌, ◌≤◌, Bool, false, List, ◌++◌, length}
use Rattle.std.specs.Prelude.{replicate, map, slice_index}
use Rattle.std.specs.List.{range_with_len}
use Rattle.byteorder.specs.Endian.{little_bytes}
use Rattle.bit_stuff.specs.Simple.{simple_bytes}
use Rattle.huff_codes.specs.Codes.{canonical_codes}
use Rattle.huff_codes.specs.Table.{symbol_in, symbols_in, words_size}
use Rattle.huff_codes.specs.declared.tables.table.SymbolRange.{SymbolRange}
use Rattle.huff_codes.specs.Bits.{word_bits}
use Rattle.huff_codes.specs.Words.{joined_codes, word_count}

-- n words with these bits in front, filled up with zeros
pub record IsFilled (n : ℕ) (bits : List Bool) (bytes : List ℕ) : Type 0 where
  pub size : length bytes ≡ 4 * n
  pub same : word_bits bytes ≡ bits ++ replicate (32 * n - length bits) false

-- the words of the symbols and the further word, which is 0 as all spare bits are
abbrev pub AreWritten : List (List Bool) → List ℕ → List ℕ → Type 0
AreWritten codes symbols bytes =
    IsFilled (word_count (length (joined_codes codes symbols)) + 1)
    (joined_codes codes symbols) bytes

-- the words of a table, in which no further word follows
abbrev pub AreTableWords : List (List Bool) → List ℕ → List ℕ → Type 0
AreTableWords codes symbols bytes =
    IsFilled (word_count (length (joined_codes codes symbols))) (joined_codes codes symbols) bytes

-- how many bytes the words of the symbols take, the further word among them
abbrev pub written_size : List (List Bool) → List ℕ → ℕ
written_size codes symbols = 4 * word_count (length (joined_codes codes symbols)) + 4

-- ---- tables

-- every symbol that has a length is one of so many from the first on, counted modulo 256
abbrev pub HoldsUsed : List ℕ → ℕ → ℕ → Type 0
HoldsUsed lengths first count = (s : ℕ) → s < 256 → 0 < slice_index lengths s
    → (k : ℕ) × ((k < count) × (symbol_in first k ≡ s))

-- the shortest range of symbols that holds all which have a length, and of several the one with the
-- least first symbol
pub record IsShortestRun (lengths : List ℕ) (range : SymbolRange) : Type 0 where
  pub first_below : range.first < 256
  pub holds : HoldsUsed lengths range.first range.count
  pub shortest : (first count : ℕ) → first < 256 → HoldsUsed lengths first count
      → range.count ≤ count
  pub least : (first : ℕ) → first < 256 → HoldsUsed lengths first range.count
      → range.first ≤ first

-- the lengths of the symbols of a range
abbrev pub run_lengths : List ℕ → SymbolRange → List ℕ
run_lengths lengths range =
    map (λ k. slice_index lengths (symbol_in range.first k)) (range_with_len 0 range.count)

-- the four numbers in front: version 4, 256 symbols, the first one of the range, and the one behind
-- it
abbrev pub table_head : SymbolRange → List ℕ
table_head range = little_bytes 4 4 ++ (little_bytes 4 256
    ++ (little_bytes 4 range.first ++ little_bytes 4 (range.first + range.count)))

-- the bytes are the chosen table of the lengths: the numbers of the shortest range, its lengths as
-- a simple list, and the words of its symbols' codes
pub record IsWrittenTable (lengths bytes : List ℕ) : Type 0 where
  pub range : SymbolRange
  pub words : List ℕ
  pub run : IsShortestRun lengths range
  pub joined : bytes ≡ table_head range ++ (simple_bytes (run_lengths lengths range) ++ words)
  pub filled : AreTableWords (canonical_codes lengths) (symbols_in range.first range.count) words

-- how many bytes the chosen table takes
abbrev pub IsTableSize : List ℕ → ℕ → Type 0
IsTableSize lengths size = (range : SymbolRange) → IsShortestRun lengths range
    → size ≡ 16 + (length (simple_bytes (run_lengths lengths range))
    + words_size (run_lengths lengths range))
