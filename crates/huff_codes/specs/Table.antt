-- A code table: four numbers, a list of code lengths, and the codes joined in words.
use Rattle.std.specs.Prelude.{ℕ, ◌≡◌, ◌≢◌, ◌+◌, ◌*◌, ◌%◌, ◌<◌, ◌≤◌, ◌⊎◌, Bool, List, []}
use Rattle.std.specs.Prelude.{length, map, take, drop, slice_index, sum, All, SomeIndex}
use Rattle.std.specs.Prelude.{ℤ, pos, ◌+ℤ◌, ◌<ℤ◌, ◌≤ℤ◌}
use Rattle.std.specs.List.{range_with_len}
use Rattle.byteorder.specs.Endian.{little_number, twos_complement}
use Rattle.first_fault.specs.Faults.{Faults, none, wrong, unless, in_order}
use Rattle.first_fault.specs.Parts.{InFront}
use Rattle.bit_stuff.specs.declared.heads.ListReason.{ListReason}
use Rattle.lut_stuff.specs.Lists.{IsListOf}
use Rattle.lut_stuff.specs.Faults.{list_faults}
use Rattle.huff_codes.specs.Bits.{word_bits, BeginsWith}
use Rattle.huff_codes.specs.Codes.{code_at, IsPrefixFree}
use Rattle.huff_codes.specs.Words.{joined_codes, word_count, AreWords, word_faults}
use Rattle.huff_codes.specs.Turns.{InTurn}
use Rattle.huff_codes.specs.declared.tables.table.SymbolRange.{SymbolRange}
use Rattle.huff_codes.specs.declared.faults.CodeReason.{CodeReason}
use Rattle.huff_codes.specs.declared.faults.CodeReason.TheVariants.{Cut, BadTable, List as InList}

-- ---- the four numbers

-- the signed number of four bytes at a place, lowest byte first, in two's complement
unfoldable pub int_at : List ℕ → ℕ → ℤ
int_at bytes place = twos_complement 4 (little_number 4 (drop place bytes))

-- the 16 bytes are a version of at least 2, the size 256, the first symbol, which is 0 to 255, and
-- the one behind the last, which is 1 to 256 further on
pub record IsRange (bytes : List ℕ) (range : SymbolRange) : Type 0 where
  pub size : length bytes ≡ 16
  pub version : pos 2 ≤ℤ int_at bytes 0
  pub symbols : int_at bytes 4 ≡ pos 256
  pub from : int_at bytes 8 ≡ pos range.first
  pub first_below : range.first < 256
  pub to : int_at bytes 12 ≡ pos (range.first + range.count)
  pub some : 0 < range.count
  pub most : range.count ≤ 256

-- the first symbol is 0 to 255
abbrev pub IsFirst : List ℕ → Type 0
IsFirst rest = (pos 0 ≤ℤ int_at rest 8) × (int_at rest 8 <ℤ pos 256)

-- the number behind the last symbol is 1 to 256 further on
abbrev pub IsEnd : List ℕ → Type 0
IsEnd rest =
    (int_at rest 8 <ℤ int_at rest 12) × (int_at rest 12 ≤ℤ (int_at rest 8 +ℤ pos 256))

-- the number at a place is there and passes its test, and later tests are passed
abbrev pub number_faults : ℕ → Type 0 → List ℕ → Faults CodeReason → Faults CodeReason
number_faults place test rest later =
    unless (place + 4 ≤ length rest) (wrong Cut place) (unless test (wrong BadTable place) later)

abbrev pub end_faults : List ℕ → Faults CodeReason
end_faults rest = number_faults 12 (IsEnd rest) rest none

abbrev pub first_faults : List ℕ → Faults CodeReason
first_faults rest = number_faults 8 (IsFirst rest) rest (end_faults rest)

abbrev pub symbols_faults : List ℕ → Faults CodeReason
symbols_faults rest = number_faults 4 (int_at rest 4 ≡ pos 256) rest (first_faults rest)

-- what is wrong with the four numbers, each tested before the next is looked at
abbrev pub range_faults : List ℕ → Faults CodeReason
range_faults rest = number_faults 0 (pos 2 ≤ℤ int_at rest 0) rest (symbols_faults rest)

-- ---- the list of lengths

-- no length is above 32, and one is above 0
pub record HaveLengths (lengths : List ℕ) : Type 0 where
  pub low : All (λ l. l ≤ 32) lengths
  pub some : SomeIndex lengths (λ k. 0 < slice_index lengths k)

-- the bytes are a list of n lengths that serve
abbrev pub IsLengthList : ℕ → List ℕ → List ℕ → Type 0
IsLengthList n bytes lengths = IsListOf n bytes lengths × HaveLengths lengths

-- a fault of the list itself, by its own reason
abbrev pub as_list_faults : Faults ListReason → Faults CodeReason
as_list_faults faults place reason = (r : ListReason) × (faults place r × (reason ≡ InList r))

-- the list of lengths is wrong itself; or it stands, and its numbers do not serve
abbrev pub length_faults : ℕ → List ℕ → Faults CodeReason
length_faults n rest place reason =
    as_list_faults (list_faults n rest) place reason
    ⊎ ((list : InFront (IsListOf n) rest)
    × (¬ HaveLengths list.value × wrong BadTable 0 place reason))

-- ---- the words of the codes

-- the k-th symbol of a range; symbols are counted modulo 256
abbrev pub symbol_in : ℕ → ℕ → ℕ
symbol_in first k = (first + k) % 256

-- the symbols of a range, in order
abbrev pub symbols_in : ℕ → ℕ → List ℕ
symbols_in first count = map (symbol_in first) (range_with_len 0 count)

-- the least number of bytes of whole words that hold the codes of these lengths
abbrev pub words_size : List ℕ → ℕ
words_size lengths = 4 * word_count (sum lengths)

-- The bytes are the fewest words that hold the joined codes of the symbols of the range, and begin
-- with them. The codes have the lengths of the list, and no other symbol has one.
pub record HoldCodes (first : ℕ) (lengths bytes : List ℕ) (codes : List (List Bool)) : Type 0 where
  pub symbols : length codes ≡ 256
  pub inside : (k : ℕ) → k < length lengths
      → length (code_at codes (symbol_in first k)) ≡ slice_index lengths k
  pub outside : (s : ℕ) → ((k : ℕ) → k < length lengths → symbol_in first k ≢ s)
      → code_at codes s ≡ []
  pub begin : BeginsWith (word_bits bytes)
      (joined_codes codes (symbols_in first (length lengths)))
  pub size : length bytes ≡ words_size lengths

-- and no code is the front of another's
abbrev pub AreCodeWords : ℕ → List ℕ → List ℕ → List (List Bool) → Type 0
AreCodeWords first lengths bytes codes = HoldCodes first lengths bytes codes × IsPrefixFree codes

-- one of the codes in the words is the front of another's
abbrev pub prefix_faults : ℕ → List ℕ → List ℕ → Faults CodeReason
prefix_faults first lengths rest place reason =
    (codes : List (List Bool)) × (HoldCodes first lengths (take (words_size lengths) rest) codes
    × (¬ IsPrefixFree codes × wrong BadTable 0 place reason))

abbrev pub code_faults : ℕ → List ℕ → List ℕ → Faults CodeReason
code_faults first lengths rest =
    unless (words_size lengths ≤ length rest) (wrong Cut 0) (prefix_faults first lengths rest)

-- ---- the table

-- lengths and codes of a range
abbrev pub AreRangeCodes : SymbolRange → List ℕ → List (List Bool) → Type 0
AreRangeCodes range = InTurn (IsLengthList range.count) (AreCodeWords range.first)

abbrev pub range_code_faults : SymbolRange → List ℕ → Faults CodeReason
range_code_faults range =
    in_order (IsLengthList range.count) (length_faults range.count) (code_faults range.first)

-- the bytes are a table of these codes
abbrev pub IsTable : List ℕ → List (List Bool) → Type 0
IsTable = InTurn IsRange AreRangeCodes

-- the first fault of a table, and its place from the table's first byte
abbrev pub table_faults : List ℕ → Faults CodeReason
table_faults = in_order IsRange range_faults range_code_faults

-- ---- a table and the words of n symbols behind it

abbrev pub IsCoding : ℕ → List ℕ → List ℕ → Type 0
IsCoding n = InTurn IsTable (λ codes. AreWords codes n)

abbrev pub coding_faults : ℕ → List ℕ → Faults CodeReason
coding_faults n = in_order IsTable table_faults (λ codes. word_faults codes n)
