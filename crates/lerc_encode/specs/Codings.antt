-- Symbols as code words, in bytes: their counts and the lengths of their codes, the code table, and
-- the words.
-- What the bytes of a table and of words are is said by the relations of huff_codes: a law,
-- `codings_are_written`, says that those below are the ones in these relations, and no others are.
-- So nobody has to follow how they are made.
use Rattle.std.specs.Prelude.{ℕ, zero, suc, ◌+◌, ◌-◌, ◌*◌, ◌%◌, ◌^◌, Bool, false, ◌&&◌, nat_eq}
use Rattle.std.specs.Prelude.{nat_le, if◌then◌else◌, List, [], ◌∷◌, ◌++◌, length, slice_index, take}
use Rattle.std.specs.Prelude.{drop, replicate, map, unwrap_or, Some}
use Rattle.std.specs.List.{list_all, range_with_len}
use Rattle.byteorder.specs.Endian.{little_bytes}
use Rattle.bit_stuff.specs.Simple.{greatest_number, simple_bytes}
use Rattle.micro_block.specs.Fewest.{first_least}
use Rattle.huff_codes.specs.Tree.{lengths_of, used_count}
use Rattle.huff_codes.specs.Codes.{canonical_codes}
use Rattle.huff_codes.specs.Words.{joined_codes, word_count}
unfoldable pub use Rattle.huff_codes.specs.Counts.{counts_of}
use Rattle.huff_codes.specs.Table.{symbols_in}
use Rattle.huff_codes.specs.Written.{run_lengths, table_head}
use Rattle.huff_codes.specs.declared.tables.table.SymbolRange.{SymbolRange}

-- ---- words of bits

-- the number of these bits, the highest of them first
unfoldable pub bits_number : List Bool → ℕ
bits_number [] = 0
bits_number (bit ∷ bits) = (if bit then 1 else 0) * 2 ^ length bits + bits_number bits

-- the first 32 bits, filled up with zeros
abbrev pub word_in_front : List Bool → List Bool
word_in_front bits = take 32 (bits ++ replicate 32 false)

-- so many 32-bit little-endian words, with these bits in front, each word's highest bit first
unfoldable pub filled_words : ℕ → List Bool → List ℕ
filled_words zero bits = []
filled_words (suc n) bits =
    little_bytes 4 (bits_number (word_in_front bits)) ++ filled_words n (drop 32 bits)

-- ---- the code table

-- how many symbols from one on, counted modulo 256, end with the last that has a length
unfoldable pub reach_from : List ℕ → ℕ → ℕ
reach_from lengths first =
    greatest_number (map (λ s. if nat_eq (slice_index lengths s) 0 then 0
    else (s + (256 - first)) % 256 + 1) (range_with_len 0 256))

abbrev pub run_from : List ℕ → ℕ → SymbolRange
run_from lengths first = record { first = first; count = reach_from lengths first }

-- the shortest of these, and of several the one with the least first symbol
unfoldable pub shortest_run : List ℕ → SymbolRange
shortest_run lengths =
    unwrap_or (first_least (λ run. run.count)
    (map (λ first. Some (run_from lengths first)) (range_with_len 0 256))) (run_from lengths 0)

-- the codes of the symbols of that range, joined
abbrev pub table_codes : List ℕ → List Bool
table_codes lengths =
    joined_codes (canonical_codes lengths)
    (symbols_in (shortest_run lengths).first (shortest_run lengths).count)

-- the numbers in front, the lengths as a simple list, and the codes in words
unfoldable pub code_table_bytes : List ℕ → List ℕ
code_table_bytes lengths =
    table_head (shortest_run lengths)
    ++ (simple_bytes (run_lengths lengths (shortest_run lengths))
    ++ filled_words (word_count (length (table_codes lengths))) (table_codes lengths))

-- ---- symbols

-- the lengths of their codes
abbrev pub code_lengths : List ℕ → List ℕ
code_lengths symbols = lengths_of (counts_of symbols)

-- two symbols or more are used, and no length is above 32
unfoldable pub have_codes : List ℕ → Bool
have_codes symbols =
    nat_le 2 (used_count (counts_of symbols)) && list_all (λ l. nat_le l 32) (code_lengths symbols)

-- the codes of all symbols, joined
abbrev pub symbol_codes : List ℕ → List Bool
symbol_codes symbols = joined_codes (canonical_codes (code_lengths symbols)) symbols

-- the code table, the words of the symbols, and one further word
unfoldable pub coding_bytes : List ℕ → List ℕ
coding_bytes symbols =
    code_table_bytes (code_lengths symbols)
    ++ filled_words (word_count (length (symbol_codes symbols)) + 1) (symbol_codes symbols)
