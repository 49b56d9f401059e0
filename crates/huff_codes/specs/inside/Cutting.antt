-- Cutting the codes of a table out of its words, one after the other.
use Rattle.std.specs.Prelude.{ℕ, ◌≡◌, ◌+◌, ◌-◌, ◌%◌, ◌<◌, ◌≤◌, Bool, List, [], length}
use Rattle.std.specs.Prelude.{take, drop, get_or, slice_index, sum, All}
use Rattle.huff_codes.specs.Bits.{word_bits}
use Rattle.huff_codes.specs.declared.codes.Code.{Code}
use Rattle.huff_codes.specs.inside.Spans.{IsLaid, no_code}
use Rattle.huff_codes.specs.inside.Stored.{code_bits}

-- the place of a symbol in a range
abbrev pub place_in : ℕ → ℕ → ℕ
place_in first s = (s + (256 - first)) % 256

-- where the k-th code begins
abbrev pub bits_before : List ℕ → ℕ → ℕ
bits_before lengths k = sum (take k lengths)

-- the code at the j-th place, where those of the first k are cut out of the bits, and no other yet
pub record IsCut (lengths : List ℕ) (bits : List Bool) (k j : ℕ) (code : List Bool) : Type 0 where
  pub done : j < k → code ≡ take (slice_index lengths j) (drop (bits_before lengths j) bits)
  pub open_ : k ≤ j → code ≡ []

-- the codes of the first k symbols of the range are cut out, and no symbol else has one
pub record AreCut (first : ℕ) (lengths words : List ℕ) (k bit : ℕ) (cs : List Code) : Type 0 where
  pub room : length cs ≡ 256
  pub bit_is : bit ≡ bits_before lengths k
  pub laid : All IsLaid cs
  pub each : (s : ℕ) → s < 256
      → IsCut lengths (word_bits words) k (place_in first s) (code_bits (get_or cs s no_code))
