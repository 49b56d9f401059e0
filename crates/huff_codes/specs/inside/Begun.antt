-- What a writer of words holds.
use Rattle.std.specs.Prelude.{ℕ, ◌≡◌, ◌%◌, ◌^◌, ◌<◌, Bool, List, length, get_or, map}
use Rattle.huff_codes.specs.Bits.{bits_of}
use Rattle.huff_codes.specs.Codes.{code_at}
use Rattle.huff_codes.specs.Pieces.{Writing}
use Rattle.huff_codes.specs.declared.words.word_pairs.CodeNumber.{CodeNumber}
use Rattle.huff_codes.specs.inside.Filling.{IsNumbered, no_number}

-- the codes that the numbers have
unfoldable pub numbered_codes : List CodeNumber → List (List Bool)
numbered_codes numbers = map (λ c. bits_of c.length c.number) numbers

-- each of the 256 numbers fits the length of its code
pub record AreNumbers (numbers : List CodeNumber) : Type 0 where
  pub size : length numbers ≡ 256
  pub each : (s : ℕ) → s < 256
      → IsNumbered (code_at (numbered_codes numbers) s) (get_or numbers s no_number)

unfoldable pub writing_of : List CodeNumber → ℕ → ℕ → ℕ → Writing
writing_of numbers held count at =
    record {
      codes = numbered_codes numbers;
      place = at;
      waiting = bits_of count (held % 2 ^ count);
    }
