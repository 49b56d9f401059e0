-- Reading symbols by the table, out of a window of the next bits.
use Rattle.std.specs.Prelude.{ℕ, List, Bool, ◌++◌, take, drop}
use Rattle.huff_codes.specs.Bits.{word_bits}
use Rattle.huff_codes.specs.declared.words.reading.Cursor.{Cursor}
use Rattle.huff_codes.specs.inside.Lookup.{IsSeen}
use Rattle.huff_codes.specs.inside.Reading.{HaveReached}

-- the symbols before and those so far stand in front of the bits, and n bits behind them stand in
-- the window
pub record IsReading (codes : List (List Bool)) (bytes before out : List ℕ) (n : ℕ)
    (c : Cursor) : Type 0 where
  pub reached : HaveReached codes bytes (before ++ take c.count out) c.bit
  pub seen : IsSeen n c.window (drop c.bit (word_bits bytes))
