-- How a code is held: its bits stand highest in a word.
use Rattle.std.specs.Prelude.{ℕ, ◌≡◌, ◌<◌, ◌≤◌, Bool, List, length, map, take, All}
use Rattle.huff_codes.specs.declared.codes.Code.{Code}
use Rattle.huff_codes.specs.declared.codes.Ahead.{Ahead}
use Rattle.huff_codes.specs.declared.codes.Span.{Span}
use Rattle.huff_codes.specs.Bits.{bits_of}
use Rattle.huff_codes.specs.Codes.{AreCodes}
use Rattle.huff_codes.specs.inside.Spans.{IsLaid, AreSpans, AreApart}

unfoldable pub code_bits : Code → List Bool
code_bits c = take c.length (bits_of 32 c.bits)

unfoldable pub codes_held : List Code → List (List Bool)
codes_held cs = map code_bits cs

-- what always holds of codes as they are held
pub record AreHeld (cs : List Code) : Type 0 where
  pub laid : All IsLaid cs
  pub codes : AreCodes (codes_held cs)

-- what always holds of the spans beside the codes, of which the first `used` count
pub record AreOrdered (cs : List Code) (spans : List Span) (used : ℕ) : Type 0 where
  pub room : length spans ≡ 256
  pub within : used ≤ 256
  pub spans_of : AreSpans cs (take used spans)
  pub apart : AreApart (take used spans)

-- the word has the first of these bits, as many as are there up to 32
pub record IsAhead (a : Ahead) (left : List Bool) : Type 0 where
  pub few : a.count ≤ 32
  pub same : take 32 left ≡ take a.count (bits_of 32 a.word)

-- the first bits of two words are the same
unfoldable pub AreAlike : ℕ → ℕ → ℕ → Type 0
AreAlike one other count = take count (bits_of 32 one) ≡ take count (bits_of 32 other)

-- the bits ahead have all of this code in front
abbrev pub IsInFront : Code → Ahead → Type 0
IsInFront c a = (0 < c.length) × ((c.length ≤ a.count) × AreAlike a.word c.bits c.length)

-- the code has all of the bits ahead in front
abbrev pub IsBehind : Code → Ahead → Type 0
IsBehind c a = (0 < c.length) × ((a.count ≤ c.length) × AreAlike c.bits a.word a.count)
