-- What the first eight bits of code words tell.
use Rattle.std.specs.Prelude.{ℕ, ◌≡◌, ◌↔◌, ◌<◌, Bool, List, length, get_or}
use Rattle.huff_codes.specs.Bits.{bits_of, BeginsWith}
use Rattle.huff_codes.specs.Codes.{code_at, HasCode}
use Rattle.huff_codes.specs.declared.words.prefixes.Look.{Look}
use Rattle.huff_codes.specs.declared.words.prefixes.Look.TheVariants.{Symbol, Longer, Nothing}

-- the code of the symbol has this length, and stands in front of the byte's eight bits, the highest
-- of them first
pub record IsFront (codes : List (List Bool)) (byte symbol size : ℕ) : Type 0 where
  pub coded : HasCode codes symbol
  pub takes : size ≡ length (code_at codes symbol)
  pub front : BeginsWith (bits_of 8 byte) (code_at codes symbol)

-- a code of more than eight bits begins with those of the byte
abbrev pub IsLonger : List (List Bool) → ℕ → Type 0
IsLonger codes byte =
    (s : ℕ) × ((8 < length (code_at codes s)) × BeginsWith (code_at codes s) (bits_of 8 byte))

-- what a byte tells: a symbol, that a code goes on, or else that there is none
pub record IsLook (codes : List (List Bool)) (byte : ℕ) (look : Look) : Type 0 where
  pub symbol : (s n : ℕ) → (look ≡ Symbol s n) ↔ IsFront codes byte s n
  pub longer : (look ≡ Longer) ↔ IsLonger codes byte

-- so it is for each byte
pub record ArePrefixes (codes : List (List Bool)) (looks : List Look) : Type 0 where
  pub size : length looks ≡ 256
  pub each : (byte : ℕ) → byte < 256 → IsLook codes byte (get_or looks byte Nothing)
