-- The head of an ASCII grid, as pairs of tokens, and its first fault.
use Rattle.std.specs.Prelude.{◌≡◌, ◌⊎◌, ℕ, ℤ, pos, neg_ℤ, ◌*◌, ◌<◌, ◌≤◌, List, [], ◌∷◌, ◌++◌, codes, length, map, All}
use Rattle.std.specs.Char.{to_ascii_lowercase}
use Rattle.std.specs.Str.Parse.{digits_value}
use Rattle.outside_io.specs.program.Word.{IsDigit}
use Rattle.first_fault.specs.Faults.{Faults, choice, none, unless, wrong}
use Rattle.ascii_grid.specs.Tokens.{TokenAt}
use Rattle.ascii_grid.specs.declared.words.Key.{Key}
use Rattle.ascii_grid.specs.declared.words.Key.TheVariants.{Cols, Rows, XCorner, XCenter, YCorner, YCenter, Cell, Nodata}
use Rattle.ascii_grid.specs.declared.fault.AsciiReason.{AsciiReason}
use Rattle.ascii_grid.specs.declared.fault.AsciiReason.TheVariants.{BadKey, Repeated, Missing, BadText, BadNumber, BadSize, TooLarge}

-- ---- words

abbrev pub IsLetter : ℕ → Type 0
IsLetter byte = ((65 ≤ byte) × (byte ≤ 90)) ⊎ ((97 ≤ byte) × (byte ≤ 122))

abbrev pub BeginsWithLetter : List ℕ → Type 0
BeginsWithLetter [] = ⊥
BeginsWithLetter (byte ∷ rest) = IsLetter byte

abbrev pub name_of : Key → List ℕ
name_of Cols = codes "ncols"
name_of Rows = codes "nrows"
name_of XCorner = codes "xllcorner"
name_of XCenter = codes "xllcenter"
name_of YCorner = codes "yllcorner"
name_of YCenter = codes "yllcenter"
name_of Cell = codes "cellsize"
name_of Nodata = codes "NODATA_value"

-- in any case of letters
abbrev pub IsKey : List ℕ → Key → Type 0
IsKey word key = map to_ascii_lowercase word ≡ map to_ascii_lowercase (name_of key)

-- one to ten decimal digits
pub record AreDigits (bytes : List ℕ) (n : ℕ) : Type 0 where
  pub digits : All IsDigit bytes
  pub some : 0 < length bytes
  pub few : length bytes ≤ 10
  pub value : digits_value 10 bytes ≡ n

-- `-` (45), or not, and one to ten decimal digits
abbrev pub IsInteger : List ℕ → ℤ → Type 0
IsInteger bytes z = (n : ℕ) × ((AreDigits bytes n × (z ≡ pos n))
    ⊎ ((rest : List ℕ) × ((bytes ≡ 45 ∷ rest) × (AreDigits rest n × (z ≡ neg_ℤ (pos n))))))

-- a digit, `+`, `-`, `.`, `e` or `E`
abbrev pub IsTextByte : ℕ → Type 0
IsTextByte byte = IsDigit byte
    ⊎ ((byte ≡ 43) ⊎ ((byte ≡ 45) ⊎ ((byte ≡ 46) ⊎ ((byte ≡ 101) ⊎ (byte ≡ 69)))))

-- a corner or cell text: 1 to 32 such bytes
pub record IsText (bytes : List ℕ) : Type 0 where
  pub some : 0 < length bytes
  pub few : length bytes ≤ 32
  pub each : All IsTextByte bytes

-- ---- pairs

-- a keyword and its value
pub record Pair : Type 0 where
  pub word : TokenAt
  pub key : Key
  pub value : TokenAt

-- the number of the quantity of a key: a corner and a centre are two ways to say one
abbrev pub quantity_of : Key → ℕ
quantity_of Cols = 0
quantity_of Rows = 1
quantity_of XCorner = 2
quantity_of XCenter = 2
quantity_of YCorner = 3
quantity_of YCenter = 3
quantity_of Cell = 4
quantity_of Nodata = 5

-- one of the pairs is such
abbrev pub SomePair : (Pair → Type 0) → List Pair → Type 0
SomePair P [] = ⊥
SomePair P (p ∷ ps) = P p ⊎ SomePair P ps

-- a pair says this quantity
abbrev pub Says : List Pair → ℕ → Type 0
Says ps q = SomePair (λ p. quantity_of p.key ≡ q) ps

abbrev pub Has : List Pair → Key → Type 0
Has ps key = Says ps (quantity_of key)

-- every quantity but nodata is there
abbrev pub HasAll : List Pair → Type 0
HasAll ps = Says ps 0 × (Says ps 1 × (Says ps 2 × (Says ps 3 × Says ps 4)))

-- what a pair says of this quantity
abbrev pub SaysText : List Pair → ℕ → List ℕ → Type 0
SaysText ps q bytes = SomePair (λ p. (quantity_of p.key ≡ q) × (p.value.bytes ≡ bytes)) ps

abbrev pub SaysNumber : List Pair → ℕ → ℤ → Type 0
SaysNumber ps q n = SomePair (λ p. (quantity_of p.key ≡ q) × IsInteger p.value.bytes n) ps

-- a pair has this very keyword
abbrev pub SaysKey : List Pair → Key → Type 0
SaysKey ps key = SomePair (λ p. p.key ≡ key) ps

-- a size of at least 1, with which the product is within 2 ^ 24 where the other is there
pub record IsSize (ps : List Pair) (other : ℕ) (bytes : List ℕ) : Type 0 where
  pub size : ℕ
  pub spelled : IsInteger bytes (pos size)
  pub some : 0 < size
  pub within : (m : ℕ) → SaysNumber ps other (pos m) → size * m ≤ 16777216

-- the value of a keyword behind some pairs
abbrev pub IsValue : List Pair → Key → List ℕ → Type 0
IsValue ps Cols bytes = IsSize ps 1 bytes
IsValue ps Rows bytes = IsSize ps 0 bytes
IsValue ps XCorner bytes = IsText bytes
IsValue ps XCenter bytes = IsText bytes
IsValue ps YCorner bytes = IsText bytes
IsValue ps YCenter bytes = IsText bytes
IsValue ps Cell bytes = IsText bytes
IsValue ps Nodata bytes = (n : ℤ) × IsInteger bytes n

-- each pair stands behind those before it
abbrev pub ArePairs : List Pair → List Pair → Type 0
ArePairs before [] = Unit {0}
ArePairs before (p ∷ ps) = (BeginsWithLetter p.word.bytes × (IsKey p.word.bytes p.key
    × ((¬ Has before p.key) × IsValue before p.key p.value.bytes))) × ArePairs (before ++ p ∷ []) ps

-- their tokens
abbrev pub flat : List Pair → List TokenAt
flat [] = []
flat (p ∷ ps) = p.word ∷ p.value ∷ flat ps

-- ---- the first fault

-- what may be wrong with a size
abbrev pub size_faults : List Pair → ℕ → TokenAt → Faults AsciiReason
size_faults ps other v =
    unless ((n : ℤ) × IsInteger v.bytes n) (wrong BadNumber v.place)
    (unless ((n : ℕ) × (IsInteger v.bytes (pos n) × (0 < n))) (wrong BadSize v.place)
    (unless (IsSize ps other v.bytes) (wrong TooLarge v.place) none))

abbrev pub text_faults : TokenAt → Faults AsciiReason
text_faults v = unless (IsText v.bytes) (wrong BadText v.place) none

abbrev pub value_faults : List Pair → Key → TokenAt → Faults AsciiReason
value_faults ps Cols v = size_faults ps 1 v
value_faults ps Rows v = size_faults ps 0 v
value_faults ps XCorner v = text_faults v
value_faults ps XCenter v = text_faults v
value_faults ps YCorner v = text_faults v
value_faults ps YCenter v = text_faults v
value_faults ps Cell v = text_faults v
value_faults ps Nodata v = unless ((n : ℤ) × IsInteger v.bytes n) (wrong BadNumber v.place) none

-- `last` is how the text ends where a token is owed
abbrev pub behind_key : Faults AsciiReason → List Pair → Key → List TokenAt → Faults AsciiReason
behind_key last ps key [] = last
behind_key last ps key (v ∷ vs) = value_faults ps key v

-- a keyword that is there already, or the value behind it is wrong
pub record KeyFault (last : Faults AsciiReason) (ps : List Pair) (t : TokenAt) (ts : List TokenAt)
    (place : ℕ) (reason : AsciiReason) : Type 0 where
  pub key : Key
  pub is : IsKey t.bytes key
  pub fault : unless (¬ Has ps key) (wrong Repeated t.place)
      (behind_key last ps key ts) place reason

-- a word that begins with a letter
abbrev pub key_faults : Faults AsciiReason → List Pair → TokenAt → List TokenAt → Faults AsciiReason
key_faults last ps t ts place reason =
    (((key : Key) → ¬ IsKey t.bytes key) × wrong BadKey t.place place reason)
    ⊎ KeyFault last ps t ts place reason

-- what may be wrong behind some pairs
abbrev pub next_faults : Faults AsciiReason → List Pair → List TokenAt → Faults AsciiReason
next_faults last ps [] = last
next_faults last ps (t ∷ ts) =
    choice (BeginsWithLetter t.bytes) (key_faults last ps t ts)
    (unless (HasAll ps) (wrong Missing t.place) none)

-- the first pairs stand, and what is behind them is wrong
pub record HeadFaults (last : Faults AsciiReason) (tokens : List TokenAt) (place : ℕ)
    (reason : AsciiReason) : Type 0 where
  pub before : List Pair
  pub rest : List TokenAt
  pub joined : tokens ≡ flat before ++ rest
  pub stand : ArePairs [] before
  pub next : next_faults last before rest place reason
