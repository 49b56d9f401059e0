-- What the code keeps of pairs.
use Rattle.std.specs.Prelude.{◌≡◌, ◌⊎◌, ◌↔◌, ℕ, ℤ, pos, ◌*◌, ◌+◌, ◌<◌, ◌≤◌, Bool, ◌&&◌, IsTrue, List, [], ◌∷◌, ◌++◌, length, Option, None, Some, Result, Ok, Err, is_some, IfSome, unsigned_abs}
use Rattle.ascii_grid.specs.Tokens.{TokenAt}
use Rattle.ascii_grid.specs.Endings.{ending}
use Rattle.ascii_grid.specs.Head.{ArePairs, BeginsWithLetter, HasAll, HeadFaults, IsInteger, IsText, Pair, Says, SaysKey, SaysNumber, SaysText, flat}
use Rattle.ascii_grid.specs.declared.words.Key.{Key}
use Rattle.ascii_grid.specs.declared.words.Key.TheVariants.{Cols, Rows, XCorner, XCenter, YCorner, YCenter, Cell, Nodata}
use Rattle.ascii_grid.specs.declared.fault.AsciiReason.{AsciiReason}
use Rattle.ascii_grid.specs.declared.fault.AsciiReason.TheVariants.{BadNumber, BadSize, TooLarge}
use Rattle.ascii_grid.specs.declared.fault.AsciiStop.{AsciiStop}
use Rattle.ascii_grid.specs.declared.fault.AsciiStop.TheVariants.{Fault, Source, OutOfMemory}
use Rattle.ascii_grid.specs.declared.head.Head.{Head}
use Rattle.ascii_grid.specs.inside.Reading.{Held, Left}

-- a size that the pairs say, and no other
abbrev pub KeepsSize : Option ℕ → List Pair → ℕ → Type 0
KeepsSize None ps q = ¬ Says ps q
KeepsSize (Some n) ps q =
    SaysNumber ps q (pos n) × ((0 < n) × ((m : ℤ) → SaysNumber ps q m → m ≡ pos n))

abbrev pub KeepsText : Option TokenAt → List Pair → ℕ → Type 0
KeepsText None ps q = ¬ Says ps q
KeepsText (Some t) ps q = SaysText ps q t.bytes × IsText t.bytes

abbrev pub KeepsNumber : Option ℤ → List Pair → ℕ → Type 0
KeepsNumber None ps q = ¬ Says ps q
KeepsNumber (Some n) ps q = SaysNumber ps q n

pub record Keeps (h : Head) (ps : List Pair) : Type 0 where
  pub cols : KeepsSize h.cols ps 0
  pub rows : KeepsSize h.rows ps 1
  pub fits : (n m : ℕ) → h.cols ≡ Some n → h.rows ≡ Some m → n * m ≤ 16777216
  pub x : KeepsText h.x ps 2
  pub x_centre : IsTrue h.x_centre ↔ SaysKey ps XCenter
  pub y : KeepsText h.y ps 3
  pub y_centre : IsTrue h.y_centre ↔ SaysKey ps YCenter
  pub cell : KeepsText h.cell ps 4
  pub nodata : KeepsNumber h.nodata ps 5

-- what there is of texts and of nodata is lawful, whatever the source tells
pub record IsFair (h : Head) : Type 0 where
  pub x : IfSome h.x (λ t. IsText t.bytes)
  pub y : IfSome h.y (λ t. IsText t.bytes)
  pub cell : IfSome h.cell (λ t. IsText t.bytes)
  pub nodata : IfSome h.nodata (λ n. unsigned_abs n < 10000000000)

-- whether the quantity of a key is there
abbrev pub has_key : Head → Key → Bool
has_key h Cols = is_some h.cols
has_key h Rows = is_some h.rows
has_key h XCorner = is_some h.x
has_key h XCenter = is_some h.x
has_key h YCorner = is_some h.y
has_key h YCenter = is_some h.y
has_key h Cell = is_some h.cell
has_key h Nodata = is_some h.nodata

-- whether every quantity but nodata is there
abbrev pub has_five : Head → Bool
has_five h =
    is_some h.cols && (is_some h.rows && (is_some h.x && (is_some h.y && is_some h.cell)))

-- how many quantities are not there
abbrev pub one_less : {X : Type 0} → Option X → ℕ
one_less None = 1
one_less (Some x) = 0

abbrev pub missing : Head → ℕ
missing h = one_less h.cols + (one_less h.rows + (one_less h.x + (one_less h.y
    + (one_less h.cell + one_less h.nodata))))

-- what is wrong with a size beside the other one
abbrev pub SizeStops : Option ℕ → List ℕ → AsciiReason → Type 0
SizeStops other bytes reason =
    ((reason ≡ BadNumber) × ((z : ℤ) → ¬ IsInteger bytes z))
    ⊎ (((reason ≡ BadSize) × ((z : ℤ) × (IsInteger bytes z × ((n : ℕ) → 0 < n → z ≡ pos n → ⊥))))
    ⊎ ((reason ≡ TooLarge) × ((n m : ℕ)
    × (IsInteger bytes (pos n) × ((0 < n) × ((other ≡ Some m) × (16777216 < n * m)))))))

-- ---- what the head's reader leaves

-- the pairs stand and are all there, and this token is behind them
pub record BehindHead (h : Head) (t : TokenAt) (left : Option (List ℕ)) (window : Held) (total : ℕ)
    (tokens : List TokenAt) : Type 0 where
  pub pairs : List Pair
  pub rest : List TokenAt
  pub joined : tokens ≡ flat pairs ++ t ∷ rest
  pub stand : ArePairs [] pairs
  pub all : HasAll pairs
  pub keeps : Keeps h pairs
  pub behind : ¬ BeginsWithLetter t.bytes
  pub later : length t.bytes < 33 → Left left window total rest

abbrev pub HeadRead : Result (Head × TokenAt) AsciiStop → Option (List ℕ) → Held → ℕ → List TokenAt
    → Type 0
HeadRead (Ok r) left window total tokens = BehindHead r.0 r.1 left window total tokens
HeadRead (Err (Fault f)) left window total tokens =
    HeadFaults (ending total) tokens f.place f.reason
HeadRead (Err Source) left window total tokens = Unit {0}
HeadRead (Err OutOfMemory) left window total tokens = ⊥
