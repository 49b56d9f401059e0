-- A list of slots in lines: which text is such, and what is wrong first in one that is none.
use Rattle.std.specs.Prelude.{◌≡◌, ◌⊎◌, ℕ, ◌≤◌, ◌<◌, List, [], ◌∷◌, ◌++◌, length, Contains, Option, Some, Result, Ok, Err}
use Rattle.first_fault.specs.Faults.{Faults}
use Rattle.outside_io.specs.streams.Faults.{FailedBetween}
use Rattle.command_words.specs.Words.{AreSlotWords}
use Rattle.tiles_cli.specs.declared.slot_list.ListReason.{ListReason}
use Rattle.tiles_cli.specs.declared.slot_list.ListReason.TheVariants.{BadLine, Truncated, TooLong}
use Rattle.tiles_cli.specs.declared.slot_list.ListStop.{ListStop}
use Rattle.tiles_cli.specs.declared.slot_list.ListStop.TheVariants.{Fault, Source, OutOfMemory}

-- ---- a line

-- a blank (32) or a tab (9)
abbrev pub IsGap : ℕ → Type 0
IsGap byte = (byte ≡ 32) ⊎ (byte ≡ 9)

-- nothing, or a gap and whatever is behind it
abbrev pub IsPassedOver : List ℕ → Type 0
IsPassedOver rest =
    (rest ≡ []) ⊎ ((gap : ℕ) × ((more : List ℕ) × ((rest ≡ gap ∷ more) × IsGap gap)))

-- The line names this slot: the words of a row and of a column, with a gap between them. Further
-- fields are passed over.
pub record NamesSlot (line : List ℕ) (slot : ℕ) : Type 0 where
  pub row : List ℕ
  pub col : List ℕ
  pub gap : ℕ
  pub rest : List ℕ
  pub joined : line ≡ row ++ (gap ∷ (col ++ rest))
  pub words : AreSlotWords row col slot
  pub gap_is : IsGap gap
  pub rest_is : IsPassedOver rest

-- bytes without a line feed (10)
abbrev pub IsOneLine : List ℕ → Type 0
IsOneLine line = ¬ Contains line 10

-- the text begins with this line, whose line feed the rest follows
pub record IsLine (text line rest : List ℕ) : Type 0 where
  pub joined : text ≡ line ++ (10 ∷ rest)
  pub one : IsOneLine line

-- ---- a list

-- the text is lines, each with its line feed, that name these slots
abbrev pub IsSlotList : List ℕ → List ℕ → Type 0
IsSlotList text [] = text ≡ []
IsSlotList text (slot ∷ slots) = (line rest : List ℕ)
    × (IsLine text line rest × (NamesSlot line slot × IsSlotList rest slots))

-- the text begins with lines that name slots, and behind them this is left
pub record HasLines (text rest : List ℕ) : Type 0 where
  pub front : List ℕ
  pub slots : List ℕ
  pub joined : text ≡ front ++ rest
  pub lines : IsSlotList front slots

-- a line that names no slot comes first
abbrev pub IsWrongLine : List ℕ → Type 0
IsWrongLine text = (line rest : List ℕ)
    × (IsLine text line rest × ((slot : ℕ) → ¬ NamesSlot line slot))

-- the text ends within a line
abbrev pub IsCutLine : List ℕ → Type 0
IsCutLine text = (0 < length text) × IsOneLine text

-- What is wrong first in a text that is no list: a line that names no slot, by its first byte; or
-- the text ends within a line, by its length. A text of 2^24 bytes or more is not read further.
abbrev pub list_faults : List ℕ → Faults ListReason
list_faults text place BadLine = (rest : List ℕ)
    × ((has : HasLines text rest) × (IsWrongLine rest × (place ≡ length has.front)))
list_faults text place Truncated = (rest : List ℕ)
    × (HasLines text rest × (IsCutLine rest × (place ≡ length text)))
list_faults text place TooLong = (16777216 ≤ length text) × (place ≡ 16777216)

-- ---- what a read tells

-- of the bytes of the source, where they are told
abbrev pub TellsList : Option (List ℕ) → ListStop → Type 0
TellsList (Some text) (Fault f) = list_faults text f.place f.reason
TellsList left stop = Unit {0}

-- a read answers Source only where the source failed in it, and otherwise leaves the count
abbrev pub CountsListStop : {X : Type 0} → Result X ListStop → ℕ → ℕ → Type 0
CountsListStop (Ok x) old new = new ≡ old
CountsListStop (Err (Fault f)) old new = new ≡ old
CountsListStop (Err Source) old new = (old ≤ new) × FailedBetween old new
CountsListStop (Err OutOfMemory) old new = new ≡ old
