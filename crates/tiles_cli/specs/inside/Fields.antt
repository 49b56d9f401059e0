-- The fields of a line, and the lines of a text, as they are looked for.
use Rattle.std.specs.Prelude.{◌≡◌, ◌⊎◌, ℕ, suc, ◌<◌, ◌≤◌, Bool, false, IsTrue, List, ◌++◌, length, take, drop, get_or, Option, Some, None}
use Rattle.outside_io.specs.streams.Source.{IsAtEnd}
use Rattle.raster_grids.specs.Taken.{TookBytes}
use Rattle.tiles_cli.specs.declared.slot_list.ListReason.TheVariants.{BadLine, Truncated}
use Rattle.tiles_cli.specs.declared.slot_list.ListStop.{ListStop}
use Rattle.tiles_cli.specs.declared.slot_list.ListStop.TheVariants.{Fault, Source, OutOfMemory}
use Rattle.tiles_cli.specs.declared.slot_list.ListedSlot.{ListedSlot}
use Rattle.tiles_cli.specs.SlotList.{IsCutLine, IsGap, IsLine, IsOneLine, IsWrongLine, NamesSlot, list_faults}

-- so many bytes stand in front of the first gap, or there is none
pub record IsFieldLength (text : List ℕ) (n : ℕ) : Type 0 where
  pub within : n ≤ length text
  pub before : (i : ℕ) → i < n → ¬ IsGap (get_or text i 0)
  pub gap : n < length text → IsGap (get_or text n 0)

-- the length of the line that comes first, if it has a line feed
abbrev pub IsLineLength : List ℕ → Option ℕ → Type 0
IsLineLength text None = IsOneLine text
IsLineLength text (Some n) = (n < length text) × IsLine text (take n text) (drop (suc n) text)

-- the slot that a line names, if it names one
abbrev pub SlotIn : List ℕ → Option ℕ → Type 0
SlotIn line None = (slot : ℕ) → ¬ NamesSlot line slot
SlotIn line (Some slot) = NamesSlot line slot

-- why a text is no list: what is wrong first, or want of memory
abbrev pub IsListStop : List ℕ → ListStop → Type 0
IsListStop text (Fault f) = list_faults text f.place f.reason
IsListStop text Source = ⊥
IsListStop text OutOfMemory = Unit {0}

-- the line at a place names this slot, and ends in front of this place
pub record IsListedAt (text : List ℕ) (at : ℕ) (found : ListedSlot) : Type 0 where
  pub line : List ℕ
  pub within : found.behind ≤ length text
  pub later : at < found.behind
  pub is : IsLine (drop at text) line (drop found.behind text)
  pub names : NamesSlot line found.slot

-- it names none, or has no line feed; or memory was refused
abbrev pub IsWrongAt : List ℕ → ℕ → ListStop → Type 0
IsWrongAt text at (Fault f) = ((f.reason ≡ BadLine) × (f.place ≡ at) × IsWrongLine (drop at text))
    ⊎ ((f.reason ≡ Truncated) × (f.place ≡ length text) × IsCutLine (drop at text))
IsWrongAt text at Source = ⊥
IsWrongAt text at OutOfMemory = Unit {0}

-- the source failed, or memory was refused
abbrev pub IsFree : ListStop → Type 0
IsFree (Fault f) = ⊥
IsFree stop = Unit {0}

-- a piece was taken and stands behind the text; where it is a whole one there may be more
pub record TookPiece (old new : Option (List ℕ)) (text_old text_new : List ℕ) (more : Bool)
    : Type 0 where
  pub piece : List ℕ
  pub took : TookBytes old new piece
  pub text_is : text_new ≡ text_old ++ piece
  pub whole : IsTrue more → length piece ≡ 4096
  pub last : more ≡ false → IsAtEnd new
