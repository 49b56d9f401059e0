-- A decoder, as contracts see it.
use Rattle.std.specs.Prelude.{◌≡◌, ℕ, ◌<◌, ◌≤◌, List, ◌++◌, length, take, Option, None}
use Rattle.raster_values.specs.Raster.{Pixels}
use Rattle.lerc_header.specs.declared.header.Header.{Header}
use Rattle.lerc_header.specs.declared.header.Version.{Version}
use Rattle.lerc_header.specs.Head.{HeadAt, head_length}
use Rattle.lerc_header.specs.declared.fault.BlobReason.{BlobReason}
use Rattle.lerc_header.specs.HeadFaults.{HasKey, HasVersion}
use Rattle.lerc_grammar.specs.Mask.{Previous}
use Rattle.lerc_grammar.specs.Verdict.{FirstFaultAfter, IsDoneAfter, IsMoreAfter}

-- how far it is: what is decided next, or how it ended
pub data Stage : Type 0 where
  Key : Stage
  Fields : Version → Stage
  Body : Header → Stage
  Whole : Pixels → Stage
  Wrong : ℕ → BlobReason → Stage
  NoMemory : Stage

-- the bytes taken so far, how far it is, and what a mask may take of the raster before
pub record Decoding : Type 0 where
  pub taken : List ℕ
  pub stage : Stage
  pub before : Option Previous

-- nothing is decided by fewer of the bytes, behind the blob of the raster before
abbrev pub IsLeastAfter : Option Previous → List ℕ → Type 0
IsLeastAfter before taken = (n : ℕ) → n < length taken → IsMoreAfter before (take n taken)

-- where there is no raster before
abbrev pub IsLeastTaken : List ℕ → Type 0
IsLeastTaken taken = IsLeastAfter None taken

-- a lawful header stands whole
pub record HasHeader (taken : List ℕ) : Type 0 where
  pub header : Header
  pub stands : HeadAt taken header

-- What the bytes taken are at each stage. Memory is wanted only behind a whole header.
abbrev pub IsStageOf : Option Previous → List ℕ → Stage → Type 0
IsStageOf before taken Key = length taken < 10
IsStageOf before taken (Fields v) = (10 ≤ length taken) × ((length taken < head_length v)
    × (HasKey (take 10 taken) × HasVersion (take 10 taken) v))
IsStageOf before taken (Body h) = HeadAt taken h × (length taken < h.size)
IsStageOf before taken (Whole r) =
    IsDoneAfter before taken r (length taken) × IsLeastAfter before taken
IsStageOf before taken (Wrong place reason) =
    FirstFaultAfter before taken place reason × IsLeastAfter before taken
IsStageOf before taken NoMemory = HasHeader taken

-- a call has taken the first `used` bytes of a piece; the raster before is the same
pub record HasTaken (old new : Decoding) (piece : List ℕ) (used : ℕ) : Type 0 where
  pub within : used ≤ length piece
  pub taken : new.taken ≡ old.taken ++ take used piece
  pub before : new.before ≡ old.before

-- nothing has changed
abbrev pub IsSame : Decoding → Decoding → ℕ → Type 0
IsSame old new used = (new ≡ old) × (used ≡ 0)
