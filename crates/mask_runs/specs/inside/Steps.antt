-- What one step of the reader and of the writer does.
use Rattle.std.specs.Prelude.{◌≡◌, ℕ, ℤ, ◌+◌, ◌<◌, ◌≤◌, List, [], ◌++◌, length, take, drop, slice_index}
use Rattle.mask_runs.specs.declared.read.RunStep.{RunStep}
use Rattle.mask_runs.specs.declared.read.RunStep.TheVariants.{Taken, End, Fault}
use Rattle.mask_runs.specs.declared.write.Choice.{Choice}
use Rattle.mask_runs.specs.declared.write.Choice.TheVariants.{Literal as LiteralOf, Repeat as RepeatOf}
use Rattle.mask_runs.specs.Runs.{MaskPiece, Literal, Repeat, MaskRun, IsRun, spelling, run_content, end_mark}
use Rattle.mask_runs.specs.Fault.{IsWrongRun, body_length}
use Rattle.mask_runs.specs.Chosen.{first_piece}

-- A run of `taken` bytes comes first in `bytes`, and it gives `filled` bytes, which are `part`.
pub record TakesRun (bytes part : List ℕ) (taken filled : ℕ) : Type 0 where
  pub run : MaskRun
  pub is_run : IsRun run
  pub spelled : bytes ≡ spelling run ++ drop taken bytes
  pub taken_is : taken ≡ length (spelling run)
  pub filled_is : filled ≡ length (run_content run)
  pub gives : part ≡ run_content run

-- what was found where a run of this count comes first, whose bytes may be cut
abbrev pub ReadsRunBody : List ℕ → ℤ → List ℕ → RunStep → Type 0
ReadsRunBody bytes count part (Taken taken filled) = TakesRun bytes part taken filled
ReadsRunBody bytes count part End = ⊥
ReadsRunBody bytes count part Fault = length bytes < 2 + body_length count

-- what was found, where `old` was still to come of the mask and is `new` now
abbrev pub ReadsRun : List ℕ → List ℕ → List ℕ → RunStep → Type 0
ReadsRun bytes old new (Taken taken filled) =
    (part : List ℕ) × ((new ≡ part ++ drop filled old) × TakesRun bytes part taken filled)
ReadsRun bytes old new End = (bytes ≡ end_mark ++ drop 2 bytes) × ((old ≡ []) × (new ≡ []))
ReadsRun bytes old new Fault = IsWrongRun bytes (length old)

-- the first piece of a mask, which gives n of its bytes
abbrev pub piece_of : List ℕ → Choice → MaskPiece
piece_of mask (LiteralOf n) = Literal (take n mask)
piece_of mask (RepeatOf n) = Repeat n (slice_index mask 0)

abbrev pub count_in : Choice → ℕ
count_in (LiteralOf n) = n
count_in (RepeatOf n) = n

abbrev pub size_in : Choice → ℕ
size_in (LiteralOf n) = 2 + n
size_in (RepeatOf n) = 3

-- The choice is that of the first piece of the mask.
pub record IsFirstChoice (mask : List ℕ) (choice : Choice) : Type 0 where
  pub piece : first_piece mask ≡ piece_of mask choice
  pub least : 1 ≤ count_in choice
  pub most : count_in choice ≤ 32767
  pub within : count_in choice ≤ length mask
