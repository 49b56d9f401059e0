-- What a decoder answers.
use Rattle.std.specs.Prelude.{◌≡◌, ℕ, ◌-◌, List, length, Option, Result, Ok, Err}
use Rattle.raster_values.specs.Raster.{Pixels}
use Rattle.lerc_header.specs.Head.{head_length}
use Rattle.lerc_grammar.specs.Mask.{Previous}
use Rattle.lerc_grammar.specs.Verdict.{FirstFaultAfter, IsDoneAfter, IsMoreAfter}
use Rattle.lerc_header.specs.declared.fault.BlobReason.TheVariants.{Truncated}
use Rattle.lerc_decode.specs.declared.streams.decoder.DecodeFault.{DecodeFault}
use Rattle.lerc_decode.specs.declared.streams.decoder.DecodeFault.TheVariants.{Blob as BlobOf}
use Rattle.lerc_decode.specs.declared.streams.decoder.DecodeFault.TheVariants.{OutOfMemory as NoMemoryOf}
use Rattle.lerc_decode.specs.declared.streams.decoder.FedState.{FedState}
use Rattle.lerc_decode.specs.declared.streams.decoder.FedState.TheVariants.{More, Done, Refused}
use Rattle.lerc_decode.specs.declared.streams.decoder.FedState.TheVariants.{OutOfMemory}
use Rattle.lerc_decode.specs.Decoding.{Stage, Key, Fields, Body, Whole, Wrong, NoMemory, HasHeader}
use Rattle.lerc_decode.specs.Decoding.{IsLeastAfter}

abbrev pub state_at : Stage → FedState
state_at Key = More
state_at (Fields v) = More
state_at (Body h) = More
state_at (Whole r) = Done
state_at (Wrong place reason) = Refused (record { reason = reason; place = place })
state_at NoMemory = OutOfMemory

-- how many bytes are missing to what is decided next
abbrev pub missing_at : Stage → ℕ → ℕ
missing_at Key n = 10 - n
missing_at (Fields v) n = head_length v - n
missing_at (Body h) n = h.size - n
missing_at (Whole r) n = 0
missing_at (Wrong place reason) n = 0
missing_at NoMemory n = 0

-- the verdict on the bytes taken, and that no fewer bytes decide it; memory is wanted only behind a
-- whole header
abbrev pub IsTold : Option Previous → List ℕ → Stage → Type 0
IsTold before taken Key = IsMoreAfter before taken
IsTold before taken (Fields v) = IsMoreAfter before taken
IsTold before taken (Body h) = IsMoreAfter before taken
IsTold before taken (Whole r) =
    IsDoneAfter before taken r (length taken) × IsLeastAfter before taken
IsTold before taken (Wrong place reason) =
    FirstFaultAfter before taken place reason × IsLeastAfter before taken
IsTold before taken NoMemory = HasHeader taken

-- nothing more is decided
abbrev pub HasStopped : Stage → Type 0
HasStopped Key = ⊥
HasStopped (Fields v) = ⊥
HasStopped (Body h) = ⊥
HasStopped _ = Unit {0}

-- the answer at the end: the raster, the fault, or that the bytes end too early
abbrev pub finished_at : Stage → List ℕ → Result Pixels DecodeFault
finished_at (Whole r) taken = Ok r
finished_at (Wrong place reason) taken = Err (BlobOf (record { reason = reason; place = place }))
finished_at NoMemory taken = Err NoMemoryOf
finished_at _ taken = Err (BlobOf (record { reason = Truncated; place = length taken }))

abbrev pub IsFinished : Stage → List ℕ → Result Pixels DecodeFault → Type 0
IsFinished stage taken result = result ≡ finished_at stage taken

-- a piece no longer than what is missing is used whole, unless memory was refused
abbrev pub IsUsed : Stage → List ℕ → ℕ → Type 0
IsUsed NoMemory piece used = Unit {0}
IsUsed _ piece used = used ≡ length piece
