-- What decoding from a source answers.
use Rattle.std.specs.Prelude.{◌≡◌, ℕ, ◌≤◌, ◌⊎◌, List, [], ◌++◌, length, Option, None, Some, IfSome}
use Rattle.std.specs.Prelude.{Result, Ok, Err}
use Rattle.outside_io.specs.streams.Faults.{FailedBetween}
use Rattle.raster_values.specs.Raster.{Pixels}
use Rattle.lerc_header.specs.declared.fault.BlobFault.{BlobFault}
use Rattle.lerc_header.specs.declared.fault.BlobReason.TheVariants.{Truncated}
use Rattle.lerc_grammar.specs.Verdict.{FirstFault, IsDone, IsMore}
use Rattle.lerc_decode.specs.Decoding.{HasHeader, IsLeastTaken}
use Rattle.lerc_decode.specs.declared.streams.from_source.Decoded.{Decoded}
use Rattle.lerc_decode.specs.declared.streams.from_source.FromFault.{FromFault}
use Rattle.lerc_decode.specs.declared.streams.from_source.FromFault.TheVariants.{Blob, Source}
use Rattle.lerc_decode.specs.declared.streams.from_source.FromFault.TheVariants.{OutOfMemory}

-- the source failed exactly where the answer says so
abbrev pub CountsSource : {X : Type 0} → Result X FromFault → ℕ → ℕ → Type 0
CountsSource (Err Source) old new = (old ≤ new) × FailedBetween old new
CountsSource _ old new = new ≡ old

-- the bytes taken decide this fault, and no fewer of them; or the source ended before anything was
-- decided
abbrev pub IsFaultIn : BlobFault → List ℕ → List ℕ → Type 0
IsFaultIn f taken rest = (FirstFault taken f.place f.reason × IsLeastTaken taken)
    ⊎ (IsMore taken × ((rest ≡ []) × (f ≡ record { reason = Truncated; place = length taken })))

-- `done` holds of the answer and the bytes taken, or their first fault is decided
abbrev pub IsFound : {X : Type 0} → (X → List ℕ → Type 0) → Result X FromFault →
    List ℕ → List ℕ → Type 0
IsFound done (Ok x) taken rest = done x taken
IsFound done (Err (Blob f)) taken rest = IsFaultIn f taken rest
IsFound done _ taken rest = Unit {0}

-- the source's bytes are those taken and those that it still has
abbrev pub Splits : List ℕ → Option (List ℕ) → (List ℕ → List ℕ → Type 0) → Type 0
Splits input new P = (taken : List ℕ) × ((rest : List ℕ)
    × ((input ≡ taken ++ rest) × ((new ≡ Some rest) × P taken rest)))

-- What was taken of a source that tells its bytes. Memory is wanted only behind a whole header.
abbrev pub IsTaken : {X : Type 0} → (X → List ℕ → Type 0) → Result X FromFault →
    Option (List ℕ) → Option (List ℕ) → Type 0
IsTaken done (Err Source) old new = Unit {0}
IsTaken done (Err OutOfMemory) old new = IfSome old HasHeader
IsTaken done result None new = new ≡ None
IsTaken done result (Some input) new = Splits input new (IsFound done result)

-- where it went well the bytes taken are a blob, and this is its raster
abbrev pub IsDecoded : Result Pixels FromFault → Option (List ℕ) → Option (List ℕ) → Type 0
IsDecoded result old new = IsTaken (λ r taken. IsDone taken r (length taken)) result old new

-- the same, and this is its size
abbrev pub IsSized : Result Decoded FromFault → Option (List ℕ) → Option (List ℕ) → Type 0
IsSized result old new =
    IsTaken (λ d taken. IsDone taken d.raster (length taken) × (d.size ≡ length taken)) result old
    new
