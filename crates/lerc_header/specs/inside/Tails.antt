-- The tests of a header's fields from a later field on, as the parts of the reader make them.
use Rattle.std.specs.Prelude.{ℕ, pos, ◌+◌, ◌≤ℤ◌, ◌⊎◌, List}
use Rattle.first_fault.specs.Faults.{Faults, none, wrong, unless}
use Rattle.lerc_header.specs.declared.header.Version.{Version}
use Rattle.lerc_header.specs.declared.fault.BlobReason.{BlobReason}
use Rattle.lerc_header.specs.declared.fault.BlobReason.TheVariants.{BadCount, BadBlockSize, BadBlobSize, FloatPixels, BadType, BadError, BadRange}
use Rattle.lerc_header.specs.Head.{i32_at, shift, head_length}
use Rattle.lerc_header.specs.HeadFaults.{IsWithin, pixels_at, HasStep, HasLeast, HasEnds, HasNone}

abbrev pub range_faults : Version → List ℕ → Faults BlobReason
range_faults v bytes =
    unless (HasNone v bytes ⊎ HasLeast v bytes) (wrong BadRange (46 + shift v))
    (unless (HasNone v bytes ⊎ HasEnds v bytes) (wrong BadRange (54 + shift v))
    none)

abbrev pub step_faults : Version → List ℕ → Faults BlobReason
step_faults v bytes =
    unless (HasStep v bytes) (wrong BadError (38 + shift v)) (range_faults v bytes)

abbrev pub kind_faults : Version → List ℕ → Faults BlobReason
kind_faults v bytes =
    unless (¬ IsWithin (pos 6) (pos 7) (i32_at bytes (34 + shift v)))
    (wrong FloatPixels (34 + shift v))
    (unless (IsWithin (pos 0) (pos 5) (i32_at bytes (34 + shift v))) (wrong BadType (34 + shift v))
    (step_faults v bytes))

abbrev pub count_faults : Version → List ℕ → Faults BlobReason
count_faults v bytes =
    unless (IsWithin (pos 0) (pixels_at bytes) (i32_at bytes (22 + shift v)))
    (wrong BadCount (22 + shift v))
    (unless (pos 1 ≤ℤ i32_at bytes (26 + shift v)) (wrong BadBlockSize (26 + shift v))
    (unless (IsWithin (pos (head_length v + 4)) (pos 134217728) (i32_at bytes (30 + shift v)))
    (wrong BadBlobSize (30 + shift v))
    (kind_faults v bytes)))
