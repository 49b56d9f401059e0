-- The name that a reason's number has is the reason's.
use Rattle.std.proofs.Common.{◌≡◌, ℕ, ◌<◌, ◌≤◌, ◌++◌, List, length, take, drop, min, refl, sym, ap, ◌∙◌, arith, ⊎_elim}
use Rattle.std.proofs.lemmas.List.{take_all, drop_all}
use Rattle.std.proofs.lemmas.Bool.{cases_lt}
use Rattle.lerc_header.specs.declared.fault.BlobReason.{BlobReason}
use Rattle.lerc_header.specs.declared.fault.BlobReason.TheVariants.{Truncated, BadKey, BadVersion, BadRows, BadCols, BadDepth, TooLarge, BadCount, BadBlockSize, BadBlobSize, FloatPixels, BadType, BadError, BadRange, BadChecksum, BadMaskLength, BadRun, BadMaskCount, MaskMissing, BadSweep, BadMode, BadBlockTag, BadOffsetCode, BadListHead, BadListCount, BadTable, BadIndex, BadCodeTable, NoCode, PastEnd, Leftover}
use Rattle.lerc_c.specs.Told.{reason_number}
use Rattle.reason_names.specs.Names.{blob_name_of}
use Rattle.lerc_c.specs.Names.{name_at}

pub named : (reason : BlobReason) → name_at (reason_number reason) ≡ blob_name_of reason
named Truncated = refl
named BadKey = refl
named BadVersion = refl
named BadRows = refl
named BadCols = refl
named BadDepth = refl
named TooLarge = refl
named BadCount = refl
named BadBlockSize = refl
named BadBlobSize = refl
named FloatPixels = refl
named BadType = refl
named BadError = refl
named BadRange = refl
named (BadChecksum stored computed) = refl
named BadMaskLength = refl
named BadRun = refl
named (BadMaskCount header counted) = refl
named MaskMissing = refl
named BadSweep = refl
named BadMode = refl
named BadBlockTag = refl
named BadOffsetCode = refl
named BadListHead = refl
named BadListCount = refl
named BadTable = refl
named BadIndex = refl
named BadCodeTable = refl
named NoCode = refl
named PastEnd = refl
named Leftover = refl

-- as much of a name as there is room for
pub cut_name : (name out : List ℕ) (size : ℕ) → size ≡ min (length name) (length out) → take size name ++ drop size out ≡ take (length out) name ++ drop (length name) out
cut_name name out size is =
    ⊎_elim
    (λ (short : length name < length out).
    let e : size ≡ length name = omega arith in
    ap (λ n. take n name ++ drop n out) e ∙ ap (λ xs. xs ++ drop (length name) out) (take_all (length name) name (omega arith) ∙ sym (take_all (length out) name (omega arith))))
    (λ (long : length out ≤ length name).
    let e : size ≡ length out = omega arith in
    ap (λ n. take n name ++ drop n out) e ∙ ap (λ xs. take (length out) name ++ xs) (drop_all (length out) out (omega arith) ∙ sym (drop_all (length name) out (omega arith))))
    (cases_lt (length name) (length out))
