-- The first fault of a whole header behind its key and version.
use Rattle.std.proofs.Common.{◌≡◌, ℕ, ◌≤◌, List, length, refl, arith, Ok, Err}
use Rattle.std.specs.Prelude.{Result, IfErr, ◌↔◌}
use Rattle.first_fault.specs.Faults.{Faults, wrong, choice}
use Rattle.first_fault.proofs.Parts.{passed, failed}
use Rattle.lerc_header.specs.declared.header.Version.{Version}
use Rattle.lerc_header.specs.declared.header.Version.TheVariants.{V3, V4}
use Rattle.lerc_header.specs.declared.header.Header.{Header}
use Rattle.lerc_header.specs.declared.fault.BlobFault.{BlobFault}
use Rattle.lerc_header.specs.declared.fault.BlobReason.{BlobReason}
use Rattle.lerc_header.specs.declared.fault.BlobReason.TheVariants.{BadKey, BadVersion, Truncated}
use Rattle.lerc_header.specs.Head.{head_length}
use Rattle.lerc_header.specs.HeadFaults.{HasKey, HasVersion, key_faults, key_tests, field_faults, whole_faults, header_faults}
use Rattle.lerc_header.proofs.FaultLemmas.{one_version}

abbrev behind : List ℕ → Version → Faults BlobReason
behind bytes v = whole_faults v bytes

abbrev second : List ℕ → Faults BlobReason
second bytes = choice (HasVersion bytes V4) (whole_faults V4 bytes) (wrong BadVersion 6)

abbrev first : List ℕ → Faults BlobReason
first bytes = choice (HasVersion bytes V3) (whole_faults V3 bytes) (second bytes)

of_version : (v : Version) (bytes : List ℕ) (p : ℕ) (r : BlobReason) → HasVersion bytes v → first bytes p r → whole_faults v bytes p r
of_version V3 bytes p r version w = passed (HasVersion bytes V3) (whole_faults V3 bytes) (second bytes) version p r w
of_version V4 bytes p r version w =
    passed (HasVersion bytes V4) (whole_faults V4 bytes) (wrong BadVersion 6) version p r
    (failed (HasVersion bytes V3) (whole_faults V3 bytes) (second bytes) (λ three. let no_ = one_version bytes V3 V4 three version in absurd (cc)) p r w)

fields_of : (v : Version) (bytes : List ℕ) (p : ℕ) (r : BlobReason) → length bytes ≡ head_length v → HasKey bytes → HasVersion bytes v → header_faults bytes p r → field_faults v bytes p r
fields_of v bytes p r long key version w =
    let keyed = passed (10 ≤ length bytes) (key_tests (behind bytes) bytes) (wrong Truncated (length bytes)) (omega (arith, long)) p r w in
    let whole = of_version v bytes p r version (passed (HasKey bytes) (first bytes) (wrong BadKey 0) key p r keyed) in
    passed (head_length v ≤ length bytes) (field_faults v bytes) (wrong Truncated (length bytes)) (omega (arith, long)) p r whole

pub fields_err : (v : Version) (bytes : List ℕ) (result : Result Header BlobFault) → length bytes ≡ head_length v → HasKey bytes → HasVersion bytes v
    → ((f : BlobFault) → (result ≡ Err f) ↔ header_faults bytes f.place f.reason) → IfErr result (λ f. field_faults v bytes f.place f.reason)
fields_err v bytes (Ok h) long key version exact = tt
fields_err v bytes (Err f) long key version exact = fields_of v bytes f.place f.reason long key version ((exact f).0 refl)

-- of the key and the version
pub version_err : (bytes : List ℕ) (result : Result Version BlobFault) → ((f : BlobFault) → (result ≡ Err f) ↔ key_faults bytes f.place f.reason) → IfErr result (λ f. key_faults bytes f.place f.reason)
version_err bytes (Ok v) exact = tt
version_err bytes (Err f) exact = (exact f).0 refl
