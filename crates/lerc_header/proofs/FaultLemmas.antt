-- A header has no fault, and bytes have one first fault at most.
use Rattle.std.proofs.Common.{◌≡◌, ℕ, ℤ, pos, ◌+◌, ◌*◌, ◌≤◌, ◌≤ℤ◌, ◌*ℤ◌, List, length, refl, sym, ap, ◌∙◌, subst, arith, ◌⊎◌, inl, inr}
use Rattle.std.proofs.lemmas.Int.{ints}
use Rattle.first_fault.specs.Faults.{Faults, none, wrong}
use Rattle.first_fault.specs.Parts.{IsSingle, IsEmpty}
use Rattle.first_fault.proofs.Parts.{single-none, single-wrong, single-choice, single-unless, empty-choice, empty-failed}
use Rattle.raster_cells.specs.declared.kind.PixelType.{PixelType}
use Rattle.raster_cells.specs.declared.kind.PixelType.TheVariants.{I8, U8, I16, U16, I32, U32}
use Rattle.raster_cells.specs.PixelType.{code_of}
use Rattle.double_bits.specs.Halves.{HalfDouble}
use Rattle.lerc_header.specs.declared.fault.BlobReason.{BlobReason}
use Rattle.lerc_header.specs.declared.fault.BlobReason.TheVariants.{Truncated, BadKey, BadVersion, BadRows, BadCols, BadDepth, TooLarge, BadCount, BadBlockSize, BadBlobSize, FloatPixels, BadType, BadError, BadRange}
use Rattle.lerc_header.specs.declared.header.Version.{Version}
use Rattle.lerc_header.specs.declared.header.Version.TheVariants.{V3, V4}
use Rattle.lerc_header.specs.declared.header.Header.{Header}
use Rattle.lerc_header.specs.Head.{HeadAt, RangeAt, i32_at, double_at, shift, head_length, depth_at}
use Rattle.lerc_header.specs.HeadFaults.{HasKey, HasVersion, key_tests, key_faults, IsWithin, pixels_at, values_at, HasStep, HasLeast, HasEnds, HasNone, field_faults, whole_faults, header_faults}
use Rattle.lerc_header.proofs.HeadLemmas.{number_once}

-- ---- at most one first fault

pub single-key_tests : (behind : Version → Faults BlobReason) → ((v : Version) → IsSingle (behind v)) → (bytes : List ℕ) → IsSingle (key_tests behind bytes)
single-key_tests behind one bytes =
    single-unless (HasKey bytes) BadKey 0 _
    (single-choice (HasVersion bytes V3) (behind V3) _ (one V3)
    (single-choice (HasVersion bytes V4) (behind V4) (wrong BadVersion 6) (one V4)
    (single-wrong BadVersion 6)))

pub single-key : (bytes : List ℕ) → IsSingle (key_faults bytes)
single-key bytes = single-key_tests (λ v. none) (λ v. single-none) bytes

pub single-fields : (v : Version) (bytes : List ℕ) → IsSingle (field_faults v bytes)
single-fields v bytes =
    single-unless (pos 1 ≤ℤ i32_at bytes 14) BadRows 14 _
    (single-unless (pos 1 ≤ℤ i32_at bytes 18) BadCols 18 _
    (single-unless (IsWithin (pos 1) (pos 65536) (depth_at v bytes)) BadDepth 22 _
    (single-unless (values_at v bytes ≤ℤ pos 16777216) TooLarge (18 + shift v) _
    (single-unless (IsWithin (pos 0) (pixels_at bytes) (i32_at bytes (22 + shift v))) BadCount (22 + shift v) _
    (single-unless (pos 1 ≤ℤ i32_at bytes (26 + shift v)) BadBlockSize (26 + shift v) _
    (single-unless (IsWithin (pos (head_length v + 4)) (pos 134217728) (i32_at bytes (30 + shift v))) BadBlobSize (30 + shift v) _
    (single-unless (¬ IsWithin (pos 6) (pos 7) (i32_at bytes (34 + shift v))) FloatPixels (34 + shift v) _
    (single-unless (IsWithin (pos 0) (pos 5) (i32_at bytes (34 + shift v))) BadType (34 + shift v) _
    (single-unless (HasStep v bytes) BadError (38 + shift v) _
    (single-unless (HasNone v bytes ⊎ HasLeast v bytes) BadRange (46 + shift v) _
    (single-unless (HasNone v bytes ⊎ HasEnds v bytes) BadRange (54 + shift v) none
    single-none)))))))))))

pub single-whole : (v : Version) (bytes : List ℕ) → IsSingle (whole_faults v bytes)
single-whole v bytes = single-unless (head_length v ≤ length bytes) Truncated (length bytes) (field_faults v bytes) (single-fields v bytes)

pub single-header : (bytes : List ℕ) → IsSingle (header_faults bytes)
single-header bytes =
    single-unless (10 ≤ length bytes) Truncated (length bytes) _ (single-key_tests (λ v. whole_faults v bytes) (λ v. single-whole v bytes) bytes)

-- ---- key and version

pub one_version : (bytes : List ℕ) (v w : Version) → HasVersion bytes v → HasVersion bytes w → v ≡ w
one_version bytes V3 V3 e f = refl
one_version bytes V3 V4 e f = absurd (omega (arith, number_once 3 4 (i32_at bytes 6) e f))
one_version bytes V4 V3 e f = absurd (omega (arith, number_once 4 3 (i32_at bytes 6) e f))
one_version bytes V4 V4 e f = refl

not_three : (bytes : List ℕ) → HasVersion bytes V4 → HasVersion bytes V3 → ⊥
not_three bytes four three = omega (arith, number_once 3 4 (i32_at bytes 6) three four)

-- behind a key and a version: what is wrong there is wrong, and nothing else
pub in_key_tests : (behind : Version → Faults BlobReason) (bytes : List ℕ) (v : Version) → HasKey bytes → HasVersion bytes v → (p : ℕ) (r : BlobReason) → behind v p r → key_tests behind bytes p r
in_key_tests behind bytes V3 key version p r w = inl (key, inl (version, w))
in_key_tests behind bytes V4 key version p r w = inl (key, inr (not_three bytes version, inl (version, w)))

-- what is wrong with key and version is wrong first, whatever is behind them
pub key_in_tests : (behind : Version → Faults BlobReason) (bytes : List ℕ) (p : ℕ) (r : BlobReason) → key_faults bytes p r → key_tests behind bytes p r
key_in_tests behind bytes p r (inl (key, inl (three, never))) = absurd never
key_in_tests behind bytes p r (inl (key, inr (three, inl (four, never)))) = absurd never
key_in_tests behind bytes p r (inl (key, inr (three, inr (four, is)))) = inl (key, inr (three, inr (four, is)))
key_in_tests behind bytes p r (inr is) = inr is

pub empty-key_tests : (behind : Version → Faults BlobReason) (bytes : List ℕ) (v : Version) → HasKey bytes → HasVersion bytes v → IsEmpty (behind v) → IsEmpty (key_tests behind bytes)
empty-key_tests behind bytes V3 key version e =
    empty-choice (HasKey bytes) _ (wrong BadKey 0) key (empty-choice (HasVersion bytes V3) (behind V3) _ version e)
empty-key_tests behind bytes V4 key version e =
    empty-choice (HasKey bytes) _ (wrong BadKey 0) key
    (empty-failed (HasVersion bytes V3) (behind V3) _ (not_three bytes version)
    (empty-choice (HasVersion bytes V4) (behind V4) (wrong BadVersion 6) version e))

pub empty-key : (bytes : List ℕ) (v : Version) → HasKey bytes → HasVersion bytes v → IsEmpty (key_faults bytes)
empty-key bytes v key version = empty-key_tests (λ v. none) bytes v key version (λ p r w. w)

-- ---- a header has no fault

pub code_below : (kind : PixelType) → code_of kind ≤ 5
code_below I8 = omega arith
code_below U8 = omega arith
code_below I16 = omega arith
code_below U16 = omega arith
code_below I32 = omega arith
code_below U32 = omega arith

whole_ends : (bytes : List ℕ) (h : Header) → HeadAt bytes h → RangeAt bytes (46 + shift h.version) h.kind h.valid h.least h.greatest → HasNone h.version bytes ⊎ HasEnds h.version bytes
whole_ends bytes h head (inl u) = inr (
  h.least,
  (
    h.greatest,
    (
      (u.1.z_min, (h.kind, (head.kind, u.1.least_in_range))),
      ((subst (λ (place : ℕ). HalfDouble (double_at bytes place) (pos 2 *ℤ h.greatest)) (let t : 46 + shift h.version + 8 ≡ 54 + shift h.version = omega arith in t) u.1.z_max, (h.kind, (head.kind, u.1.greatest_in_range))), u.1.in_order),
    ),
  ),
)
whole_ends bytes h head (inr u) = inl (head.valid ∙ ap pos u.0)

pub ends_least : (v : Version) (bytes : List ℕ) → HasNone v bytes ⊎ HasEnds v bytes → HasNone v bytes ⊎ HasLeast v bytes
ends_least v bytes (inl u) = inl u
ends_least v bytes (inr ends) = inr (ends.0, ends.1.1.0)

values_are : (bytes : List ℕ) (h : Header) → HeadAt bytes h → values_at h.version bytes ≡ pos (h.rows * h.cols * h.depth)
values_are bytes h head =
    (λ i. head.rows i *ℤ head.cols i *ℤ head.depth i) ∙ (let t : pos h.rows *ℤ pos h.cols *ℤ pos h.depth ≡ pos (h.rows * h.cols * h.depth) = omega (arith, ints) in t)

pixels_are : (bytes : List ℕ) (h : Header) → HeadAt bytes h → pixels_at bytes ≡ pos (h.rows * h.cols)
pixels_are bytes h head = (λ i. head.rows i *ℤ head.cols i) ∙ (let t : pos h.rows *ℤ pos h.cols ≡ pos (h.rows * h.cols) = omega (arith, ints) in t)

pub empty-fields : (bytes : List ℕ) (h : Header) → HeadAt bytes h → IsEmpty (field_faults h.version bytes)
empty-fields bytes h head =
    let v = h.version in
    let ends = whole_ends bytes h head head.range in
    let shape = head.shape in
    let code = code_below h.kind in
    let pixels = pixels_are bytes h head in
    empty-choice (pos 1 ≤ℤ i32_at bytes 14) _ (wrong BadRows 14) (omega (arith, ints, head.rows, shape.rows_above))
    (empty-choice (pos 1 ≤ℤ i32_at bytes 18) _ (wrong BadCols 18) (omega (arith, ints, head.cols, shape.cols_above))
    (empty-choice (IsWithin (pos 1) (pos 65536) (depth_at v bytes)) _ (wrong BadDepth 22) (omega (arith, ints, head.depth, shape.depth_above), omega (arith, ints, head.depth, shape.depth_below))
    (empty-choice (values_at v bytes ≤ℤ pos 16777216) _ (wrong TooLarge (18 + shift v)) (subst (λ (n : ℤ). n ≤ℤ pos 16777216) (sym (values_are bytes h head)) (omega (arith, ints, shape.size)))
    (empty-choice (IsWithin (pos 0) (pixels_at bytes) (i32_at bytes (22 + shift v))) _ (wrong BadCount (22 + shift v))
    (omega (arith, ints, head.valid), subst (λ (n : ℤ). i32_at bytes (22 + shift v) ≤ℤ n) (sym pixels) (omega (arith, ints, head.valid, head.valid_below)))
    (empty-choice (pos 1 ≤ℤ i32_at bytes (26 + shift v)) _ (wrong BadBlockSize (26 + shift v)) (omega (arith, ints, head.side, head.side_above))
    (empty-choice (IsWithin (pos (head_length v + 4)) (pos 134217728) (i32_at bytes (30 + shift v))) _ (wrong BadBlobSize (30 + shift v)) (omega (arith, ints, head.size, head.size_above), omega (arith, ints, head.size, head.size_below))
    (empty-choice (¬ IsWithin (pos 6) (pos 7) (i32_at bytes (34 + shift v))) _ (wrong FloatPixels (34 + shift v)) (λ within. absurd (omega (arith, ints, head.kind, code, within.0)))
    (empty-choice (IsWithin (pos 0) (pos 5) (i32_at bytes (34 + shift v))) _ (wrong BadType (34 + shift v)) (omega (arith, ints, head.kind), omega (arith, ints, head.kind, code))
    (empty-choice (HasStep v bytes) _ (wrong BadError (38 + shift v)) (h.step, (head.step, head.step_allowed))
    (empty-choice (HasNone v bytes ⊎ HasLeast v bytes) _ (wrong BadRange (46 + shift v)) (ends_least v bytes ends)
    (empty-choice (HasNone v bytes ⊎ HasEnds v bytes) none (wrong BadRange (54 + shift v)) ends (λ p r w. w))))))))))))

pub empty-header : (bytes : List ℕ) (h : Header) → HeadAt bytes h → IsEmpty (header_faults bytes)
empty-header bytes h head =
    empty-choice (10 ≤ length bytes) _ (wrong Truncated (length bytes)) (omega (arith, head.long))
    (empty-key_tests (λ v. whole_faults v bytes) bytes h.version head.key head.version
    (empty-choice (head_length h.version ≤ length bytes) (field_faults h.version bytes) (wrong Truncated (length bytes)) head.long (empty-fields bytes h head)))
