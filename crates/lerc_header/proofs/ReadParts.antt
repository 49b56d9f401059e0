-- The parts of the reader, put together.
use Rattle.std.proofs.Common.{◌≡◌, ℕ, ℤ, pos, ◌+◌, ◌*◌, ◌<◌, ◌≤◌, ◌≤ℤ◌, ◌*ℤ◌, List, refl, sym, ap, ◌∙◌, subst, arith, ◌⊎◌, inl, inr, ◌↔◌, Result, Ok, Err, IfOk}
use Rattle.std.specs.Prelude.{IfErr, IsErrAnd}
use Rattle.std.proofs.lemmas.Int.{ints}
use Rattle.raster_cells.specs.declared.kind.PixelType.{PixelType}
use Rattle.raster_cells.specs.PixelType.{InRange}
use Rattle.double_bits.specs.Halves.{HalfDouble}
use Rattle.double_bits.proofs.OneHalf.{one_half}
use Rattle.lerc_header.specs.declared.fault.BlobReason.{BlobReason}
use Rattle.lerc_header.specs.declared.fault.BlobReason.TheVariants.{BadRange}
use Rattle.lerc_header.specs.declared.fault.BlobFault.{BlobFault}
use Rattle.lerc_header.specs.declared.header.Version.{Version}
use Rattle.lerc_header.specs.declared.header.Version.TheVariants.{V3, V4}
use Rattle.lerc_header.specs.declared.header.Header.{Header}
use Rattle.lerc_header.specs.declared.reading.Shape.{Shape}
use Rattle.lerc_header.specs.declared.reading.Counts.{Counts}
use Rattle.lerc_header.specs.Head.{HeadAt, RangeAt, i32_at, double_at, shift}
use Rattle.lerc_header.specs.HeadFaults.{HasKind, pixels_at, values_at, HasLeast, HasEnds, HasNone, HasKey, HasVersion, field_faults, key_faults, header_faults}
use Rattle.lerc_header.specs.inside.Parts.{IsShapeAt, AreCountsAt, IsStepAt}
use Rattle.lerc_header.specs.inside.Tails.{count_faults, kind_faults, step_faults, range_faults}
use Rattle.lerc_header.proofs.FaultLemmas.{code_below, single-header, single-key, empty-header, empty-key, one_version}
use Rattle.lerc_header.proofs.HeadLemmas.{number_once, kind_once, one_head}

pub shift_below : (v : Version) → shift v ≤ 4
shift_below V3 = omega arith
shift_below V4 = omega arith

-- ---- a fault behind fields that stand

pub pixels_found : (v : Version) (bytes : List ℕ) (s : Shape) → IsShapeAt v bytes s → pixels_at bytes ≡ pos (s.rows * s.cols)
pixels_found v bytes s is = (λ i. is.rows i *ℤ is.cols i) ∙ (let t : pos s.rows *ℤ pos s.cols ≡ pos (s.rows * s.cols) = omega (arith, ints) in t)

values_found : (v : Version) (bytes : List ℕ) (s : Shape) → IsShapeAt v bytes s → values_at v bytes ≡ pos (s.rows * s.cols * s.depth)
values_found v bytes s is =
    (λ i. is.rows i *ℤ is.cols i *ℤ is.depth i) ∙ (let t : pos s.rows *ℤ pos s.cols *ℤ pos s.depth ≡ pos (s.rows * s.cols * s.depth) = omega (arith, ints) in t)

pub behind_shape : (v : Version) (bytes : List ℕ) (s : Shape) → IsShapeAt v bytes s → (p : ℕ) (r : BlobReason) → count_faults v bytes p r → field_faults v bytes p r
behind_shape v bytes s is p r w =
    inl (
      omega (arith, ints, is.rows, is.shape.rows_above),
      inl (
        omega (arith, ints, is.cols, is.shape.cols_above),
        inl (
          (omega (arith, ints, is.depth, is.shape.depth_above), omega (arith, ints, is.depth, is.shape.depth_below)),
          inl (subst (λ (n : ℤ). n ≤ℤ pos 16777216) (sym (values_found v bytes s is)) (omega (arith, ints, is.shape.size)), w),
        ),
      ),
    )

pub behind_counts : (v : Version) (bytes : List ℕ) (s : Shape) (c : Counts) → IsShapeAt v bytes s → AreCountsAt v bytes s c → (p : ℕ) (r : BlobReason) → kind_faults v bytes p r → count_faults v bytes p r
behind_counts v bytes s c is are p r w =
    inl (
      (omega (arith, ints, are.valid), subst (λ (n : ℤ). i32_at bytes (22 + shift v) ≤ℤ n) (sym (pixels_found v bytes s is)) (omega (arith, ints, are.valid, are.valid_below))),
      inl (
        omega (arith, ints, are.side, are.side_above),
        inl ((omega (arith, ints, are.size, are.size_above), omega (arith, ints, are.size, are.size_below)), w),
      ),
    )

pub behind_kind : (v : Version) (bytes : List ℕ) (kind : PixelType) → HasKind v bytes kind → (p : ℕ) (r : BlobReason) → step_faults v bytes p r → kind_faults v bytes p r
behind_kind v bytes kind has p r w =
    let code = code_below kind in
    inl (
      (λ within. absurd (omega (arith, ints, has, code, within.0))),
      inl ((omega (arith, ints, has), omega (arith, ints, has, code)), w),
    )

pub behind_step : (v : Version) (bytes : List ℕ) (step : ℕ) → IsStepAt v bytes step → (p : ℕ) (r : BlobReason) → range_faults v bytes p r → step_faults v bytes p r
behind_step v bytes step is p r w = inl ((step, (is.there, is.allowed)), w)

-- ---- zMin and zMax

-- the double at a place is this value of the type
abbrev pub IsValueAt : List ℕ → ℕ → PixelType → ℤ → Type 0
IsValueAt bytes place kind z = HalfDouble (double_at bytes place) (pos 2 *ℤ z) × InRange kind z

some_valid : (v : Version) (bytes : List ℕ) (valid : ℕ) → i32_at bytes (22 + shift v) ≡ pos valid → (valid ≡ 0 → ⊥) → HasNone v bytes → ⊥
some_valid v bytes valid is some none = some (number_once _ _ _ is none)

pub not_least : (v : Version) (bytes : List ℕ) (kind : PixelType) → HasKind v bytes kind → (HasNone v bytes → ⊥)
    → ((z : ℤ) → IsValueAt bytes (46 + shift v) kind z → ⊥) → HasNone v bytes ⊎ HasLeast v bytes → ⊥
not_least v bytes kind has some none (inl u) = some u
not_least v bytes kind has some none (inr u) =
    let same = kind_once u.1.1.0 kind (number_once _ _ _ u.1.1.1.0 has) in
    none u.0 (u.1.0, subst (λ k. InRange k u.0) same u.1.1.1.1)

-- no value is both zMax and not below zMin
pub not_ends : (v : Version) (bytes : List ℕ) (kind : PixelType) (least : ℤ) → HasKind v bytes kind → (HasNone v bytes → ⊥) → IsValueAt bytes (46 + shift v) kind least
    → ((z : ℤ) → IsValueAt bytes (54 + shift v) kind z → least ≤ℤ z → ⊥) → HasNone v bytes ⊎ HasEnds v bytes → ⊥
not_ends v bytes kind least has some is none (inl u) = some u
not_ends v bytes kind least has some is none (inr u) =
    let low : pos 2 *ℤ u.0 ≡ pos 2 *ℤ least = one_half _ _ _ u.1.1.0.0 is.0 in
    let high = u.1.1.1.0 in
    let same = kind_once high.1.0 kind (number_once _ _ _ high.1.1.0 has) in
    none u.1.0 (high.0, subst (λ k. InRange k u.1.0) same high.1.1.1) (omega (arith, ints, low, u.1.1.1.1))

pub no_least : (v : Version) (bytes : List ℕ) (kind : PixelType) (valid s : ℕ) → s ≡ shift v → HasKind v bytes kind → i32_at bytes (22 + shift v) ≡ pos valid → (valid ≡ 0 → ⊥)
    → ((z : ℤ) → IsValueAt bytes (46 + s) kind z → ⊥) → range_faults v bytes (46 + s) BadRange
no_least v bytes kind valid s at has is some none =
    inr (not_least v bytes kind has (some_valid v bytes valid is some) (λ z u. none z (subst (λ k. IsValueAt bytes (46 + k) kind z) (sym at) u)), (ap (λ k. 46 + k) at, refl))

pub no_greatest : (v : Version) (bytes : List ℕ) (kind : PixelType) (valid s : ℕ) (least : ℤ) → s ≡ shift v → HasKind v bytes kind → i32_at bytes (22 + shift v) ≡ pos valid → (valid ≡ 0 → ⊥)
    → IsValueAt bytes (46 + s) kind least → ((z : ℤ) → IsValueAt bytes (46 + s + 8) kind z → least ≤ℤ z → ⊥) → range_faults v bytes (46 + s + 8) BadRange
no_greatest v bytes kind valid s least at has is some low none =
    let place : 46 + s + 8 ≡ 54 + shift v = omega (arith, at) in
    let there : IsValueAt bytes (46 + shift v) kind least = subst (λ k. IsValueAt bytes (46 + k) kind least) at low in
    inl (
      inr (least, (there.0, (kind, (has, there.1)))),
      inr (not_ends v bytes kind least has (some_valid v bytes valid is some) there (λ z u. none z (subst (λ k. IsValueAt bytes k kind z) (sym place) u)), (place, refl)),
    )

pub range_found : (v : Version) (bytes : List ℕ) (kind : PixelType) (valid s : ℕ) (least greatest : ℤ) → s ≡ shift v → 0 < valid
    → IsValueAt bytes (46 + s) kind least → IsValueAt bytes (46 + s + 8) kind greatest → least ≤ℤ greatest → RangeAt bytes (46 + shift v) kind valid least greatest
range_found v bytes kind valid s least greatest at some low high ordered =
    subst (λ k. RangeAt bytes (46 + k) kind valid least greatest) at
    (inl (some, record { z_min = low.0; least_in_range = low.1; z_max = high.0; greatest_in_range = high.1; in_order = ordered }))

-- ---- the answer

-- a callee's fault that is handed on
pub handed_on : {A E : Type 0} (P : E → Type 0) (r : Result A E) (e : E) → IsErrAnd r (λ f. f ≡ e) → P e → IfErr r P
handed_on P (Ok x) e is w = tt
handed_on P (Err f) e is w = subst P (sym is) w

-- it is no answer of another kind
pub no_answer : {A E : Type 0} (P : A → Type 0) (r : Result A E) (e : E) → IsErrAnd r (λ f. f ≡ e) → IfOk r P
no_answer P (Ok x) e is = absurd is
no_answer P (Err f) e is = tt

pub if_err : {A E : Type 0} (P Q : E → Type 0) (r : Result A E) → ((e : E) → P e → Q e) → IfErr r P → IfErr r Q
if_err P Q (Ok x) gives w = tt
if_err P Q (Err e) gives w = gives e w

pub if_ok : {A E : Type 0} (P Q : A → Type 0) (r : Result A E) → ((x : A) → P x → Q x) → IfOk r P → IfOk r Q
if_ok P Q (Ok x) gives w = gives x w
if_ok P Q (Err e) gives w = tt

abbrev pub IsFaultOf : List ℕ → BlobFault → Type 0
IsFaultOf bytes f = header_faults bytes f.place f.reason

pub exact_ok : (bytes : List ℕ) (r : Result Header BlobFault) → IfOk r (HeadAt bytes) → IfErr r (IsFaultOf bytes) → (h : Header) → (r ≡ Ok h) ↔ HeadAt bytes h
exact_ok bytes (Ok g) has fault h = (
  λ is. let same : g ≡ h = cc in subst (HeadAt bytes) same has,
  λ head. ap Ok (one_head bytes g h has head),
)
exact_ok bytes (Err f) has fault h = (λ is. cc, λ head. absurd (empty-header bytes h head f.place f.reason fault))

pub exact_err : (bytes : List ℕ) (r : Result Header BlobFault) → IfOk r (HeadAt bytes) → IfErr r (IsFaultOf bytes) → (f : BlobFault) → (r ≡ Err f) ↔ IsFaultOf bytes f
exact_err bytes (Ok g) has fault f = (λ is. cc, λ w. absurd (empty-header bytes g has f.place f.reason w))
exact_err bytes (Err g) has fault f = (
  λ is. let same : g ≡ f = cc in subst (IsFaultOf bytes) same fault,
  λ w. let one = single-header bytes g.place f.place g.reason f.reason fault w in λ i. Err (record { reason = one.1 i; place = one.0 i }),
)

-- the same of key and version
pub key_exact_ok : (bytes : List ℕ) (r : Result Version BlobFault) → IfOk r (λ v. HasKey bytes × HasVersion bytes v) → IfErr r (λ f. key_faults bytes f.place f.reason)
    → (v : Version) → (r ≡ Ok v) ↔ (HasKey bytes × HasVersion bytes v)
key_exact_ok bytes (Ok w) has fault v = (
  λ is. let same : w ≡ v = cc in subst (λ u. HasKey bytes × HasVersion bytes u) same has,
  λ both. ap Ok (one_version bytes w v has.1 both.1),
)
key_exact_ok bytes (Err f) has fault v = (λ is. cc, λ both. absurd (empty-key bytes v both.0 both.1 f.place f.reason fault))

pub key_exact_err : (bytes : List ℕ) (r : Result Version BlobFault) → IfOk r (λ v. HasKey bytes × HasVersion bytes v) → IfErr r (λ f. key_faults bytes f.place f.reason)
    → (f : BlobFault) → (r ≡ Err f) ↔ key_faults bytes f.place f.reason
key_exact_err bytes (Ok v) has fault f = (λ is. cc, λ w. absurd (empty-key bytes v has.0 has.1 f.place f.reason w))
key_exact_err bytes (Err g) has fault f = (
  λ is. let same : g ≡ f = cc in subst (λ (e : BlobFault). key_faults bytes e.place e.reason) same fault,
  λ w. let one = single-key bytes g.place f.place g.reason f.reason fault w in λ i. Err (record { reason = one.1 i; place = one.0 i }),
)
