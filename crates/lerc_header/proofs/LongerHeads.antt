-- A longer list of bytes has the same first fault, but for one of bytes that were cut.
use Rattle.std.proofs.Common.{◌≡◌, ℕ, ℤ, pos, ◌+◌, ◌<◌, ◌≤◌, ◌≤ℤ◌, ◌*ℤ◌, List, ◌++◌, length, take, drop, refl, sym, ◌∙◌, subst, arith, ◌⊎◌, inl, inr}
use Rattle.std.proofs.lemmas.Bool.{cases_lt}
use Rattle.std.proofs.lemmas.List.{length-append, length-take-le, take-append-drop}
use Rattle.first_fault.specs.Faults.{Faults, none, wrong, choice, unless}
use Rattle.raster_cells.specs.declared.kind.PixelType.{PixelType}
use Rattle.raster_cells.specs.PixelType.{InRange, code_of}
use Rattle.double_bits.specs.Halves.{HalfDouble}
use Rattle.lerc_header.specs.declared.fault.BlobReason.{BlobReason}
use Rattle.lerc_header.specs.declared.fault.BlobReason.TheVariants.{Truncated, BadVersion, BadRows, BadCols, BadDepth, TooLarge, BadCount, BadBlockSize, BadBlobSize, FloatPixels, BadType, BadError, BadRange}
use Rattle.lerc_header.specs.declared.header.Version.{Version}
use Rattle.lerc_header.specs.declared.header.Version.TheVariants.{V3, V4}
use Rattle.lerc_header.specs.declared.header.Header.{Header}
use Rattle.raster_cells.specs.Step.{IsTwiceError}
use Rattle.lerc_header.specs.Head.{HeadAt, i32_at, double_at, shift, head_length, depth_at}
use Rattle.lerc_header.specs.HeadFaults.{HasVersion, key_tests, key_faults, IsWithin, field_faults, whole_faults, header_faults}
use Rattle.lerc_header.proofs.FaultLemmas.{in_key_tests}
use Rattle.lerc_header.proofs.Prefixes.{HaveSame, same_front, same_back, same_depth}

-- the numbers that the tests of the fields look at
record FieldNumbers : Type 0 where
  pub rows : ℤ
  pub cols : ℤ
  pub depth : ℤ
  pub valid : ℤ
  pub side : ℤ
  pub size : ℤ
  pub kind : ℤ
  pub error : ℕ
  pub least : ℕ
  pub greatest : ℕ

abbrev numbers_of : Version → List ℕ → FieldNumbers
numbers_of v bytes = record {
  rows = i32_at bytes 14;
  cols = i32_at bytes 18;
  depth = depth_at v bytes;
  valid = i32_at bytes (22 + shift v);
  side = i32_at bytes (26 + shift v);
  size = i32_at bytes (30 + shift v);
  kind = i32_at bytes (34 + shift v);
  error = double_at bytes (38 + shift v);
  least = double_at bytes (46 + shift v);
  greatest = double_at bytes (54 + shift v);
}

abbrev WholeIn : FieldNumbers → ℕ → ℤ → Type 0
WholeIn n bits z = HalfDouble bits (pos 2 *ℤ z) × ((kind : PixelType) × ((n.kind ≡ pos (code_of kind)) × InRange kind z))

-- the fields' faults, by these numbers alone
abbrev number_faults : Version → FieldNumbers → Faults BlobReason
number_faults v n =
    unless (pos 1 ≤ℤ n.rows) (wrong BadRows 14)
    (unless (pos 1 ≤ℤ n.cols) (wrong BadCols 18)
    (unless (IsWithin (pos 1) (pos 65536) n.depth) (wrong BadDepth 22)
    (unless ((n.rows *ℤ n.cols *ℤ n.depth) ≤ℤ pos 16777216) (wrong TooLarge (18 + shift v))
    (unless (IsWithin (pos 0) (n.rows *ℤ n.cols) n.valid) (wrong BadCount (22 + shift v))
    (unless (pos 1 ≤ℤ n.side) (wrong BadBlockSize (26 + shift v))
    (unless (IsWithin (pos (head_length v + 4)) (pos 134217728) n.size) (wrong BadBlobSize (30 + shift v))
    (unless (¬ IsWithin (pos 6) (pos 7) n.kind) (wrong FloatPixels (34 + shift v))
    (unless (IsWithin (pos 0) (pos 5) n.kind) (wrong BadType (34 + shift v))
    (unless ((step : ℕ) × (HalfDouble n.error (pos step) × IsTwiceError step)) (wrong BadError (38 + shift v))
    (unless ((n.valid ≡ pos 0) ⊎ ((least : ℤ) × WholeIn n n.least least)) (wrong BadRange (46 + shift v))
    (unless ((n.valid ≡ pos 0) ⊎ ((least : ℤ) × ((greatest : ℤ) × (WholeIn n n.least least × (WholeIn n n.greatest greatest × (least ≤ℤ greatest)))))) (wrong BadRange (54 + shift v))
    none)))))))))))

same_numbers : (v : Version) (a b : List ℕ) → HaveSame (head_length v) a b → numbers_of v a ≡ numbers_of v b
same_numbers v a b h =
    let rows = h.i32 14 (omega arith) in
    let cols = h.i32 18 (omega arith) in
    let depth = same_depth v a b h in
    let valid = h.i32 (22 + shift v) (omega arith) in
    let side = h.i32 (26 + shift v) (omega arith) in
    let size = h.i32 (30 + shift v) (omega arith) in
    let kind = h.i32 (34 + shift v) (omega arith) in
    let error = h.double (38 + shift v) (omega arith) in
    let least = h.double (46 + shift v) (omega arith) in
    let greatest = h.double (54 + shift v) (omega arith) in
    λ i. record { rows = rows i; cols = cols i; depth = depth i; valid = valid i; side = side i; size = size i; kind = kind i; error = error i; least = least i; greatest = greatest i }

-- the same bytes of a header have the same faults of its fields
pub same_fields : (v : Version) (a b : List ℕ) → HaveSame (head_length v) a b → (p : ℕ) (r : BlobReason) → field_faults v a p r → field_faults v b p r
same_fields v a b h p r w = subst (λ (n : FieldNumbers). number_faults v n p r) (same_numbers v a b h) w

pub same_version : (n : ℕ) (a b : List ℕ) (v : Version) → 10 ≤ n → HaveSame n a b → HasVersion a v → HasVersion b v
same_version n a b v ten h version = sym (h.i32 6 (omega (arith, ten))) ∙ version

-- the faults of key and version, and what is behind them, by the same ten bytes
pub same_key_tests : (behind also : Version → Faults BlobReason) (a b : List ℕ) → HaveSame 10 a b → (p : ℕ) (r : BlobReason) → ((v : Version) → behind v p r → also v p r) → key_tests behind a p r → key_tests also b p r
same_key_tests behind also a b h p r gives (inr w) = inr (λ key. w.0 (h.key ∙ key), w.1)
same_key_tests behind also a b h p r gives (inl w) = inl (sym h.key ∙ w.0, versions behind also a b h p r gives w.1)
  where
    later : (behind also : Version → Faults BlobReason) (a b : List ℕ) → HaveSame 10 a b → (p : ℕ) (r : BlobReason) → ((v : Version) → behind v p r → also v p r) → choice (HasVersion a V4) (behind V4) (wrong BadVersion 6) p r → choice (HasVersion b V4) (also V4) (wrong BadVersion 6) p r
    later behind also a b h p r gives (inl u) = inl (same_version 10 a b V4 (omega arith) h u.0, gives V4 u.1)
    later behind also a b h p r gives (inr u) = inr (λ is. u.0 (same_version 10 b a V4 (omega arith) (same_back 10 a b h) is), u.1)

    versions : (behind also : Version → Faults BlobReason) (a b : List ℕ) → HaveSame 10 a b → (p : ℕ) (r : BlobReason) → ((v : Version) → behind v p r → also v p r) → choice (HasVersion a V3) (behind V3) (choice (HasVersion a V4) (behind V4) (wrong BadVersion 6)) p r
        → choice (HasVersion b V3) (also V3) (choice (HasVersion b V4) (also V4) (wrong BadVersion 6)) p r
    versions behind also a b h p r gives (inl u) = inl (same_version 10 a b V3 (omega arith) h u.0, gives V3 u.1)
    versions behind also a b h p r gives (inr u) = inr (λ is. u.0 (same_version 10 b a V3 (omega arith) (same_back 10 a b h) is), later behind also a b h p r gives u.1)

-- key and version are decided by the first ten bytes
pub same_key : (a b : List ℕ) → HaveSame 10 a b → (p : ℕ) (r : BlobReason) → key_faults a p r → key_faults b p r
same_key a b h p r w = same_key_tests (λ v. none) (λ v. none) a b h p r (λ v u. u) w

longer_whole : (v : Version) (a s : List ℕ) (p : ℕ) (r : BlobReason) → (r ≡ Truncated → ⊥) → whole_faults v a p r → whole_faults v (a ++ s) p r
longer_whole v a s p r other (inl w) = inl (omega (arith, w.0, length-append a s), same_fields v a (a ++ s) (same_front (head_length v) a s (omega arith) w.0) p r w.1)
longer_whole v a s p r other (inr w) = absurd (other w.1.1)

pub fault_more : (a s : List ℕ) (p : ℕ) (r : BlobReason) → (r ≡ Truncated → ⊥) → header_faults a p r → header_faults (a ++ s) p r
fault_more a s p r other (inl w) =
    inl (
      omega (arith, w.0, length-append a s),
      same_key_tests (λ v. whole_faults v a) (λ v. whole_faults v (a ++ s)) a (a ++ s) (same_front 10 a s (omega arith) w.0) p r (λ v u. longer_whole v a s p r other u) w.1,
    )
fault_more a s p r other (inr w) = absurd (other w.1.1)

-- fewer bytes than a header has are cut
cut_at : (n : ℕ) (a s : List ℕ) (h : Header) → length a ≡ n → HeadAt (a ++ s) h → n < head_length h.version → 10 ≤ n → header_faults a n Truncated
cut_at n a s h long head few ten =
    let same = same_back 10 a (a ++ s) (same_front 10 a s (omega arith) (omega (arith, ten, long))) in
    inl (
      omega (arith, long, ten),
      in_key_tests (λ v. whole_faults v a) a h.version (sym same.key ∙ head.key) (same_version 10 (a ++ s) a h.version (omega arith) same head.version) n Truncated
          (inr (λ whole. omega (arith, whole, long, few), (sym long, refl))),
    )

cut_early : (n : ℕ) (a : List ℕ) → length a ≡ n → n < 10 → header_faults a n Truncated
cut_early n a long few = inr (λ ten. omega (arith, ten, long, few), (sym long, refl))

pub cut_head : (n : ℕ) (bytes : List ℕ) (h : Header) → HeadAt bytes h → n < head_length h.version → header_faults (take n bytes) n Truncated
cut_head n bytes h head few = go (cases_lt n 10)
  where
    long : length (take n bytes) ≡ n
    long = length-take-le n bytes (omega (arith, few, head.long))

    go : (n < 10) ⊎ (10 ≤ n) → header_faults (take n bytes) n Truncated
    go (inl early) = cut_early n (take n bytes) long early
    go (inr ten) = cut_at n (take n bytes) (drop n bytes) h long (subst (λ u. HeadAt u h) (sym (take-append-drop n bytes)) head) few ten

-- ---- key and version, and the other fields, on their own

pub key_more : (a s : List ℕ) (p : ℕ) (r : BlobReason) → 10 ≤ length a → key_faults a p r → key_faults (a ++ s) p r
key_more a s p r long w = same_key a (a ++ s) (same_front 10 a s (omega arith) long) p r w

pub fields_more : (v : Version) (a s : List ℕ) (p : ℕ) (r : BlobReason) → head_length v ≤ length a → field_faults v a p r → field_faults v (a ++ s) p r
fields_more v a s p r long w = same_fields v a (a ++ s) (same_front (head_length v) a s (omega arith) long) p r w
