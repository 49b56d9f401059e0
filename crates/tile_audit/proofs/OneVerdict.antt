-- The bytes of a tile have one verdict at most.
use Rattle.std.proofs.Common.{◌≡◌, inl, inr, ℕ, ◌+◌, ◌*◌, ◌<◌, ◌≤◌, List, [], ◌∷◌, length, take, refl, sym, ap, subst, ◌∙◌, arith}
use mathlib.Core.HLevel.{is_prop→PathP}
use native.Mathlib.Bridge.{le_prop}
use Rattle.std.specs.Prelude.{codes}
use Rattle.std.proofs.lemmas.List.{take_all}
use Rattle.std.proofs.lemmas.List.Elements.{All-nil}
use Rattle.raster_values.specs.Raster.{IsRaster, Pixels}
use Rattle.lerc_header.specs.declared.fault.BlobReason.TheVariants.{BadVersion, FloatPixels}
use Rattle.lerc_header.specs.declared.header.Header.{Header}
use Rattle.lerc_header.specs.declared.header.Version.{Version}
use Rattle.lerc_header.specs.Head.{HeadAt, head_length, shift}
use Rattle.lerc_header.specs.HeadFaults.{HasKey}
use Rattle.lerc_header.proofs.FaultLemmas.{empty-header}
use Rattle.lerc_header.proofs.Prefixes.{head_more}
use Rattle.lerc_grammar.specs.declared.bands.BandReason.{BandReason}
use Rattle.lerc_grammar.specs.declared.bands.BandReason.TheVariants.{Blob as OfBlob}
use Rattle.lerc_grammar.specs.Bands.{BandsBlob, BandsFaultAt, in_blob}
use Rattle.lerc_grammar.specs.Verdict.{of_field}
use Rattle.lerc_grammar.proofs.WholeBands.{bands_or_fault, one_list, one_whole_fault}
use Rattle.tile_audit.specs.declared.judged.Judged.{Judged}
use Rattle.tile_audit.specs.declared.judged.Judged.TheVariants.{Whole, Summed, Foreign, Unread, Damaged}
use Rattle.tile_audit.specs.declared.judged.Shape.{Shape}
use Rattle.tile_audit.specs.Sums.{AreSummed, IsFloatHead, IsFloats}
use Rattle.tile_audit.specs.Verdicts.{IsForeign, IsJudged, IsShapeOf, IsUnread, damages}
use Rattle.tile_audit.proofs.Floats.{float_fields, found_so, in_take}
use Rattle.tile_audit.proofs.OneSum.{sum_fault_once, summed_floats, summed_none}

-- ---- what begins with a header

pub keyed : (bytes : List ℕ) → HasKey bytes → 6 ≤ length bytes → ¬ IsForeign bytes
keyed bytes key long = λ foreign. foreign (key ∙ sym (take_all (length bytes) (codes "Lerc2 ") (omega (arith, long))))

pub floats_keyed : (bytes : List ℕ) → IsFloats bytes → ¬ IsForeign bytes
floats_keyed bytes (v, head) = let is = found_so v bytes head in keyed bytes is.key (omega (arith, is.long))

-- the first blob of bands has a header
pub whole_head : (bytes : List ℕ) (bands : List Pixels) → BandsBlob bytes bands → (h : Header) × HeadAt bytes h
whole_head bytes [] whole = absurd (omega (arith, whole.0.0))
whole_head bytes (r ∷ more) whole =
    let (front, (rest, (joined, (blob, behind)))) = whole.1 in
    let h = blob.1.0 in
    (h, subst (λ l. HeadAt l h) (sym joined) (head_more front rest h blob.1.1.1.head_stands))

whole_keyed : (bytes : List ℕ) (bands : List Pixels) → BandsBlob bytes bands → ¬ IsForeign bytes
whole_keyed bytes bands whole = let (h, head) = whole_head bytes bands whole in keyed bytes head.key (omega (arith, head.long))

whole_none : (bytes : List ℕ) (bands : List Pixels) → BandsBlob bytes bands → IsFloats bytes → ⊥
whole_none bytes bands whole (v, float) = let (h, head) = whole_head bytes bands whole in empty-header bytes h head (34 + shift v) FloatPixels float.float

-- what is wrong first with such blobs, read as bands
pub float_fault : (v : Version) (bytes : List ℕ) → IsFloatHead v bytes → BandsFaultAt bytes (34 + shift v) (OfBlob FloatPixels)
float_fault v bytes head =
    let is = found_so v bytes head in
    let short = found_so v (take (head_length v) bytes) (in_take v (head_length v) bytes (omega arith) is.long head) in
    record {
      bands = [];
      front = [];
      rest = bytes;
      joined = refl;
      may_be = record { few = omega arith; sound = All-nil IsRaster; like = tt };
      stand = refl;
      next = (34 + shift v, (omega arith, inl (inl refl, inl (in_blob FloatPixels (λ h at p r w. w) (of_field v is.long short.key short.version (float_fields v (take (head_length v) bytes) (34 + shift v) short)) refl))));
    }

floats_read : (bytes : List ℕ) → IsFloats bytes → BandsFaultAt bytes 6 (OfBlob BadVersion) → ⊥
floats_read bytes (v, head) fault =
    let e = (one_whole_fault bytes (34 + shift v) 6 (OfBlob FloatPixels) (OfBlob BadVersion) (float_fault v bytes head) fault).0 in omega (arith, e)

-- ---- one verdict

shape_once : (bands : List Pixels) (s t : Shape) → 0 < length bands → IsShapeOf bands s → IsShapeOf bands t → s ≡ t
shape_once [] s t some x y = absurd (omega (arith, some))
shape_once (r ∷ more) s t some x y =
    let a = x.each 0 r (omega arith) in
    let b = y.each 0 r (omega arith) in
    let rows = a.rows ∙ sym b.rows in
    let cols = a.cols ∙ sym b.cols in
    let count = x.count ∙ sym y.count in λ i. record {
      kind = (a.kind ∙ sym b.kind) i;
      rows = rows i;
      cols = cols i;
      depth = (a.depth ∙ sym b.depth) i;
      bands = count i;
      valid = (x.valid ∙ sym y.valid) i;
      few = is_prop→PathP (λ j. rows j * cols j * count j ≤ 16777216) (λ j. le_prop) s.few t.few i;
    }

whole_refused : (bytes : List ℕ) (bands : List Pixels) (p : ℕ) (r : BandReason) → BandsBlob bytes bands → BandsFaultAt bytes p r → ⊥
whole_refused bytes bands p r whole fault = bands_or_fault bytes bands p r whole fault

damaged_keyed : (bytes : List ℕ) (p : ℕ) (r : BandReason) → damages bytes p r → ¬ IsForeign bytes
damaged_keyed bytes p r (inl (floats, fault)) = floats_keyed bytes floats
damaged_keyed bytes p r (inr (not, fault)) = fault.0

whole_damaged : (bytes : List ℕ) (bands : List Pixels) (p : ℕ) (r : BandReason) → BandsBlob bytes bands → damages bytes p r → ⊥
whole_damaged bytes bands p r whole (inl (floats, fault)) = whole_none bytes bands whole floats
whole_damaged bytes bands p r whole (inr (not, fault)) = whole_refused bytes bands p r whole fault.1.1

summed_damaged : (bytes : List ℕ) (p : ℕ) (r : BandReason) → AreSummed bytes → damages bytes p r → ⊥
summed_damaged bytes p r summed (inl (floats, fault)) = summed_none bytes p r summed fault
summed_damaged bytes p r summed (inr (not, fault)) = not (summed_floats bytes summed)

unread_damaged : (bytes : List ℕ) (p : ℕ) (r : BandReason) → IsUnread bytes → damages bytes p r → ⊥
unread_damaged bytes p r unread (inl (floats, fault)) = floats_read bytes floats unread.1
unread_damaged bytes p r unread (inr (not, fault)) = fault.1.0 unread

damage_once : (bytes : List ℕ) (p q : ℕ) (a b : BandReason) → damages bytes p a → damages bytes q b → (p ≡ q) × (a ≡ b)
damage_once bytes p q a b (inl (floats, x)) (inl (others, y)) = sum_fault_once bytes p q a b x y
damage_once bytes p q a b (inl (floats, x)) (inr (not, y)) = absurd (not floats)
damage_once bytes p q a b (inr (not, x)) (inl (floats, y)) = absurd (not floats)
damage_once bytes p q a b (inr (not, x)) (inr (nor, y)) = one_whole_fault bytes p q a b x.1.1 y.1.1

pub one_judged : (bytes : List ℕ) (v w : Judged) → IsJudged bytes v → IsJudged bytes w → v ≡ w
one_judged bytes (Whole s) (Whole t) x y =
    let same : x.0 ≡ y.0 = one_list bytes x.0 y.0 x.1.0 y.1.0 in
    ap Whole (shape_once x.0 s t x.1.0.0.0 x.1.1 (subst (λ b. IsShapeOf b t) (sym same) y.1.1))
one_judged bytes (Whole s) Summed x y = absurd (whole_none bytes x.0 x.1.0 (summed_floats bytes y))
one_judged bytes (Whole s) Foreign x y = absurd (whole_keyed bytes x.0 x.1.0 y)
one_judged bytes (Whole s) Unread x y = absurd (whole_refused bytes x.0 6 (OfBlob BadVersion) x.1.0 y.1)
one_judged bytes (Whole s) (Damaged f) x y = absurd (whole_damaged bytes x.0 f.place f.reason x.1.0 y)
one_judged bytes Summed (Whole s) x y = absurd (whole_none bytes y.0 y.1.0 (summed_floats bytes x))
one_judged bytes Summed Summed x y = refl
one_judged bytes Summed Foreign x y = absurd (floats_keyed bytes (summed_floats bytes x) y)
one_judged bytes Summed Unread x y = absurd (floats_read bytes (summed_floats bytes x) y.1)
one_judged bytes Summed (Damaged f) x y = absurd (summed_damaged bytes f.place f.reason x y)
one_judged bytes Foreign (Whole s) x y = absurd (whole_keyed bytes y.0 y.1.0 x)
one_judged bytes Foreign Summed x y = absurd (floats_keyed bytes (summed_floats bytes y) x)
one_judged bytes Foreign Foreign x y = refl
one_judged bytes Foreign Unread x y = absurd (y.0 x)
one_judged bytes Foreign (Damaged f) x y = absurd (damaged_keyed bytes f.place f.reason y x)
one_judged bytes Unread (Whole s) x y = absurd (whole_refused bytes y.0 6 (OfBlob BadVersion) y.1.0 x.1)
one_judged bytes Unread Summed x y = absurd (floats_read bytes (summed_floats bytes y) x.1)
one_judged bytes Unread Foreign x y = absurd (x.0 y)
one_judged bytes Unread Unread x y = refl
one_judged bytes Unread (Damaged f) x y = absurd (unread_damaged bytes f.place f.reason x y)
one_judged bytes (Damaged f) (Whole s) x y = absurd (whole_damaged bytes y.0 f.place f.reason y.1.0 x)
one_judged bytes (Damaged f) Summed x y = absurd (summed_damaged bytes f.place f.reason y x)
one_judged bytes (Damaged f) Foreign x y = absurd (damaged_keyed bytes f.place f.reason x y)
one_judged bytes (Damaged f) Unread x y = absurd (unread_damaged bytes f.place f.reason y x)
one_judged bytes (Damaged f) (Damaged g) x y =
    let same = damage_once bytes f.place g.place f.reason g.reason x y in λ i. Damaged (record { reason = same.1 i; place = same.0 i })
