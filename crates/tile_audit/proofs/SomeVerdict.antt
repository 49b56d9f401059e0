-- The bytes of a tile have a verdict.
use Rattle.std.proofs.Common.{◌≡◌, ◌≢◌, ◌⊎◌, inl, inr, ℕ, zero, suc, pos, ◌+◌, ◌<◌, ◌≤◌, List, [], ◌∷◌, ◌++◌, All, get_or, length, take, drop, refl, sym, ap, subst, ◌∙◌, arith}
use Rattle.std.specs.Prelude.{codes, sum_by}
use Rattle.std.specs.List.{concat}
use Rattle.std.proofs.lemmas.Bool.{cases_eq, cases_lt}
use Rattle.std.proofs.lemmas.List.{append-nil, append_assoc, length-drop, length-take-le, take-append-drop}
use Rattle.std.proofs.lemmas.List.Elements.{All-cons, All-nil}
use Rattle.first_fault.specs.Parts.{AreBytes, HasFault}
use Rattle.raster_values.specs.Bands.{AreBands}
use Rattle.raster_values.specs.Raster.{Pixels, valid_count}
use Rattle.lerc_header.specs.declared.fault.BlobReason.{BlobReason}
use Rattle.lerc_header.specs.declared.fault.BlobReason.TheVariants.{Truncated, BadKey, BadVersion, BadRows, BadCols, BadDepth, TooLarge, BadCount, BadBlockSize, BadBlobSize, FloatPixels, BadType, BadError, BadRange, BadChecksum, BadMaskLength, BadRun, BadMaskCount, MaskMissing, BadSweep, BadMode, BadBlockTag, BadOffsetCode, BadListHead, BadListCount, BadTable, BadIndex, BadCodeTable, NoCode, PastEnd, Leftover}
use Rattle.lerc_header.specs.declared.header.Header.{Header}
use Rattle.lerc_header.specs.declared.header.Version.{Version}
use Rattle.lerc_header.specs.Checksum.{sum_of}
use Rattle.lerc_header.specs.Head.{HeadAt, head_length, i32_at, shift, u32_at}
use Rattle.lerc_header.specs.HeadFaults.{HasKey, header_faults}
use Rattle.lerc_header.proofs.DecidedHeads.{header_or_fault}
use Rattle.lerc_header.proofs.FaultLemmas.{empty-header, single-header}
use Rattle.lerc_header.proofs.Prefixes.{HaveSame, same_front}
use Rattle.lerc_grammar.specs.declared.bands.BandReason.{BandReason}
use Rattle.lerc_grammar.specs.declared.bands.BandReason.TheVariants.{Blob as OfBlob, BadBand}
use Rattle.lerc_grammar.specs.Bands.{BandsFaultAt, BandsVerdict, Decoded, IsBandsVerdict, Refused}
use Rattle.lerc_grammar.proofs.BandsDecided.{some_bands_verdict}
use Rattle.lerc_grammar.proofs.WholeBands.{one_whole_fault}
use Rattle.tile_audit.specs.declared.judged.Judged.{Judged}
use Rattle.tile_audit.specs.declared.judged.Judged.TheVariants.{Whole, Summed, Foreign, Unread, Damaged}
use Rattle.tile_audit.specs.declared.judged.Shape.{Shape}
use Rattle.tile_audit.specs.Sums.{FloatFault, IsFloatHead, IsFloats, IsNext, IsSummed, in_bytes, in_head, next_sum_faults, of_wholes, size_faults}
use Rattle.tile_audit.specs.Verdicts.{IsForeign, IsJudged, IsOfShape, IsShapeOf, IsUnread}
use Rattle.tile_audit.proofs.Shapes.{few_pixels}
use Rattle.tile_audit.proofs.Floats.{found, in_take, is_head, sized}

-- ---- tests that are decided

list_dec : (xs ys : List ℕ) → (xs ≡ ys) ⊎ (¬ (xs ≡ ys))
list_dec [] [] = inl refl
list_dec [] (y ∷ ys) = inr (λ e. (let bad : ⊥ = cc in bad))
list_dec (x ∷ xs) [] = inr (λ e. (let bad : ⊥ = cc in bad))
list_dec (x ∷ xs) (y ∷ ys) = both (cases_eq x y) (list_dec xs ys)
  where
    both : (x ≡ y) ⊎ (x ≢ y) → (xs ≡ ys) ⊎ (¬ (xs ≡ ys)) → (x ∷ xs ≡ y ∷ ys) ⊎ (¬ (x ∷ xs ≡ y ∷ ys))
    both (inl e) (inl es) = inl (λ i. e i ∷ es i)
    both (inl e) (inr not) = inr (λ same. not (ap (λ l. drop 1 l) same))
    both (inr not) es = inr (λ same. not (ap (λ l. get_or l 0 0) same))

is_float : (why : BlobReason) → (why ≡ FloatPixels) ⊎ (why ≢ FloatPixels)
is_float Truncated = inr (λ e. (let bad : ⊥ = cc in bad))
is_float BadKey = inr (λ e. (let bad : ⊥ = cc in bad))
is_float BadVersion = inr (λ e. (let bad : ⊥ = cc in bad))
is_float BadRows = inr (λ e. (let bad : ⊥ = cc in bad))
is_float BadCols = inr (λ e. (let bad : ⊥ = cc in bad))
is_float BadDepth = inr (λ e. (let bad : ⊥ = cc in bad))
is_float TooLarge = inr (λ e. (let bad : ⊥ = cc in bad))
is_float BadCount = inr (λ e. (let bad : ⊥ = cc in bad))
is_float BadBlockSize = inr (λ e. (let bad : ⊥ = cc in bad))
is_float BadBlobSize = inr (λ e. (let bad : ⊥ = cc in bad))
is_float FloatPixels = inl refl
is_float BadType = inr (λ e. (let bad : ⊥ = cc in bad))
is_float BadError = inr (λ e. (let bad : ⊥ = cc in bad))
is_float BadRange = inr (λ e. (let bad : ⊥ = cc in bad))
is_float (BadChecksum stored computed) = inr (λ e. (let bad : ⊥ = cc in bad))
is_float BadMaskLength = inr (λ e. (let bad : ⊥ = cc in bad))
is_float BadRun = inr (λ e. (let bad : ⊥ = cc in bad))
is_float (BadMaskCount header counted) = inr (λ e. (let bad : ⊥ = cc in bad))
is_float MaskMissing = inr (λ e. (let bad : ⊥ = cc in bad))
is_float BadSweep = inr (λ e. (let bad : ⊥ = cc in bad))
is_float BadMode = inr (λ e. (let bad : ⊥ = cc in bad))
is_float BadBlockTag = inr (λ e. (let bad : ⊥ = cc in bad))
is_float BadOffsetCode = inr (λ e. (let bad : ⊥ = cc in bad))
is_float BadListHead = inr (λ e. (let bad : ⊥ = cc in bad))
is_float BadListCount = inr (λ e. (let bad : ⊥ = cc in bad))
is_float BadTable = inr (λ e. (let bad : ⊥ = cc in bad))
is_float BadIndex = inr (λ e. (let bad : ⊥ = cc in bad))
is_float BadCodeTable = inr (λ e. (let bad : ⊥ = cc in bad))
is_float NoCode = inr (λ e. (let bad : ⊥ = cc in bad))
is_float PastEnd = inr (λ e. (let bad : ⊥ = cc in bad))
is_float Leftover = inr (λ e. (let bad : ⊥ = cc in bad))

is_version : (why : BlobReason) → (why ≡ BadVersion) ⊎ (why ≢ BadVersion)
is_version Truncated = inr (λ e. (let bad : ⊥ = cc in bad))
is_version BadKey = inr (λ e. (let bad : ⊥ = cc in bad))
is_version BadVersion = inl refl
is_version BadRows = inr (λ e. (let bad : ⊥ = cc in bad))
is_version BadCols = inr (λ e. (let bad : ⊥ = cc in bad))
is_version BadDepth = inr (λ e. (let bad : ⊥ = cc in bad))
is_version TooLarge = inr (λ e. (let bad : ⊥ = cc in bad))
is_version BadCount = inr (λ e. (let bad : ⊥ = cc in bad))
is_version BadBlockSize = inr (λ e. (let bad : ⊥ = cc in bad))
is_version BadBlobSize = inr (λ e. (let bad : ⊥ = cc in bad))
is_version FloatPixels = inr (λ e. (let bad : ⊥ = cc in bad))
is_version BadType = inr (λ e. (let bad : ⊥ = cc in bad))
is_version BadError = inr (λ e. (let bad : ⊥ = cc in bad))
is_version BadRange = inr (λ e. (let bad : ⊥ = cc in bad))
is_version (BadChecksum stored computed) = inr (λ e. (let bad : ⊥ = cc in bad))
is_version BadMaskLength = inr (λ e. (let bad : ⊥ = cc in bad))
is_version BadRun = inr (λ e. (let bad : ⊥ = cc in bad))
is_version (BadMaskCount header counted) = inr (λ e. (let bad : ⊥ = cc in bad))
is_version MaskMissing = inr (λ e. (let bad : ⊥ = cc in bad))
is_version BadSweep = inr (λ e. (let bad : ⊥ = cc in bad))
is_version BadMode = inr (λ e. (let bad : ⊥ = cc in bad))
is_version BadBlockTag = inr (λ e. (let bad : ⊥ = cc in bad))
is_version BadOffsetCode = inr (λ e. (let bad : ⊥ = cc in bad))
is_version BadListHead = inr (λ e. (let bad : ⊥ = cc in bad))
is_version BadListCount = inr (λ e. (let bad : ⊥ = cc in bad))
is_version BadTable = inr (λ e. (let bad : ⊥ = cc in bad))
is_version BadIndex = inr (λ e. (let bad : ⊥ = cc in bad))
is_version BadCodeTable = inr (λ e. (let bad : ⊥ = cc in bad))
is_version NoCode = inr (λ e. (let bad : ⊥ = cc in bad))
is_version PastEnd = inr (λ e. (let bad : ⊥ = cc in bad))
is_version Leftover = inr (λ e. (let bad : ⊥ = cc in bad))

floats_dec : (bytes : List ℕ) → IsFloats bytes ⊎ (¬ IsFloats bytes)
floats_dec bytes = by (header_or_fault bytes)
  where
    told : (w : HasFault (header_faults bytes)) → (w.reason ≡ FloatPixels) ⊎ (w.reason ≢ FloatPixels) → IsFloats bytes ⊎ (¬ IsFloats bytes)
    told w (inl is) = let (v, f) = found bytes w.place (subst (λ why. header_faults bytes w.place why) is w.fault) in inl (v, is_head v bytes w.place f)
    told w (inr not) = inr (λ floats. not (single-header bytes w.place (34 + shift floats.0) w.reason FloatPixels w.fault floats.1.float).1)

    by : ((h : Header) × HeadAt bytes h) ⊎ HasFault (header_faults bytes) → IsFloats bytes ⊎ (¬ IsFloats bytes)
    by (inl (h, head)) = inr (λ floats. empty-header bytes h head (34 + shift floats.0) FloatPixels floats.1.float)
    by (inr w) = told w (is_float w.reason)

-- ---- one blob

-- a blob stands in front, or is wrong
abbrev Looked : List ℕ → Type 0
Looked rest = ((n : ℕ) × ((0 < n) × ((n ≤ length rest) × IsSummed (take n rest)))) ⊎ HasFault (FloatFault rest)

wrong_size : (v : Version) (n : ℕ) (rest : List ℕ) (place : ℕ) (reason : BandReason) → IsFloatHead v rest → i32_at rest (30 + shift v) ≡ pos n → size_faults rest n place reason → Looked rest
wrong_size v n rest place reason head is faults = inr (record { place = place; reason = reason; fault = in_bytes v n head is faults })

pub stands_so : (v : Version) (n : ℕ) (rest : List ℕ) → IsFloatHead v rest → i32_at rest (30 + shift v) ≡ pos n → head_length v ≤ n → n ≤ length rest → u32_at rest 10 ≡ sum_of (drop 14 (take n rest)) → IsSummed (take n rest)
stands_so v n rest head is above within sum =
    let len = length-take-le n rest within in
    let front : HaveSame (head_length v) (take n rest) rest =
    subst (HaveSame (head_length v) (take n rest)) (take-append-drop n rest) (same_front (head_length v) (take n rest) (drop n rest) (omega arith) (omega (arith, above, len))) in
    (v, record { head = in_take v n rest above within head; size = front.i32 (30 + shift v) (omega arith) ∙ is ∙ ap pos (sym len); sum = front.u32 10 (omega arith) ∙ sum })

look : (rest : List ℕ) → Looked rest
look rest = by (header_or_fault rest)
  where
    by_sum : (v : Version) (n : ℕ) → IsFloatHead v rest → i32_at rest (30 + shift v) ≡ pos n → head_length v + 4 ≤ n → n ≤ length rest → (u32_at rest 10 ≡ sum_of (drop 14 (take n rest))) ⊎ (u32_at rest 10 ≢ sum_of (drop 14 (take n rest))) → Looked rest
    by_sum v n head is above within (inl sum) = inl (n, (omega (arith, above), (within, stands_so v n rest head is (omega (arith, above)) within sum)))
    by_sum v n head is above within (inr not) = wrong_size v n rest _ _ head is (inl (within, inr (not, (refl, refl))))

    by_size : (v : Version) (n : ℕ) → IsFloatHead v rest → i32_at rest (30 + shift v) ≡ pos n → head_length v + 4 ≤ n → (length rest < n) ⊎ (n ≤ length rest) → Looked rest
    by_size v n head is above (inl short) = wrong_size v n rest _ _ head is (inr (λ within. omega (arith, short, within), (refl, refl)))
    by_size v n head is above (inr within) = by_sum v n head is above within (cases_eq (u32_at rest 10) (sum_of (drop 14 (take n rest))))

    of_float : (v : Version) → IsFloatHead v rest → Looked rest
    of_float v head = let s = sized v rest head in by_size v s.size head s.is s.above (cases_lt (length rest) s.size)

    told : (w : HasFault (header_faults rest)) → (w.reason ≡ FloatPixels) ⊎ (w.reason ≢ FloatPixels) → Looked rest
    told w (inl is) = let (v, f) = found rest w.place (subst (λ why. header_faults rest w.place why) is w.fault) in of_float v (is_head v rest w.place f)
    told w (inr not) = inr (record { place = w.place; reason = OfBlob w.reason; fault = in_head w.reason not w.fault refl })

    by : ((h : Header) × HeadAt rest h) ⊎ HasFault (header_faults rest) → Looked rest
    by (inl (h, head)) = inr (record { place = 34 + shift h.version; reason = BadBand; fault = of_wholes h head (refl, refl) })
    by (inr w) = told w (is_float w.reason)

-- ---- all blobs

-- the blobs in front, and what is behind them: nothing, or what is wrong
record Walked (count : ℕ) (bytes : List ℕ) : Type 0 where
  pub blobs : List (List ℕ)
  pub rest : List ℕ
  pub joined : bytes ≡ concat blobs ++ rest
  pub few : count + length blobs ≤ 16
  pub each : All IsSummed blobs
  pub ends : ((rest ≡ []) × (0 < count + length blobs)) ⊎ HasFault (next_sum_faults (count + length blobs) rest)

stop : (count : ℕ) (bytes : List ℕ) → count ≤ 16 → ((bytes ≡ []) × (0 < count)) ⊎ HasFault (next_sum_faults count bytes) → Walked count bytes
stop count bytes few ends = record {
  blobs = [];
  rest = bytes;
  joined = refl;
  few = omega (arith, few);
  each = All-nil IsSummed;
  ends = subst (λ n. ((bytes ≡ []) × (0 < n)) ⊎ HasFault (next_sum_faults n bytes)) (let e : count ≡ count + 0 = omega arith in e) ends;
}

further : (count n : ℕ) (bytes : List ℕ) → IsSummed (take n bytes) → Walked (count + 1) (drop n bytes) → Walked count bytes
further count n bytes blob w = record {
  blobs = take n bytes ∷ w.blobs;
  rest = w.rest;
  joined = sym (take-append-drop n bytes) ∙ ap (λ l. take n bytes ++ l) w.joined ∙ sym (append_assoc (take n bytes) (concat w.blobs) w.rest);
  few = omega (arith, w.few);
  each = All-cons IsSummed (take n bytes) w.blobs blob w.each;
  ends = subst (λ k. ((w.rest ≡ []) × (0 < k)) ⊎ HasFault (next_sum_faults k w.rest)) (let e : count + 1 + length w.blobs ≡ count + suc (length w.blobs) = omega arith in e) w.ends;
}

next_dec : (count : ℕ) (rest : List ℕ) → IsNext count rest ⊎ (¬ IsNext count rest)
next_dec count rest = by (cases_eq count 0) (cases_lt count 16) (list_dec (take 6 rest) (codes "Lerc2 "))
  where
    by : (count ≡ 0) ⊎ (count ≢ 0) → (count < 16) ⊎ (16 ≤ count) → HasKey rest ⊎ (¬ HasKey rest) → IsNext count rest ⊎ (¬ IsNext count rest)
    by (inl first) few key = inl (inl first)
    by (inr some) (inl few) (inl key) = inl (inr (few, key))
    by (inr some) (inl few) (inr not) = inr (λ next. none next)
      where
        none : IsNext count rest → ⊥
        none (inl first) = some first
        none (inr both) = not both.1
    by (inr some) (inr many) key = inr (λ next. none next)
      where
        none : IsNext count rest → ⊥
        none (inl first) = some first
        none (inr both) = omega (arith, many, both.0)

on : (count b : ℕ) (more : List ℕ) → count ≤ 16 → IsNext count (b ∷ more) ⊎ (¬ IsNext count (b ∷ more)) → Looked (b ∷ more) → ((n : ℕ) → 0 < n → count + 1 ≤ 16 → Walked (count + 1) (drop n (b ∷ more))) → Walked count (b ∷ more)
on count b more few (inr not) looked go =
    stop count (b ∷ more) few (inr (record { place = 0; reason = OfBlob Leftover; fault = inr (not, inr (λ e. (let bad : ⊥ = cc in bad), (refl, refl))) }))
on count b more few (inl next) (inr w) go = stop count (b ∷ more) few (inr (record { place = w.place; reason = w.reason; fault = inl (next, w.fault) }))
on count b more few (inl (inl first)) (inl (n, (up, (within, blob)))) go = further count n (b ∷ more) blob (go n up (omega (arith, first)))
on count b more few (inl (inr (fits, key))) (inl (n, (up, (within, blob)))) go = further count n (b ∷ more) blob (go n up (omega (arith, fits)))

walk : (fuel count : ℕ) (bytes : List ℕ) → length bytes ≤ fuel → count ≤ 16 → (0 < count) ⊎ (0 < length bytes) → Walked count bytes
walk zero count [] short few (inl some) = stop count [] few (inl (refl, some))
walk zero count [] short few (inr some) = absurd (omega (arith, some))
walk zero count (b ∷ bytes) short few some = absurd (omega (arith, short))
walk (suc fuel) count [] short few (inl some) = stop count [] few (inl (refl, some))
walk (suc fuel) count [] short few (inr some) = absurd (omega (arith, some))
walk (suc fuel) count (b ∷ more) short few some =
    on count b more few (next_dec count (b ∷ more)) (look (b ∷ more))
    (λ n up next. walk fuel (count + 1) (drop n (b ∷ more)) (omega (arith, length-drop n (b ∷ more), short, up)) next (inl (omega arith)))

-- ---- verdicts

float_judged : (bytes : List ℕ) → IsFloats bytes → Walked 0 bytes → (v : Judged) × IsJudged bytes v
float_judged bytes floats w = by w.ends
  where
    by : ((w.rest ≡ []) × (0 < 0 + length w.blobs)) ⊎ HasFault (next_sum_faults (0 + length w.blobs) w.rest) → (v : Judged) × IsJudged bytes v
    by (inl (none, some)) = (Summed, record { blobs = w.blobs; joined = w.joined ∙ ap (λ l. concat w.blobs ++ l) none ∙ append-nil (concat w.blobs); some = omega (arith, some); few = omega (arith, w.few); each = w.each })
    by (inr f) = (
      Damaged (record { reason = f.reason; place = length (concat w.blobs) + f.place }),
      inl (floats, record { blobs = w.blobs; rest = w.rest; joined = w.joined; few = omega (arith, w.few); each = w.each; next = (f.place, (refl, subst (λ n. next_sum_faults n w.rest f.place f.reason) (let e : 0 + length w.blobs ≡ length w.blobs = omega arith in e) f.fault)) }),
    )

-- the shape of bands
bands_shaped : (bands : List Pixels) → AreBands bands → (s : Shape) × IsShapeOf bands s
bands_shaped [] are = absurd (omega (arith, are.0))
bands_shaped (r ∷ more) are =
    let like = are.1.like.0 in (
      record { kind = r.kind; rows = r.rows; cols = r.cols; depth = r.depth; bands = length (r ∷ more); valid = sum_by valid_count (r ∷ more); few = few_pixels r more are },
      record {
        each = All-cons (IsOfShape _) r more (record { kind = refl; rows = refl; cols = refl; depth = refl }) (λ k d less. let same = like k d less in record { kind = sym same.kind; rows = sym same.rows; cols = sym same.cols; depth = sym same.depth });
        count = refl;
        valid = refl;
      },
    )

refused_judged : (bytes : List ℕ) (p : ℕ) (r : BandReason) → ¬ IsForeign bytes → ¬ IsFloats bytes → BandsFaultAt bytes p r → IsUnread bytes ⊎ (¬ IsUnread bytes) → (v : Judged) × IsJudged bytes v
refused_judged bytes p r key whole fault (inl unread) = (Unread, unread)
refused_judged bytes p r key whole fault (inr not) = (Damaged (record { reason = r; place = p }), inr (whole, (key, (not, fault))))

unread_dec : (bytes : List ℕ) (p : ℕ) (r : BandReason) → ¬ IsForeign bytes → BandsFaultAt bytes p r → IsUnread bytes ⊎ (¬ IsUnread bytes)
unread_dec bytes p BadBand key fault =
    inr (λ unread. let same = (one_whole_fault bytes p 6 BadBand (OfBlob BadVersion) fault unread.1).1 in (let bad : ⊥ = cc in bad))
unread_dec bytes p (OfBlob why) key fault = by (cases_eq p 6) (is_version why)
  where
    by : (p ≡ 6) ⊎ (p ≢ 6) → (why ≡ BadVersion) ⊎ (why ≢ BadVersion) → IsUnread bytes ⊎ (¬ IsUnread bytes)
    by (inl at) (inl is) = inl (key, subst (λ (w : BlobReason). BandsFaultAt bytes 6 (OfBlob w)) is (subst (λ (n : ℕ). BandsFaultAt bytes n (OfBlob why)) at fault))
    by (inr far) other = inr (λ unread. far (one_whole_fault bytes p 6 (OfBlob why) (OfBlob BadVersion) fault unread.1).0)
    by (inl at) (inr other) = inr (λ unread. let same = (one_whole_fault bytes p 6 (OfBlob why) (OfBlob BadVersion) fault unread.1).1 in other (let is : why ≡ BadVersion = cc in is))

bands_judged : (bytes : List ℕ) → ¬ IsForeign bytes → ¬ IsFloats bytes → (v : BandsVerdict) × IsBandsVerdict bytes v → (v : Judged) × IsJudged bytes v
bands_judged bytes key whole (Decoded bands, is) = let (s, shaped) = bands_shaped bands is.0 in (Whole s, (bands, (is, shaped)))
bands_judged bytes key whole (Refused p r, is) = refused_judged bytes p r key whole is (unread_dec bytes p r key is)

pub some_judged : (bytes : List ℕ) → AreBytes bytes → (v : Judged) × IsJudged bytes v
some_judged bytes are = by (list_dec (take 6 bytes) (take (length bytes) (codes "Lerc2 "))) (floats_dec bytes)
  where
    by : (take 6 bytes ≡ take (length bytes) (codes "Lerc2 ")) ⊎ IsForeign bytes → IsFloats bytes ⊎ (¬ IsFloats bytes) → (v : Judged) × IsJudged bytes v
    by (inr foreign) floats = (Foreign, foreign)
    by (inl key) (inl (v, head)) = float_judged bytes (v, head) (walk (length bytes) 0 bytes (omega arith) (omega arith) (inr (omega (arith, (sized v bytes head).long))))
    by (inl key) (inr whole) = bands_judged bytes (λ foreign. foreign key) whole (some_bands_verdict bytes are)
