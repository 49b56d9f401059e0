-- A whole input has a verdict of bands.
use Rattle.std.proofs.Common.{◌≡◌, ℕ, ◌+◌, ◌*◌, ◌<◌, ◌≤◌, zero, suc, List, [], ◌∷◌, ◌++◌, length, get_or, take, drop, Option, None, Some, All, refl, sym, ap, ◌∙◌, subst, arith, ◌⊎◌, inl, inr, codes}
use Rattle.std.specs.Prelude.{is_some}
use Rattle.std.proofs.lemmas.List.{length-append, length-map, append_assoc, append-nil, take-append-drop, drop_at}
use Rattle.std.proofs.lemmas.List.Elements.{All-nil, All-cons, All-head, All-tail, All-append}
use Rattle.first_fault.specs.Faults.{none, wrong}
use Rattle.first_fault.specs.Parts.{AreBytes, HasFault, IsEmpty}
use Rattle.first_fault.proofs.Decided.{decided_unless}
use Rattle.raster_values.specs.Raster.{Pixels, IsRaster}
use Rattle.lerc_header.specs.declared.header.Header.{Header}
use Rattle.lerc_header.specs.Head.{HeadAt, shift}
use Rattle.lerc_header.specs.HeadFaults.{HasKey, header_faults}
use Rattle.lerc_header.proofs.DecidedHeads.{header_or_fault}
use Rattle.lerc_header.proofs.HeadLemmas.{kind_once, one_head}
use Rattle.raster_cells.specs.PixelType.{code_of}
use Rattle.raster_cells.specs.declared.kind.PixelType.{PixelType}
use Rattle.lerc_header.specs.declared.fault.BlobReason.TheVariants.{Truncated, TooLarge, Leftover}
use Rattle.lerc_grammar.specs.declared.bands.BandReason.TheVariants.{Blob as OfBlob, BadBand}
use Rattle.lerc_grammar.specs.Mask.{Previous, previous_of}
use Rattle.lerc_grammar.specs.Laws.{IsPrevious}
use Rattle.lerc_grammar.specs.Blob.{BlobAfter}
use Rattle.raster_values.specs.Bands.{IsLike, AreLike, MayBeBands}
use Rattle.lerc_grammar.specs.Bands.{BlobsAfter, last_after, unlike_faults, BandFault, unlike, in_blob, IsBegun, cut_faults, next_faults, BandsVerdict, Decoded, Refused, IsBandsVerdict}
use Rattle.lerc_grammar.proofs.Cases.{Decided, decide_le, decide_nat, decide_or, decide_and, decide_empty, its_fault}
use Rattle.lerc_grammar.proofs.Bytes.{bytes_in_drop}
use Rattle.lerc_grammar.proofs.BlobDecided.{some_verdict}
use Rattle.lerc_grammar.specs.Verdict.{Verdict, More, Done, Fault, IsVerdictAfter, IsDoneAfter}
use Rattle.lerc_grammar.proofs.Verdicts.{done_head}
use Rattle.lerc_header.proofs.FaultLemmas.{empty-header}
use Rattle.first_fault.proofs.Parts.{empty-choice}

-- ---- the raster before is one

pub previous_raster : (r : Pixels) → IsRaster r → IsPrevious (Some (previous_of r))
previous_raster r is = length-map r.pixels is_some ∙ is.places

pub last_is : (before : Option Previous) (bands : List Pixels) → IsPrevious before → All IsRaster bands → IsPrevious (last_after before bands)
last_is before [] is all = is
last_is before (r ∷ more) is all = last_is (Some (previous_of r)) more (previous_raster r (All-head IsRaster r more all)) (All-tail IsRaster r more all)

-- ---- one blob more

pub last_next : (before : Option Previous) (bands : List Pixels) (a b : List ℕ) (r : Pixels) → BlobsAfter before a bands → BlobAfter (last_after before bands) b r → BlobsAfter before (a ++ b) (bands ++ r ∷ [])
last_next before [] a b r na p = (b, ([], (ap (λ (u : List ℕ). u ++ b) na ∙ sym (append-nil b), (p, refl))))
last_next before (x ∷ xs) a b r (front, (rest, (joined, (stands, more)))) p =
    (front, (rest ++ b, (ap (λ (u : List ℕ). u ++ b) joined ∙ append_assoc front rest b, (stands, last_next (Some (previous_of x)) xs rest b r more p))))

pub decide_kind : (a b : PixelType) → Decided (a ≡ b)
decide_kind a b = which (decide_nat (code_of a) (code_of b))
  where
    which : Decided (code_of a ≡ code_of b) → Decided (a ≡ b)
    which (inl e) = inl (kind_once a b e)
    which (inr other) = inr (λ e. other (ap code_of e))

-- a header that may come behind these bands
abbrev pub IsHeaderFor : List Pixels → Header → Type 0
IsHeaderFor [] h = Unit {0}
IsHeaderFor (r ∷ more) h = (h.rows ≡ r.rows) × ((h.cols ≡ r.cols) × ((h.depth ≡ r.depth) × ((h.kind ≡ r.kind) × ((2 + length more) * (h.rows * h.cols * h.depth) ≤ 16777216))))

pub decide_like : (bands : List Pixels) (h : Header) → IsHeaderFor bands h ⊎ HasFault (unlike_faults bands h)
decide_like [] h = inl tt
decide_like (r ∷ more) h =
    decided_unless (h.rows ≡ r.rows) (wrong BadBand 14) _ (decide_nat h.rows r.rows) (its_fault BadBand 14) (λ rows.
    decided_unless (h.cols ≡ r.cols) (wrong BadBand 18) _ (decide_nat h.cols r.cols) (its_fault BadBand 18) (λ cols.
    decided_unless (h.depth ≡ r.depth) (wrong BadBand (18 + shift h.version)) _ (decide_nat h.depth r.depth) (its_fault BadBand (18 + shift h.version)) (λ depth.
    decided_unless (h.kind ≡ r.kind) (wrong BadBand (34 + shift h.version)) _ (decide_kind h.kind r.kind) (its_fault BadBand (34 + shift h.version)) (λ kind.
    decided_unless ((2 + length more) * (h.rows * h.cols * h.depth) ≤ 16777216) (wrong (OfBlob TooLarge) (18 + shift h.version)) none (decide_le ((2 + length more) * (h.rows * h.cols * h.depth)) 16777216) (its_fault (OfBlob TooLarge) (18 + shift h.version)) (λ size.
    inl (rows, (cols, (depth, (kind, size)))))))))

pub no_unlike : (bands : List Pixels) (h : Header) → IsHeaderFor bands h → IsEmpty (unlike_faults bands h)
no_unlike [] h is = λ p a w. w
no_unlike (r ∷ more) h (rows, (cols, (depth, (kind, size)))) =
    empty-choice (h.rows ≡ r.rows) _ (wrong BadBand 14) rows
    (empty-choice (h.cols ≡ r.cols) _ (wrong BadBand 18) cols
    (empty-choice (h.depth ≡ r.depth) _ (wrong BadBand (18 + shift h.version)) depth
    (empty-choice (h.kind ≡ r.kind) _ (wrong BadBand (34 + shift h.version)) kind
    (empty-choice ((2 + length more) * (h.rows * h.cols * h.depth) ≤ 16777216) none (wrong (OfBlob TooLarge) (18 + shift h.version)) size (λ p a w. w)))))

-- a blob that comes next stands
pub record NextStands (bands : List Pixels) (rest : List ℕ) : Type 0 where
  pub front : List ℕ
  pub back : List ℕ
  pub raster : Pixels
  pub joined : rest ≡ front ++ back
  pub stands : BlobAfter (last_after None bands) front raster
  pub may_be : MayBeBands (bands ++ raster ∷ [])

pub header_is : (before : Option Previous) (blob : List ℕ) (h : Header) (r : Pixels) → HeadAt blob h → BlobAfter before blob r → (h.rows ≡ r.rows) × ((h.cols ≡ r.cols) × ((h.depth ≡ r.depth) × (h.kind ≡ r.kind)))
header_is before blob h r head (sound, (g, (p, j))) =
    let same = one_head blob h g head j.head_stands in
    (ap (λ (k : Header). k.rows) same ∙ j.head_of.rows, (ap (λ (k : Header). k.cols) same ∙ j.head_of.cols, (ap (λ (k : Header). k.depth) same ∙ j.head_of.depth, ap (λ (k : Header). k.kind) same ∙ j.head_of.kind)))

pub like_next : (bands : List Pixels) (h : Header) (r : Pixels) → IsRaster r → AreLike bands → IsHeaderFor bands h → (h.rows ≡ r.rows) × ((h.cols ≡ r.cols) × ((h.depth ≡ r.depth) × (h.kind ≡ r.kind))) → AreLike (bands ++ r ∷ [])
like_next [] h r sound like is at = (All-nil (IsLike r), (let t : (1 + 0) * (r.rows * r.cols * r.depth) ≡ r.rows * r.cols * r.depth = omega arith in omega (arith, t, sound.shape.size)))
like_next (x ∷ more) h r sound (all, size) (rows, (cols, (depth, (kind, fits)))) (hr, (hc, (hd, hk))) =
    let l : IsLike x r = record { rows = sym hr ∙ rows; cols = sym hc ∙ cols; depth = sym hd ∙ depth; kind = sym hk ∙ kind } in
    let n : h.rows * h.cols * h.depth ≡ x.rows * x.cols * x.depth = λ i. rows i * cols i * depth i in
    let t : 1 + length (more ++ r ∷ []) ≡ 2 + length more = omega (arith, length-append more (r ∷ [])) in (
      All-append (IsLike x) more (r ∷ []) all (All-cons (IsLike x) r [] l (All-nil (IsLike x))),
      subst (λ (k : ℕ). k * (x.rows * x.cols * x.depth) ≤ 16777216) (sym t) (subst (λ (k : ℕ). (2 + length more) * k ≤ 16777216) n fits),
    )

pub next_may_be : (bands : List Pixels) (rest : List ℕ) (r : Pixels) (size : ℕ) → MayBeBands bands → length bands < 16 → IsDoneAfter (last_after None bands) rest r size → ((h : Header) → HeadAt rest h → IsHeaderFor bands h) → MayBeBands (bands ++ r ∷ [])
next_may_be bands rest r size m few done like =
    let h = done_head {before = last_after None bands} rest r size done in
    record {
      few = omega (arith, few, length-append bands (r ∷ []));
      sound = All-append IsRaster bands (r ∷ []) m.sound (All-cons IsRaster r [] done.1.0 (All-nil IsRaster));
      like = like_next bands h.0 r done.1.0 m.like (like h.0 h.1.0.head) (header_is (last_after None bands) (take size rest) h.0 r h.1.1.1 done.1);
    }

-- one blob more
next_stands : (bands : List Pixels) (rest : List ℕ) (r : Pixels) (size : ℕ) → MayBeBands bands → length bands < 16 → IsDoneAfter (last_after None bands) rest r size → ((h : Header) → HeadAt rest h → IsHeaderFor bands h) → NextStands bands rest
next_stands bands rest r size m few done like = record {
  front = take size rest;
  back = drop size rest;
  raster = r;
  joined = sym (take-append-drop size rest);
  stands = done.1;
  may_be = next_may_be bands rest r size m few done like;
}

of_verdict : (bands : List Pixels) (rest : List ℕ) → MayBeBands bands → length bands < 16 → ((h : Header) → HeadAt rest h → IsHeaderFor bands h) → (v : Verdict) → IsVerdictAfter (last_after None bands) rest v
    → NextStands bands rest ⊎ HasFault (λ place reason. BandFault bands rest place reason ⊎ cut_faults bands rest place reason)
of_verdict bands rest m few like More w = inr (record { place = length rest; reason = OfBlob Truncated; fault = inr ((λ h head. no_unlike bands h (like h head)), (w, (refl, refl))) })
of_verdict bands rest m few like (Done r size) w = inl (next_stands bands rest r size m few w like)
of_verdict bands rest m few like (Fault p a) w = inr (record { place = p; reason = OfBlob a; fault = inl (in_blob a (λ h head. no_unlike bands h (like h head)) w refl) })

band_decided : (bands : List Pixels) (rest : List ℕ) → MayBeBands bands → length bands < 16 → AreBytes rest → NextStands bands rest ⊎ HasFault (λ place reason. BandFault bands rest place reason ⊎ cut_faults bands rest place reason)
band_decided bands rest m few are = which (header_or_fault rest)
  where
    verdict : ((h : Header) → HeadAt rest h → IsHeaderFor bands h) → NextStands bands rest ⊎ HasFault (λ place reason. BandFault bands rest place reason ⊎ cut_faults bands rest place reason)
    verdict like = let v = some_verdict (last_after None bands) (last_is None bands tt m.sound) rest are in of_verdict bands rest m few like v.0 v.1

    headed : (h : Header) → HeadAt rest h → IsHeaderFor bands h ⊎ HasFault (unlike_faults bands h) → NextStands bands rest ⊎ HasFault (λ place reason. BandFault bands rest place reason ⊎ cut_faults bands rest place reason)
    headed h head (inl is) = verdict (λ g there. subst (IsHeaderFor bands) (one_head rest h g head there) is)
    headed h head (inr w) = inr (record { place = w.place; reason = w.reason; fault = inl (unlike h head w.fault) })

    which : ((h : Header) × HeadAt rest h) ⊎ HasFault (header_faults rest) → NextStands bands rest ⊎ HasFault (λ place reason. BandFault bands rest place reason ⊎ cut_faults bands rest place reason)
    which (inl (h, head)) = headed h head (decide_like bands h)
    which (inr w) = verdict (λ h head. absurd (empty-header rest h head w.place w.reason w.fault))

-- ---- the verdict

abbrev Some_ : List ℕ → Type 0
Some_ input = (v : BandsVerdict) × IsBandsVerdict input v

decide_list : (xs ys : List ℕ) → Decided (xs ≡ ys)
decide_list [] [] = inl refl
decide_list [] (y ∷ ys) = inr (λ e. absurd (omega (arith, ap length e)))
decide_list (x ∷ xs) [] = inr (λ e. absurd (omega (arith, ap length e)))
decide_list (x ∷ xs) (y ∷ ys) = which (decide_nat x y) (decide_list xs ys)
  where
    which : Decided (x ≡ y) → Decided (xs ≡ ys) → Decided (x ∷ xs ≡ y ∷ ys)
    which (inl e) (inl f) = inl (λ i. e i ∷ f i)
    which (inr other) f = inr (λ e. other (ap (λ (u : List ℕ). get_or u 0 0) e))
    which (inl e) (inr other) = inr (λ f. other (ap (λ (u : List ℕ). drop 1 u) f))

decide_none : (bands : List Pixels) → Decided (bands ≡ [])
decide_none [] = inl refl
decide_none (r ∷ more) = inr (λ e. absurd (omega (arith, ap length e)))

decide_begun : (bands : List Pixels) (rest : List ℕ) → Decided (IsBegun bands rest)
decide_begun bands rest = decide_or (bands ≡ []) ((length bands < 16) × HasKey rest) (decide_none bands) (decide_and (length bands < 16) (HasKey rest) (decide_le (suc (length bands)) 16) (decide_list (take 6 rest) (codes "Lerc2 ")))

fault_there : (input front rest : List ℕ) (bands : List Pixels) → input ≡ front ++ rest → MayBeBands bands → BlobsAfter None front bands → HasFault (next_faults bands rest) → Some_ input
fault_there input front rest bands joined m stand w = (Refused (length front + w.place) w.reason, record { bands = bands; front = front; rest = rest; joined = joined; may_be = m; stand = stand; next = (w.place, (refl, w.fault)) })

pub begun_few : (bands : List Pixels) (rest : List ℕ) → IsBegun bands rest → length bands < 16
begun_few bands rest (inl e) = omega (arith, ap length e)
begun_few bands rest (inr b) = b.0

bytes_behind : (front rest input : List ℕ) → input ≡ front ++ rest → AreBytes input → AreBytes rest
bytes_behind front rest input e are = subst AreBytes (ap (drop (length front)) e ∙ drop_at front rest (length front) refl) (bytes_in_drop (length front) input are)

some_length : (bands : List Pixels) → ¬ (bands ≡ []) → 0 < length bands
some_length [] other = absurd (other refl)
some_length (r ∷ more) other = omega arith

-- the verdict from a later blob on
abbrev Goes : ℕ → List ℕ → Type 0
Goes n input = (front rest : List ℕ) (bands : List Pixels) → n ≡ length bands → input ≡ front ++ rest → MayBeBands bands → BlobsAfter None front bands → Some_ input

begun_verdict : (input front rest : List ℕ) (bands : List Pixels) → input ≡ front ++ rest → MayBeBands bands → BlobsAfter None front bands → IsBegun bands rest → Goes (suc (length bands)) input
    → NextStands bands rest ⊎ HasFault (λ place reason. BandFault bands rest place reason ⊎ cut_faults bands rest place reason) → Some_ input
begun_verdict input front rest bands joined m stand begun go (inl s) =
    go (front ++ s.front) s.back (bands ++ s.raster ∷ []) (let l = length-append bands (s.raster ∷ []) in omega (arith, l))
    (joined ∙ ap (λ (u : List ℕ). front ++ u) s.joined ∙ sym (append_assoc front s.front s.back)) s.may_be (last_next None bands front s.front s.raster stand s.stands)
begun_verdict input front rest bands joined m stand begun go (inr w) = fault_there input front rest bands joined m stand (record { place = w.place; reason = w.reason; fault = inl (begun, w.fault) })

ended_verdict : (input front rest : List ℕ) (bands : List Pixels) → input ≡ front ++ rest → MayBeBands bands → BlobsAfter None front bands → ¬ IsBegun bands rest → Decided (rest ≡ []) → Some_ input
ended_verdict input front rest bands joined m stand no_ (inl e) =
    let whole : input ≡ front = joined ∙ ap (λ (u : List ℕ). front ++ u) e ∙ append-nil front in
    (Decoded bands, ((some_length bands (λ none_. no_ (inl none_)), m), subst (λ (u : List ℕ). BlobsAfter None u bands) (sym whole) stand))
ended_verdict input front rest bands joined m stand no_ (inr other) = fault_there input front rest bands joined m stand (record { place = 0; reason = OfBlob Leftover; fault = inr (no_, inr (other, (refl, refl))) })

verdict_at : (input front rest : List ℕ) (bands : List Pixels) → input ≡ front ++ rest → AreBytes input → MayBeBands bands → BlobsAfter None front bands → Goes (suc (length bands)) input → Decided (IsBegun bands rest) → Some_ input
verdict_at input front rest bands joined are m stand go (inl begun) =
    begun_verdict input front rest bands joined m stand begun go (band_decided bands rest m (begun_few bands rest begun) (bytes_behind front rest input joined are))
verdict_at input front rest bands joined are m stand go (inr no_) = ended_verdict input front rest bands joined m stand no_ (decide_empty rest)

verdict_from : (fuel : ℕ) (input front rest : List ℕ) (bands : List Pixels) → 17 ≤ fuel + length bands → input ≡ front ++ rest → AreBytes input → MayBeBands bands → BlobsAfter None front bands → Some_ input
verdict_from zero input front rest bands long joined are m stand = let few = m.few in absurd (omega (arith, long, few))
verdict_from (suc fuel) input front rest bands long joined are m stand =
    verdict_at input front rest bands joined are m stand (λ front' rest' bands' more joined' m' stand'. verdict_from fuel input front' rest' bands' (omega (arith, long, more)) joined' are m' stand') (decide_begun bands rest)

pub some_bands_verdict : (input : List ℕ) → AreBytes input → (v : BandsVerdict) × IsBandsVerdict input v
some_bands_verdict input are = verdict_from 17 input [] input [] (omega arith) refl are (record { few = omega arith; sound = All-nil IsRaster; like = tt }) refl
