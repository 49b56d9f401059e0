-- What a reader of bands knows at each of its steps.
use Rattle.std.proofs.Common.{◌≡◌, ℕ, ◌+◌, ◌-◌, ◌<◌, ◌≤◌, List, [], ◌++◌, length, take, drop, codes, min, None, refl, sym, ap, ◌∙◌, subst, arith, ◌⊎◌, inl, inr}
use Rattle.std.proofs.lemmas.Bool.{cases_lt}
use Rattle.std.proofs.lemmas.List.{length-append, append_assoc, append-nil, length-take, take_all, take-append-drop, take-append-le, take-take, take_at}
use Rattle.first_fault.specs.Parts.{IsEmpty}
use Rattle.raster_values.specs.Raster.{Pixels}
use Rattle.lerc_header.specs.declared.header.Header.{Header}
use Rattle.lerc_header.specs.Head.{HeadAt, head_length}
use Rattle.lerc_header.specs.HeadFaults.{HasKey, HasVersion, key_faults, field_faults}
use Rattle.lerc_header.proofs.HeadLemmas.{one_head}
use Rattle.lerc_header.proofs.Prefixes.{head_more, head_of_take}
use Rattle.lerc_header.specs.declared.fault.BlobReason.{BlobReason}
use Rattle.lerc_header.specs.declared.fault.BlobReason.TheVariants.{Truncated, Leftover}
use Rattle.lerc_grammar.specs.declared.bands.BandReason.{BandReason}
use Rattle.lerc_grammar.specs.declared.bands.BandReason.TheVariants.{Blob as OfBlob}
use Rattle.lerc_grammar.specs.Verdict.{FirstFaultAfter, of_key, of_field, of_blob}
use Rattle.lerc_grammar.specs.Bands.{BlobsAfter, BandsBlob, last_after, unlike_faults, HasLikeHead, BandFault, unlike, in_blob, IsBegun, IsNoBlob, next_decided, next_faults, FirstBandsFault, IsLeastFault, BandsFaultAt, Decoded, Refused}
use Rattle.lerc_grammar.specs.BandsReading.{IsBehind, IsInside, IsBetween}
use Rattle.lerc_grammar.proofs.Verdicts.{fault_stays, no_key_fault, no_field_fault}
use Rattle.lerc_grammar.proofs.BandsOnce.{band_or_cut, same_chain, one_bands_verdict}
use Rattle.lerc_grammar.proofs.Cases.{decide_empty}

-- ---- keys

pub key_long : (rest : List ℕ) → HasKey rest → 6 ≤ length rest
key_long rest key = let l : min 6 (length rest) ≡ 6 = sym (length-take 6 rest) ∙ ap length key in omega (arith, l)

-- a key, however little of it is there
pub key_front : (rest more : List ℕ) → HasKey (rest ++ more) → take 6 rest ≡ take (length rest) (codes "Lerc2 ")
key_front rest more key = which (cases_lt (length rest) 6)
  where
    which : (length rest < 6) ⊎ (6 ≤ length rest) → take 6 rest ≡ take (length rest) (codes "Lerc2 ")
    which (inl short) =
        take_all 6 rest (omega (arith, short))
        ∙ sym (take_at rest more (length rest) refl)
        ∙ sym (take-take (length rest) 6 (rest ++ more) (omega (arith, short)))
        ∙ ap (take (length rest)) key
    which (inr long) = sym (take-append-le 6 rest more long) ∙ key ∙ sym (take_all (length rest) (codes "Lerc2 ") (omega (arith, long)))

pub key_more : (rest more : List ℕ) → HasKey rest → HasKey (rest ++ more)
key_more rest more key = take-append-le 6 rest more (key_long rest key) ∙ key

pub begun_more : (bands : List Pixels) (rest more : List ℕ) → IsBegun bands rest → IsBegun bands (rest ++ more)
begun_more bands rest more (inl none_) = inl none_
begun_more bands rest more (inr (few, key)) = inr (few, key_more rest more key)

pub no_begun : (bands : List Pixels) (rest more : List ℕ) → IsNoBlob bands rest → IsBegun bands (rest ++ more) → ⊥
no_begun bands rest more (some, w) (inl none_) = omega (arith, some, ap length none_)
no_begun bands rest more (some, inl full) (inr (few, key)) = omega (arith, few, full.0)
no_begun bands rest more (some, inr other) (inr (few, key)) = other (key_front rest more key)

pub no_blob_some : (bands : List Pixels) (rest : List ℕ) → IsNoBlob bands rest → ¬ (rest ≡ [])
no_blob_some bands rest (some, inl full) e = omega (arith, full.1, ap length e)
no_blob_some bands rest (some, inr other) e = other (ap (take 6) e ∙ ap (λ (u : List ℕ). take (length u) (codes "Lerc2 ")) (sym e))

pub no_blob_more : (bands : List Pixels) (rest more : List ℕ) → IsNoBlob bands rest → IsNoBlob bands (rest ++ more)
no_blob_more bands rest more (some, inl full) = (some, inl (full.0, omega (arith, full.1, length-append rest more)))
no_blob_more bands rest more (some, inr other) = (some, inr (λ e. other (shorter e)))
  where
    shorter : take 6 (rest ++ more) ≡ take (length (rest ++ more)) (codes "Lerc2 ") → take 6 rest ≡ take (length rest) (codes "Lerc2 ")
    shorter e = which (cases_lt (length rest) 6)
      where
        which : (length rest < 6) ⊎ (6 ≤ length rest) → take 6 rest ≡ take (length rest) (codes "Lerc2 ")
        which (inl short) =
            take_all 6 rest (omega (arith, short))
            ∙ sym (take_at rest more (length rest) refl)
            ∙ sym (take-take (length rest) 6 (rest ++ more) (omega (arith, short)))
            ∙ ap (take (length rest)) e
            ∙ take-take (length rest) (length (rest ++ more)) (codes "Lerc2 ") (omega (arith, length-append rest more))
        which (inr long) =
            sym (take-append-le 6 rest more long) ∙ e
            ∙ take_all (length (rest ++ more)) (codes "Lerc2 ") (omega (arith, long, length-append rest more))
            ∙ sym (take_all (length rest) (codes "Lerc2 ") (omega (arith, long)))

-- ---- what is decided stays

pub like_more : (bands : List Pixels) (rest more : List ℕ) (p : ℕ) (why : BlobReason) → HasLikeHead bands rest → FirstFaultAfter (last_after None bands) rest p why → HasLikeHead bands (rest ++ more)
like_more bands rest more p why like fault h head = which (fault_stays {before = last_after None bands} rest more p why fault) fault
  where
    which : FirstFaultAfter (last_after None bands) (rest ++ more) p why → FirstFaultAfter (last_after None bands) rest p why → IsEmpty (unlike_faults bands h)
    which later (of_key long w) = absurd (no_key_fault (rest ++ more) h head p why (subst (λ (u : List ℕ). key_faults u p why) (sym (take-append-le 10 rest more long)) w))
    which later (of_field v long key version w) =
        absurd (no_field_fault (rest ++ more) h v head (omega (arith, long, length-append rest more)) (subst (λ (u : List ℕ). HasVersion u v) (sym (take-append-le (head_length v) rest more long)) version) p why
        (subst (λ (u : List ℕ). field_faults v u p why) (sym (take-append-le (head_length v) rest more long)) w))
    which later (of_blob g long there w) =
        let at : HeadAt rest g = head_of_take g.size rest g there in
        subst (λ (k : Header). IsEmpty (unlike_faults bands k)) (one_head (rest ++ more) g h (head_more rest more g at) head) (like g at)

pub band_more : (bands : List Pixels) (rest more : List ℕ) (p : ℕ) (a : BandReason) → BandFault bands rest p a → BandFault bands (rest ++ more) p a
band_more bands rest more p a (unlike h head w) = unlike h (head_more rest more h head) w
band_more bands rest more p a (in_blob why like fault is) = in_blob why (like_more bands rest more p why like fault) (fault_stays {before = last_after None bands} rest more p why fault) is

pub next_more : (bands : List Pixels) (rest more : List ℕ) (p : ℕ) (a : BandReason) → next_decided bands rest p a → next_decided bands (rest ++ more) p a
next_more bands rest more p a (inl (begun, w)) = inl (begun_more bands rest more begun, band_more bands rest more p a w)
next_more bands rest more p a (inr (no_, w)) = inr (no_blob_more bands rest more no_, w)

pub decided_stays : (bytes more : List ℕ) (p : ℕ) (a : BandReason) → FirstBandsFault bytes p a → FirstBandsFault (bytes ++ more) p a
decided_stays bytes more p a w = record {
  bands = w.bands;
  front = w.front;
  rest = w.rest ++ more;
  joined = ap (λ (u : List ℕ). u ++ more) w.joined ∙ append_assoc w.front w.rest more;
  may_be = w.may_be;
  stand = w.stand;
  next = (w.next.0, (w.next.1.0, next_more w.bands w.rest more w.next.0 a w.next.1.1));
}

pub next_is : (bands : List Pixels) (rest : List ℕ) (p : ℕ) (a : BandReason) → next_decided bands rest p a → next_faults bands rest p a
next_is bands rest p a (inl (begun, w)) = inl (begun, inl w)
next_is bands rest p a (inr (no_, w)) =
    inr ((λ begun. no_begun bands rest [] no_ (begun_more bands rest [] begun)), inr (no_blob_some bands rest no_, w))

pub decided_is : (bytes : List ℕ) (p : ℕ) (a : BandReason) → FirstBandsFault bytes p a → BandsFaultAt bytes p a
decided_is bytes p a w = record {
  bands = w.bands;
  front = w.front;
  rest = w.rest;
  joined = w.joined;
  may_be = w.may_be;
  stand = w.stand;
  next = (w.next.0, (w.next.1.0, next_is w.bands w.rest w.next.0 a w.next.1.1));
}

pub bands_faults_stay : (bytes more : List ℕ) (p : ℕ) (a : BandReason) → FirstBandsFault bytes p a → BandsFaultAt (bytes ++ more) p a
bands_faults_stay bytes more p a w = decided_is (bytes ++ more) p a (decided_stays bytes more p a w)

-- ---- where a reader is

pub cut_there : (taken : List ℕ) (bands : List Pixels) (front rest : List ℕ) → IsInside taken bands front rest → BandsFaultAt taken (length taken) (OfBlob Truncated)
cut_there taken bands front rest i = record {
  bands = bands;
  front = front;
  rest = rest;
  joined = i.behind.joined;
  may_be = i.behind.may_be;
  stand = i.behind.stand;
  next = (length rest, (ap length i.behind.joined ∙ length-append front rest, inl (i.begun, inr (i.like, (i.more, (refl, refl))))));
}

pub inside_undecided : (taken : List ℕ) (bands : List Pixels) (front rest : List ℕ) → IsInside taken bands front rest → (p : ℕ) (a : BandReason) → ¬ FirstBandsFault taken p a
unfolding decided_is cut_there
inside_undecided taken bands front rest i p a w =
    let c = cut_there taken bands front rest i in
    let same = same_chain taken p (length taken) a (OfBlob Truncated) (decided_is taken p a w) c in
    which (subst (λ (u : List ℕ). next_decided bands u w.next.0 a) same.1 (subst (λ (u : List Pixels). next_decided u w.rest w.next.0 a) same.0 w.next.1.1))
  where
    which : next_decided bands rest w.next.0 a → ⊥
    which (inl (begun, fault)) = band_or_cut bands rest w.next.0 (length rest) a (OfBlob Truncated) fault (i.like, (i.more, (refl, refl)))
    which (inr (no_, e)) = no_begun bands rest [] no_ (begun_more bands rest [] i.begun)

pub inside_not_whole : (taken : List ℕ) (bands : List Pixels) (front rest : List ℕ) → IsInside taken bands front rest → (all : List Pixels) → ¬ BandsBlob taken all
inside_not_whole taken bands front rest i all b =
    let e = one_bands_verdict taken (Decoded all) (Refused (length taken) (OfBlob Truncated)) b (cut_there taken bands front rest i) in cc

pub whole_there : (taken : List ℕ) (bands : List Pixels) (front rest : List ℕ) → IsBetween taken bands front rest → rest ≡ [] → BandsBlob taken bands
whole_there taken bands front rest b e = ((b.some, b.behind.may_be), subst (λ (u : List ℕ). BlobsAfter None u bands) (sym (b.behind.joined ∙ ap (λ (u : List ℕ). front ++ u) e ∙ append-nil front)) b.behind.stand)

pub left_there : (taken : List ℕ) (bands : List Pixels) (front rest : List ℕ) → IsBetween taken bands front rest → ¬ (rest ≡ []) → BandsFaultAt taken (length front) (OfBlob Leftover)
left_there taken bands front rest b other = record {
  bands = bands;
  front = front;
  rest = rest;
  joined = b.behind.joined;
  may_be = b.behind.may_be;
  stand = b.behind.stand;
  next = (0, (omega arith, inr (not_begun b, inr (other, (refl, refl)))));
}
  where
    not_begun : IsBetween taken bands front rest → IsBegun bands rest → ⊥
    not_begun b (inl none_) = omega (arith, b.some, ap length none_)
    not_begun b (inr (few, key)) = omega (arith, b.short, key_long rest key)

pub between_undecided : (taken : List ℕ) (bands : List Pixels) (front rest : List ℕ) → IsBetween taken bands front rest → (p : ℕ) (a : BandReason) → ¬ FirstBandsFault taken p a
unfolding decided_is left_there
between_undecided taken bands front rest b p a w = by (decide_empty rest)
  where
    by : (rest ≡ []) ⊎ (¬ (rest ≡ [])) → ⊥
    by (inl e) = let v = one_bands_verdict taken (Decoded bands) (Refused p a) (whole_there taken bands front rest b e) (decided_is taken p a w) in cc
    by (inr other) =
        let c = left_there taken bands front rest b other in
        let same = same_chain taken p (length front) a (OfBlob Leftover) (decided_is taken p a w) c in
        which (subst (λ (u : List ℕ). next_decided bands u w.next.0 a) same.1 (subst (λ (u : List Pixels). next_decided u w.rest w.next.0 a) same.0 w.next.1.1))
      where
        which : next_decided bands rest w.next.0 a → ⊥
        which (inl (inl none_, fault)) = omega (arith, b.some, ap length none_)
        which (inl (inr (few, key), fault)) = omega (arith, b.short, key_long rest key)
        which (inr ((some, inl full), e)) = omega (arith, b.few full.1, full.0)
        which (inr ((some, inr differs), e)) = differs (take_all 6 rest (omega (arith, b.short)) ∙ b.key)

-- ---- what is decided by a byte

-- where one byte less decides nothing, fewer bytes decide nothing
pub least_of_last : (taken : List ℕ) → ((p : ℕ) (a : BandReason) → ¬ FirstBandsFault (take (length taken - 1) taken) p a) → IsLeastFault taken
least_of_last taken last n below p a w =
    let m = length taken - 1 in
    let back : take n taken ++ drop n (take m taken) ≡ take m taken = ap (λ (u : List ℕ). u ++ drop n (take m taken)) (sym (take-take n m taken (omega (arith, below)))) ∙ take-append-drop n (take m taken) in
    last p a (subst (λ (u : List ℕ). FirstBandsFault u p a) back (decided_stays (take n taken) (drop n (take m taken)) p a w))

pub unlike_there : (taken : List ℕ) (bands : List Pixels) (front rest : List ℕ) (h : Header) (p : ℕ) (a : BandReason) → IsBehind taken bands front rest → IsBegun bands rest → HeadAt rest h → unlike_faults bands h p a → FirstBandsFault taken (length front + p) a
unlike_there taken bands front rest h p a b begun head w = record { bands = bands; front = front; rest = rest; joined = b.joined; may_be = b.may_be; stand = b.stand; next = (p, (refl, inl (begun, unlike h head w))) }

pub fault_there : (taken : List ℕ) (bands : List Pixels) (front rest : List ℕ) (p : ℕ) (why : BlobReason) → IsBehind taken bands front rest → IsBegun bands rest → HasLikeHead bands rest → FirstFaultAfter (last_after None bands) rest p why → FirstBandsFault taken (length front + p) (OfBlob why)
fault_there taken bands front rest p why b begun like w = record { bands = bands; front = front; rest = rest; joined = b.joined; may_be = b.may_be; stand = b.stand; next = (p, (refl, inl (begun, in_blob why like w refl))) }

pub left_decided : (taken : List ℕ) (bands : List Pixels) (front rest : List ℕ) → IsBehind taken bands front rest → IsNoBlob bands rest → FirstBandsFault taken (length front) (OfBlob Leftover)
left_decided taken bands front rest b no_ = record { bands = bands; front = front; rest = rest; joined = b.joined; may_be = b.may_be; stand = b.stand; next = (0, (omega arith, inr (no_, (refl, refl)))) }
