-- The steps of a reader of bands: where it is, and how each step leaves it.
use Rattle.std.proofs.Common.{◌≡◌, ℕ, ◌+◌, ◌-◌, ◌<◌, ◌≤◌, suc, List, [], ◌∷◌, ◌++◌, length, take, codes, None, refl, sym, ap, ◌∙◌, subst, arith, inl, inr}
use Rattle.std.proofs.lemmas.List.{length-append, append_assoc, append-nil, length-take-le, take_all, take_at}
use Rattle.std.proofs.Math.Seq.{take-append-add}
use Rattle.raster_values.specs.Raster.{Pixels, IsRaster}
use Rattle.lerc_header.specs.declared.header.Header.{Header}
use Rattle.lerc_header.specs.Head.{HeadAt, head_length}
use Rattle.lerc_header.specs.declared.fault.BlobReason.{BlobReason}
use Rattle.lerc_header.specs.declared.fault.BlobReason.TheVariants.{Leftover}
use Rattle.lerc_grammar.specs.declared.bands.BandReason.{BandReason}
use Rattle.lerc_grammar.specs.declared.bands.BandReason.TheVariants.{Blob as OfBlob}
use Rattle.lerc_grammar.specs.Verdict.{FirstFaultAfter, IsMoreAfter, IsDoneAfter}
use Rattle.lerc_grammar.specs.Bands.{last_after, unlike_faults, HasLikeHead, IsBegun, IsNoBlob, FirstBandsFault, IsLeastFault}
use Rattle.std.proofs.lemmas.List.Elements.{All-nil}
use Rattle.lerc_header.proofs.Prefixes.{head_of_take}
use Rattle.lerc_header.proofs.HeadLemmas.{one_head}
use Rattle.lerc_grammar.specs.Blob.{BlobAfter}
use Rattle.lerc_grammar.proofs.More.{more_key}
use Rattle.lerc_grammar.specs.BandsReading.{IsBehind, IsInside, IsBetween}
use Rattle.lerc_grammar.proofs.BandsDecided.{last_next, next_may_be, IsHeaderFor}
use Rattle.lerc_grammar.proofs.BandsSteps.{inside_undecided, between_undecided, least_of_last, unlike_there, fault_there, left_decided}

-- ---- steps

-- no byte is taken
pub begin : IsInside [] [] [] []
begin = record {
  behind = record { joined = refl; may_be = record { few = omega arith; sound = All-nil IsRaster; like = tt }; stand = refl };
  begun = inl refl;
  like = λ h head. absurd (omega (arith, head.long));
  more = more_key {before = None} [] (omega arith);
}

pub behind_more : (taken piece : List ℕ) (bands : List Pixels) (front rest : List ℕ) → IsBehind taken bands front rest → IsBehind (taken ++ piece) bands front (rest ++ piece)
behind_more taken piece bands front rest b = record { joined = ap (λ (u : List ℕ). u ++ piece) b.joined ∙ append_assoc front rest piece; may_be = b.may_be; stand = b.stand }

-- the blob's decoder has taken a piece and says More; where that made the header whole, it is like the first
pub step_more : (taken piece : List ℕ) (bands : List Pixels) (front rest : List ℕ) → IsInside taken bands front rest → IsBegun bands (rest ++ piece) → IsMoreAfter (last_after None bands) (rest ++ piece) → HasLikeHead bands (rest ++ piece)
    → IsInside (taken ++ piece) bands front (rest ++ piece)
step_more taken piece bands front rest i begun more like = record { behind = behind_more taken piece bands front rest i.behind; begun = begun; like = like; more = more }

-- it says Done
pub step_done : (taken piece : List ℕ) (bands : List Pixels) (front rest : List ℕ) (r : Pixels) → IsInside taken bands front rest → length bands < 16 → IsDoneAfter (last_after None bands) (rest ++ piece) r (length (rest ++ piece))
    → ((h : Header) → HeadAt (rest ++ piece) h → IsHeaderFor bands h) → IsBetween (taken ++ piece) (bands ++ r ∷ []) (front ++ (rest ++ piece)) []
step_done taken piece bands front rest r i few done like =
    let all : take (length (rest ++ piece)) (rest ++ piece) ≡ rest ++ piece = take_all (length (rest ++ piece)) (rest ++ piece) (omega arith) in
    record {
      behind = record {
        joined = (behind_more taken piece bands front rest i.behind).joined ∙ sym (append-nil (front ++ (rest ++ piece)));
        may_be = next_may_be bands (rest ++ piece) r (length (rest ++ piece)) i.behind.may_be few done like;
        stand = last_next None bands front (rest ++ piece) r i.behind.stand (subst (λ (u : List ℕ). BlobAfter (last_after None bands) u r) all done.1);
      };
      some = omega (arith, length-append bands (r ∷ []));
      few = λ more. absurd (omega (arith, more));
      short = omega arith;
      key = refl;
    }

-- one byte less is taken
pub shorter : (taken piece front rest : List ℕ) → taken ≡ front ++ rest → 0 < length piece → take (length (taken ++ piece) - 1) (taken ++ piece) ≡ front ++ take (length (rest ++ piece) - 1) (rest ++ piece)
shorter taken piece front rest joined some =
    ap (λ (u : List ℕ). take (length (u ++ piece) - 1) (u ++ piece)) joined
    ∙ ap (λ (u : List ℕ). take (length u - 1) u) (append_assoc front rest piece)
    ∙ ap (λ n. take n (front ++ (rest ++ piece))) (let l = length-append front (rest ++ piece) in let m = length-append rest piece in let t : length (front ++ (rest ++ piece)) - 1 ≡ length front + (length (rest ++ piece) - 1) = omega (arith, l, m, some) in t)
    ∙ take-append-add front (rest ++ piece) (length (rest ++ piece) - 1)

-- it says Refused, and with a byte less it says More
pub step_wrong : (taken piece : List ℕ) (bands : List Pixels) (front rest : List ℕ) (p : ℕ) (why : BlobReason) → IsInside taken bands front rest → 0 < length piece → IsBegun bands (rest ++ piece) → HasLikeHead bands (rest ++ piece)
    → FirstFaultAfter (last_after None bands) (rest ++ piece) p why → IsMoreAfter (last_after None bands) (take (length (rest ++ piece) - 1) (rest ++ piece)) → IsBegun bands (take (length (rest ++ piece) - 1) (rest ++ piece))
    → FirstBandsFault (taken ++ piece) (length front + p) (OfBlob why) × IsLeastFault (taken ++ piece)
step_wrong taken piece bands front rest p why i some begun like fault before still =
    let t = rest ++ piece in
    let m = length t - 1 in (
      fault_there (taken ++ piece) bands front t p why (behind_more taken piece bands front rest i.behind) begun like fault,
      least_of_last (taken ++ piece) (λ q a w. inside_undecided (take (length (taken ++ piece) - 1) (taken ++ piece)) bands front (take m t)
          (record {
            behind = record { joined = shorter taken piece front rest i.behind.joined some; may_be = i.behind.may_be; stand = i.behind.stand };
            begun = still;
            like = λ h head. like h (head_of_take m t h head);
            more = before;
          }) q a w),
    )

-- the header is whole with this piece, and not like the first
pub step_unlike : (taken piece : List ℕ) (bands : List Pixels) (front rest : List ℕ) (h : Header) (p : ℕ) (a : BandReason) → IsInside taken bands front rest → 0 < length piece → IsBegun bands (rest ++ piece)
    → HeadAt (rest ++ piece) h → length (rest ++ piece) ≡ head_length h.version → unlike_faults bands h p a → IsMoreAfter (last_after None bands) (take (length (rest ++ piece) - 1) (rest ++ piece)) → IsBegun bands (take (length (rest ++ piece) - 1) (rest ++ piece))
    → FirstBandsFault (taken ++ piece) (length front + p) a × IsLeastFault (taken ++ piece)
step_unlike taken piece bands front rest h p a i some begun head long w before still =
    let t = rest ++ piece in
    let m = length t - 1 in
    let cut = length-take-le m t (omega arith) in (
      unlike_there (taken ++ piece) bands front t h p a (behind_more taken piece bands front rest i.behind) begun head w,
      least_of_last (taken ++ piece) (λ q b w. inside_undecided (take (length (taken ++ piece) - 1) (taken ++ piece)) bands front (take m t)
          (record {
            behind = record { joined = shorter taken piece front rest i.behind.joined some; may_be = i.behind.may_be; stand = i.behind.stand };
            begun = still;
            like = λ g there. let same : g ≡ h = one_head t g h (head_of_take m t g there) head in
                let short : head_length h.version ≤ length (take m t) = subst (λ (k : Header). head_length k.version ≤ length (take m t)) same there.long in
                absurd (omega (arith, short, cut, long, length-append rest piece, some));
            more = before;
          }) q b w),
    )

-- ---- bytes behind a blob

-- one more of the key's bytes, and the key is not whole
pub step_key : (taken : List ℕ) (bands : List Pixels) (front rest : List ℕ) (byte : ℕ) → IsBetween taken bands front rest → length bands < 16 → length rest < 5 → rest ++ byte ∷ [] ≡ take (suc (length rest)) (codes "Lerc2 ")
    → IsBetween (taken ++ byte ∷ []) bands front (rest ++ byte ∷ [])
step_key taken bands front rest byte b few short key =
    let long : length (rest ++ byte ∷ []) ≡ suc (length rest) = let l = length-append rest (byte ∷ []) in omega (arith, l) in
    record {
      behind = behind_more taken (byte ∷ []) bands front rest b.behind;
      some = b.some;
      few = λ more. few;
      short = omega (arith, long, short);
      key = key ∙ ap (λ n. take n (codes "Lerc2 ")) (sym long);
    }

-- the key is whole: the next blob has begun
pub step_begin : (taken : List ℕ) (bands : List Pixels) (front rest : List ℕ) (byte : ℕ) → IsBetween taken bands front rest → length bands < 16 → rest ++ byte ∷ [] ≡ codes "Lerc2 " → IsInside (taken ++ byte ∷ []) bands front (rest ++ byte ∷ [])
step_begin taken bands front rest byte b few key =
    let long : length (rest ++ byte ∷ []) ≡ 6 = ap length key in
    record {
      behind = behind_more taken (byte ∷ []) bands front rest b.behind;
      begun = inr (few, take_all 6 (rest ++ byte ∷ []) (omega (arith, long)) ∙ key);
      like = λ h head. absurd (omega (arith, long, head.long));
      more = more_key {before = last_after None bands} (rest ++ byte ∷ []) (omega (arith, long));
    }

-- another byte: nothing more begins
pub step_left : (taken : List ℕ) (bands : List Pixels) (front rest : List ℕ) (byte : ℕ) → IsBetween taken bands front rest → IsNoBlob bands (rest ++ byte ∷ []) → FirstBandsFault (taken ++ byte ∷ []) (length front) (OfBlob Leftover) × IsLeastFault (taken ++ byte ∷ [])
step_left taken bands front rest byte b no_ = (
  left_decided (taken ++ byte ∷ []) bands front (rest ++ byte ∷ []) (behind_more taken (byte ∷ []) bands front rest b.behind) no_,
  least_of_last (taken ++ byte ∷ []) (λ q a w. between_undecided taken bands front rest b q a (subst (λ (u : List ℕ). FirstBandsFault u q a) back w)),
)
  where
    back : take (length (taken ++ byte ∷ []) - 1) (taken ++ byte ∷ []) ≡ taken
    back = take_at taken (byte ∷ []) (length (taken ++ byte ∷ []) - 1) (let l = length-append taken (byte ∷ []) in omega (arith, l))
