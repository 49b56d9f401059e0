-- A decoder of bands at each of its stages.
use Rattle.std.proofs.Common.{◌≡◌, ℕ, ◌+◌, ◌<◌, zero, suc, List, [], ◌∷◌, ◌++◌, length, get_or, take, codes, Option, None, Some, Result, Ok, Err, refl, sym, ap, ◌∙◌, subst, arith, ◌⊎◌, inl, inr}
use Rattle.std.specs.Prelude.{IfOk}
use Rattle.std.specs.List.{slice_get}
use Rattle.std.proofs.lemmas.List.{append_assoc, append-nil, length-append, length-take-le, take_all, take_more}
use Rattle.std.proofs.lemmas.Option.{get_or_from_slice_get}
use Rattle.std.proofs.lemmas.List.Folds.{concat-append}
use Rattle.raster_values.specs.Raster.{Pixels}
use Rattle.lerc_header.specs.declared.fault.BlobReason.TheVariants.{Truncated, Leftover}
use Rattle.lerc_grammar.specs.declared.bands.BandReason.TheVariants.{Blob as OfBlob}
use Rattle.lerc_grammar.specs.Mask.{Previous, previous_of}
use Rattle.lerc_grammar.specs.Blob.{BlobAfter}
use Rattle.lerc_grammar.specs.Verdict.{FirstFaultAfter, of_key, of_field, of_blob}
use Rattle.lerc_grammar.specs.Bands.{BandsBlob, BandsFaultAt, FirstBandsFault, IsLeastFault, IsNoBlob, last_after, Decoded, Refused as RefusedOf}
use Rattle.lerc_grammar.specs.BandsReading.{IsInside, IsBetween}
use Rattle.lerc_grammar.proofs.Verdicts.{done_head}
use Rattle.lerc_grammar.proofs.BandsOnce.{one_bands_verdict}
use Rattle.lerc_grammar.proofs.BandsReader.{begin, step_key, step_begin, step_left}
use Rattle.lerc_grammar.proofs.BandsSteps.{cut_there, inside_undecided, inside_not_whole, whole_there, left_there, between_undecided}
use Rattle.lerc_decode.specs.declared.streams.decoder.FedState.TheVariants.{More}
use Rattle.lerc_decode.specs.Decoding.{Stage, Key, Fields, Body, Whole, Wrong as WrongBlob, NoMemory as NoneLeft, Decoding, HasHeader, IsStageOf}
use Rattle.lerc_decode.specs.States.{state_at}
use Rattle.lerc_decode.specs.Reading.{WholeFront, BandsStage, InBlob, Behind, Wrong, NoMemory, AreBlobs, AreKept, IsFrontOf, IsAt}
use Rattle.lerc_decode.specs.BandsStates.{state_of, IsBandsTold}
use Rattle.lerc_decode.specs.declared.streams.bands.BandsProgress.{BandsProgress}
use Rattle.lerc_decode.specs.declared.streams.bands.BandsProgress.TheVariants.{Inside as AtBlob, Behind as AtKey, Refused as AtFault, OutOfMemory as AtNone}
use Rattle.lerc_decode.specs.inside.BandsStages.{stage_in, IsBegunBehind}
use Rattle.lerc_decode.specs.inside.Turns.{kept_with, with_blob}
use Rattle.lerc_decode.proofs.BlobTurns.{header_before}

-- ---- one blob more

blobs_next : (before : Option Previous) (blobs : List (List ℕ)) (bands : List Pixels) (blob : List ℕ) (r : Pixels) → AreBlobs before blobs bands → BlobAfter (last_after before bands) blob r → AreBlobs before (blobs ++ blob ∷ []) (bands ++ r ∷ [])
blobs_next before [] [] blob r none_ is = (is, tt)
blobs_next before (b ∷ blobs) (x ∷ bands) blob r (first, more) is = (first, blobs_next (Some (previous_of x)) blobs bands blob r more is)
blobs_next before [] (x ∷ bands) blob r none_ is = absurd none_
blobs_next before (b ∷ blobs) [] blob r none_ is = absurd none_

kept_next : (kept : Option (List (List ℕ))) (bytes blob : List ℕ) (bands : List Pixels) (r : Pixels) → AreKept kept bytes bands → BlobAfter (last_after None bands) blob r → AreKept (kept_with kept blob) (bytes ++ blob) (bands ++ r ∷ [])
kept_next None bytes blob bands r k is = tt
kept_next (Some blobs) bytes blob bands r (joined, are) is =
    (concat-append blobs (blob ∷ []) ∙ (λ i. joined i ++ append-nil blob i), blobs_next None blobs bands blob r are is)

pub front_next : (f : WholeFront) (bytes blob : List ℕ) (r : Pixels) → IsFrontOf bytes f → BlobAfter (last_after None f.bands) blob r → IsFrontOf (bytes ++ blob) (with_blob f r blob)
front_next f bytes blob r (long, kept) is = (length-append bytes blob ∙ ap (λ n. n + length blob) long, kept_next f.kept bytes blob f.bands r kept is)

-- ---- at the start

pub at_start : (k : Option (List (List ℕ))) (d : Decoding) → AreKept k [] [] → d.taken ≡ [] → d.stage ≡ Key → d.before ≡ None → IsAt [] (record { bands = []; place = 0; kept = k }) (InBlob d)
at_start k d kept none_ key first = (
  [],
  (
    (refl, kept),
    (
      subst (λ (u : List ℕ). IsInside [] [] [] u) (sym none_) begin,
      record {
        before = first;
        stands = subst (λ (s : Stage). IsStageOf d.before d.taken s) (sym key) (omega (arith, ap length none_));
        more = ap state_at key;
      },
    ),
  ),
)

-- ---- bytes behind a whole blob

next_key : (have byte : ℕ) → have < 6 → byte ≡ get_or (codes "Lerc2 ") have 0 → take have (codes "Lerc2 ") ++ byte ∷ [] ≡ take (have + 1) (codes "Lerc2 ")
next_key have byte below is = ap (λ (b : ℕ). take have (codes "Lerc2 ") ++ b ∷ []) is ∙ sym (take_more (codes "Lerc2 ") have 0 (omega (arith, below)))

key_length : (have : ℕ) → have < 6 → length (take have (codes "Lerc2 ")) ≡ have
key_length have below = length-take-le have (codes "Lerc2 ") (omega (arith, below))

-- 16 blobs came, or another byte than the key's
no_blob_here : (bands : List Pixels) (have byte : ℕ) → have < 6 → 0 < length bands → (length bands ≡ 16) ⊎ (¬ (byte ≡ get_or (codes "Lerc2 ") have 0)) → IsNoBlob bands (take have (codes "Lerc2 ") ++ byte ∷ [])
no_blob_here bands have byte below some (inl full) = (some, inl (full, omega (arith, length-append (take have (codes "Lerc2 ")) (byte ∷ []))))
no_blob_here bands have byte below some (inr other) = (some, inr (λ e. other (same e)))
  where
    rest : List ℕ
    rest = take have (codes "Lerc2 ")

    same : take 6 (rest ++ byte ∷ []) ≡ take (length (rest ++ byte ∷ [])) (codes "Lerc2 ") → byte ≡ get_or (codes "Lerc2 ") have 0
    same e =
        let l = key_length have below in
        let long : length (rest ++ byte ∷ []) ≡ have + 1 = length-append rest (byte ∷ []) ∙ ap (λ n. n + 1) l in
        let joins : rest ++ byte ∷ [] ≡ rest ++ get_or (codes "Lerc2 ") have 0 ∷ [] =
        sym (take_all 6 (rest ++ byte ∷ []) (omega (arith, long, below))) ∙ e ∙ ap (λ n. take n (codes "Lerc2 ")) long ∙ take_more (codes "Lerc2 ") have 0 (omega (arith, below)) in
        sym (last_of rest byte) ∙ ap (λ (u : List ℕ). get_or u (length rest) 0) joins ∙ last_of rest (get_or (codes "Lerc2 ") have 0)
      where
        last_of : (xs : List ℕ) (b : ℕ) → get_or (xs ++ b ∷ []) (length xs) 0 ≡ b
        last_of [] b = refl
        last_of (x ∷ xs) b = last_of xs b

pub left_over : (taken bytes : List ℕ) (f : WholeFront) (have byte : ℕ) → have < 6 → IsFrontOf bytes f → IsBetween taken f.bands bytes (take have (codes "Lerc2 ")) → (length f.bands ≡ 16) ⊎ (¬ (byte ≡ get_or (codes "Lerc2 ") have 0))
    → IsAt (taken ++ byte ∷ []) f (Wrong f.place (OfBlob Leftover))
left_over taken bytes f have byte below front b why =
    subst (λ (n : ℕ). FirstBandsFault (taken ++ byte ∷ []) n (OfBlob Leftover) × IsLeastFault (taken ++ byte ∷ [])) front.0
    (step_left taken f.bands bytes (take have (codes "Lerc2 ")) byte b (no_blob_here f.bands have byte below b.some why))

fewer : (bands : List Pixels) (taken front rest : List ℕ) → IsBetween taken bands front rest → ¬ (length bands ≡ 16) → length bands < 16
fewer bands taken front rest b other = omega (arith, b.behind.may_be.few, other)

pub more_key_bytes : (taken bytes : List ℕ) (f : WholeFront) (have byte : ℕ) → have < 5 → IsFrontOf bytes f → IsBetween taken f.bands bytes (take have (codes "Lerc2 ")) → ¬ (length f.bands ≡ 16) → byte ≡ get_or (codes "Lerc2 ") have 0
    → IsAt (taken ++ byte ∷ []) f (Behind (have + 1))
more_key_bytes taken bytes f have byte below front b other is =
    let l = key_length have (omega (arith, below)) in
    let e = next_key have byte (omega (arith, below)) is in
    let there = step_key taken f.bands bytes (take have (codes "Lerc2 ")) byte b (fewer f.bands taken bytes (take have (codes "Lerc2 ")) b other) (omega (arith, l, below)) (e ∙ ap (λ n. take n (codes "Lerc2 ")) (let t : have + 1 ≡ suc (length (take have (codes "Lerc2 "))) = omega (arith, l) in t)) in
    (bytes, (front, (subst (λ (u : List ℕ). IsBetween (taken ++ byte ∷ []) f.bands bytes u) e there, omega (arith, below))))

-- after six bytes nothing is decided
early : (before : Option Previous) (t : List ℕ) (s : Stage) → IsStageOf before t s → length t ≡ 6 → state_at s ≡ More
early before t Key stands six = refl
early before t (Fields v) stands six = refl
early before t (Body h) stands six = refl
early before t (Whole r) stands six = let d = done_head {before = before} t r (length t) stands.0 in absurd (omega (arith, six, d.1.1.1.long, length-take-le (length t) t (omega arith)))
early before t (WrongBlob place reason) stands six = absurd (late stands.0)
  where
    late : FirstFaultAfter before t place reason → ⊥
    late (of_key long w) = omega (arith, long, six)
    late (of_field v long key version w) = omega (arith, long, six)
    late (of_blob h long at w) = omega (arith, at.long, long, six, length-take-le h.size t long)
early before t NoneLeft stands six = absurd (omega (arith, six, stands.stands.long))

pub next_begun : (taken bytes : List ℕ) (f : WholeFront) (byte : ℕ) (d : Decoding) → IsFrontOf bytes f → IsBetween taken f.bands bytes (take 5 (codes "Lerc2 ")) → ¬ (length f.bands ≡ 16) → byte ≡ get_or (codes "Lerc2 ") 5 0
    → d.taken ≡ codes "Lerc2 " → d.before ≡ last_after None f.bands → IsStageOf d.before d.taken d.stage → IsAt (taken ++ byte ∷ []) f (InBlob d)
next_begun taken bytes f byte d front b other is key before stands =
    let e = next_key 5 byte (omega arith) is in
    let there = step_begin taken f.bands bytes (take 5 (codes "Lerc2 ")) byte b (fewer f.bands taken bytes (take 5 (codes "Lerc2 ")) b other) e in (
      bytes,
      (
        front,
        (
          subst (λ (u : List ℕ). IsInside (taken ++ byte ∷ []) f.bands bytes u) (e ∙ sym key) there,
          record { before = before; stands = stands; more = early d.before d.taken d.stage stands (ap length key) },
        ),
      ),
    )

pub no_room : (taken more bytes : List ℕ) (bands : List Pixels) (rest : List ℕ) → IsBetween taken bands bytes rest → HasHeader (taken ++ more)
no_room taken more bytes bands rest b =
    subst (λ (u : List ℕ). HasHeader (u ++ more)) (sym b.behind.joined) (subst HasHeader (sym (append_assoc bytes rest more)) (header_before None bands bytes (rest ++ more) b.behind.stand b.some))

-- ---- what is known at a stage

part_left : (taken : List ℕ) (bands : List Pixels) (front : List ℕ) (n : ℕ) → suc n < 6 → IsBetween taken bands front (take (suc n) (codes "Lerc2 ")) → BandsFaultAt taken (length front) (OfBlob Leftover)
part_left taken bands front n below b =
    left_there taken bands front (take (suc n) (codes "Lerc2 ")) b (λ e. let l = key_length (suc n) below in absurd (omega (arith, l, ap length e)))

pub told_at : (taken : List ℕ) (f : WholeFront) (s : BandsStage) → IsAt taken f s → IsBandsTold taken (state_of s)
told_at taken f (InBlob d) (front, (is, (inside, goes))) = record { not_whole = inside_not_whole taken f.bands front d.taken inside; no_fault = inside_undecided taken f.bands front d.taken inside }
told_at taken f (Behind zero) (front, (is, (b, below))) = (f.bands, whole_there taken f.bands front [] b refl)
told_at taken f (Behind (suc n)) (front, (is, (b, below))) = record {
  not_whole = λ bands whole. let e = one_bands_verdict taken (Decoded bands) (RefusedOf (length front) (OfBlob Leftover)) whole (part_left taken f.bands front n below b) in cc;
  no_fault = between_undecided taken f.bands front (take (suc n) (codes "Lerc2 ")) b;
}
told_at taken f (Wrong place reason) is = is
told_at taken f NoMemory is = is

-- the end is in a blob
pub cut_off : (taken : List ℕ) (f : WholeFront) (d : Decoding) → IsAt taken f (InBlob d) → BandsFaultAt taken (f.place + length d.taken) (OfBlob Truncated)
cut_off taken f d (front, (is, (inside, goes))) =
    subst (λ (n : ℕ). BandsFaultAt taken n (OfBlob Truncated)) (ap length inside.behind.joined ∙ length-append front d.taken ∙ ap (λ n. n + length d.taken) is.0) (cut_there taken f.bands front d.taken inside)

-- or in a key
pub key_cut : (taken : List ℕ) (f : WholeFront) (have : ℕ) → 0 < have → IsAt taken f (Behind have) → BandsFaultAt taken f.place (OfBlob Leftover)
key_cut taken f zero some is = absurd (omega (arith, some))
key_cut taken f (suc n) some (front, (is, (b, below))) = subst (λ (k : ℕ). BandsFaultAt taken k (OfBlob Leftover)) is.0 (part_left taken f.bands front n below b)

-- or behind a blob
pub all_whole : (taken : List ℕ) (f : WholeFront) → IsAt taken f (Behind 0) → BandsBlob taken f.bands × AreKept f.kept taken f.bands
all_whole taken f (front, (is, (b, below))) =
    (whole_there taken f.bands front [] b refl, subst (λ (u : List ℕ). AreKept f.kept u f.bands) (sym (b.behind.joined ∙ append-nil front)) is.1)

-- ---- the last band

last_of_bands : (before : Option Previous) (bands : List Pixels) (r : Pixels) (n : ℕ) → length bands ≡ suc n → get_or bands n r ≡ r → last_after before bands ≡ Some (previous_of r)
last_of_bands before [] r n long is = absurd (omega (arith, long))
last_of_bands before (x ∷ []) r zero long is = ap (λ (p : Pixels). Some (previous_of p)) is
last_of_bands before (x ∷ []) r (suc n) long is = absurd (omega (arith, long))
last_of_bands before (x ∷ y ∷ more) r zero long is = absurd (omega (arith, long))
last_of_bands before (x ∷ y ∷ more) r (suc n) long is = last_of_bands (Some (previous_of x)) (y ∷ more) r n (omega (arith, long)) is

pub behind_last : {E : Type 0} → (result : Result Decoding E) (own bands : List Pixels) (r : Pixels) (n : ℕ) → own ≡ bands → IfOk result (λ d. d.before ≡ Some (previous_of r)) → length bands ≡ suc n → slice_get bands n ≡ Some r → IfOk result (λ d. d.before ≡ last_after None own)
behind_last (Ok d) own bands r n same is long at = is ∙ sym (last_of_bands None bands r n long (get_or_from_slice_get bands n r r at)) ∙ ap (last_after None) (sym same)
behind_last (Err e) own bands r n same is long at = tt

-- ---- what the code holds

pub at_progress : (taken : List ℕ) (f : WholeFront) (p q : BandsProgress) → p ≡ q → IsAt taken f (stage_in p) → IsAt taken f (stage_in q)
at_progress taken f p q is at = subst (λ (x : BandsProgress). IsAt taken f (stage_in x)) is at

-- the key is whole
pub begun_at : (taken bytes : List ℕ) (f : WholeFront) (have byte : ℕ) (p : BandsProgress) → have < 6 → ¬ (have < 5) → IsFrontOf bytes f → IsBetween taken f.bands bytes (take have (codes "Lerc2 ")) → ¬ (length f.bands ≡ 16) → byte ≡ get_or (codes "Lerc2 ") have 0
    → IsBegunBehind f.bands p → IsAt (taken ++ byte ∷ []) f (stage_in p)
begun_at taken bytes f have byte p below high front b other is begun = by p begun
  where
    five : have ≡ 5
    five = omega (arith, below, high)

    there : IsBetween taken f.bands bytes (take 5 (codes "Lerc2 "))
    there = subst (λ (n : ℕ). IsBetween taken f.bands bytes (take n (codes "Lerc2 "))) five b

    byte_is : byte ≡ get_or (codes "Lerc2 ") 5 0
    byte_is = subst (λ (n : ℕ). byte ≡ get_or (codes "Lerc2 ") n 0) five is

    by : (p : BandsProgress) → IsBegunBehind f.bands p → IsAt (taken ++ byte ∷ []) f (stage_in p)
    by (AtBlob d) begun = next_begun taken bytes f byte d front there other byte_is begun.0 begun.1.0 begun.1.1
    by AtNone begun = no_room taken (byte ∷ []) bytes f.bands (take have (codes "Lerc2 ")) b
    by (AtKey n) begun = absurd begun
    by (AtFault g) begun = absurd begun
