-- Feeding a decoder of bands from a source.
use Rattle.std.proofs.Common.{◌≡◌, ℕ, ◌+◌, ◌-◌, ◌<◌, ◌≤◌, zero, suc, List, [], ◌∷◌, ◌++◌, length, take, drop, codes, Option, None, Some, Ok, refl, sym, ap, ◌∙◌, subst, arith, ◌⊎◌, inl, inr}
use Rattle.std.specs.Prelude.{min}
use Rattle.std.proofs.lemmas.List.{append_assoc, length-append, length-take-le, take-append-drop, take-take}
use Rattle.std.proofs.Math.Seq.{drop-append-add}
use Rattle.outside_io.specs.streams.Source.{Takes, TakesUpTo, IsAtEnd}
use Rattle.lerc_header.specs.declared.header.Version.{Version}
use Rattle.lerc_header.specs.declared.header.Version.TheVariants.{V3, V4}
use Rattle.lerc_header.specs.Head.{head_length}
use Rattle.lerc_grammar.proofs.BandsDecided.{begun_few}
use Rattle.lerc_decode.specs.Decoding.{Stage, Key, Fields, Body, Whole, Wrong as WrongBlob, NoMemory as NoneLeft, Decoding, HasHeader, IsStageOf}
use Rattle.lerc_decode.specs.declared.streams.decoder.FedState.TheVariants.{More}
use Rattle.lerc_decode.specs.States.{state_at, missing_at}
use Rattle.lerc_decode.specs.Reading.{WholeFront, BandsStage, InBlob, Behind, Wrong, NoMemory, BandsDecoding, IsAt, IsAfter, HasEndedAt, wanted}
use Rattle.lerc_decode.specs.inside.BandsFeeding.{Reads, ReadsAt, HasRead, reached, room_at, room_of}
use Rattle.lerc_decode.proofs.BlobTurns.{missing_some}
use Rattle.lerc_decode.proofs.FirstBlobs.{header_more}
use Rattle.lerc_grammar.proofs.BlobPlaces.{blobs_few}

-- ---- how many bytes are taken

pub reached_is : (taken : List ℕ) (f : WholeFront) (s : BandsStage) → IsAt taken f s → 0 < wanted s → length taken ≡ reached f s
reached_is taken f (InBlob d) (front, (is, (inside, goes))) some = ap length inside.behind.joined ∙ length-append front d.taken ∙ ap (λ n. n + length d.taken) is.0
reached_is taken f (Behind have) (front, (is, (b, below))) some =
    ap length b.behind.joined ∙ length-append front (take have (codes "Lerc2 ")) ∙ (λ i. is.0 i + length-take-le have (codes "Lerc2 ") (let t : have ≤ length (codes "Lerc2 ") = omega (arith, below) in t) i)
reached_is taken f (Wrong place reason) is some = absurd (omega (arith, some))
reached_is taken f NoMemory is some = absurd (omega (arith, some))

-- what a blob's decoder has taken and what is missing are no more than a blob may have
missing_few : (d : Decoding) → IsStageOf d.before d.taken d.stage → state_at d.stage ≡ More → length d.taken + missing_at d.stage (length d.taken) ≤ 134217728
missing_few d stands more = by d.stage stands more
  where
    short : (v : Version) → head_length v ≤ 134217728
    short V3 = omega arith
    short V4 = omega arith

    by : (s : Stage) → IsStageOf d.before d.taken s → state_at s ≡ More → length d.taken + missing_at s (length d.taken) ≤ 134217728
    by Key stands more = omega (arith, stands)
    by (Fields v) stands more = omega (arith, stands.1.0, short v)
    by (Body h) stands more = omega (arith, stands.1, stands.0.size_below)
    by (Whole r) stands more = absurd (cc)
    by (WrongBlob place reason) stands more = absurd (cc)
    by NoneLeft stands more = absurd (cc)

pub blob_wants : (taken : List ℕ) (f : WholeFront) (d : Decoding) → IsAt taken f (InBlob d) → 0 < missing_at d.stage (length d.taken)
blob_wants taken f d (front, (is, (inside, goes))) = missing_some d.before d.taken d.stage goes.stands goes.more

pub few_taken : (taken : List ℕ) (f : WholeFront) (s : BandsStage) → IsAt taken f s → 0 < wanted s → length taken + wanted s ≤ 2147483649
few_taken taken f (InBlob d) (front, (is, (inside, goes))) some =
    omega (arith, ap length inside.behind.joined, length-append front d.taken, blobs_few None front f.bands inside.behind.stand, begun_few f.bands d.taken inside.begun, missing_few d goes.stands goes.more)
few_taken taken f (Behind zero) (front, (is, (b, below))) some =
    omega (arith, ap length b.behind.joined, length-append front [], blobs_few None front f.bands b.behind.stand, b.behind.may_be.few)
few_taken taken f (Behind (suc n)) (front, (is, (b, below))) some =
    let l : length (take (suc n) (codes "Lerc2 ")) ≡ suc n = length-take-le (suc n) (codes "Lerc2 ") (let t : suc n ≤ length (codes "Lerc2 ") = omega (arith, below) in t) in
    omega (arith, l, below, ap length b.behind.joined, length-append front (take (suc n) (codes "Lerc2 ")), blobs_few None front f.bands b.behind.stand, b.few (omega (arith, l)))
few_taken taken f (Wrong place reason) is some = absurd (omega (arith, some))
few_taken taken f NoMemory is some = absurd (omega (arith, some))

-- the place of the end fits
pub blob_reached : (taken : List ℕ) (f : WholeFront) (d : Decoding) → IsAt taken f (InBlob d) → f.place + length d.taken ≤ 2147483649
blob_reached taken f d is =
    let some = blob_wants taken f d is in
    omega (arith, reached_is taken f (InBlob d) is some, few_taken taken f (InBlob d) is some)

room_is : (taken : List ℕ) (f : WholeFront) (s : BandsStage) → IsAt taken f s → 0 < wanted s → room_at f s ≡ 2147483650 - length taken
room_is taken f (InBlob d) is some = ap (λ n. 2147483650 - n) (sym (reached_is taken f (InBlob d) is some))
room_is taken f (Behind have) is some = ap (λ n. 2147483650 - n) (sym (reached_is taken f (Behind have) is some))
room_is taken f (Wrong place reason) is some = absurd (omega (arith, some))
room_is taken f NoMemory is some = absurd (omega (arith, some))

-- with more bytes it falls
pub room_falls : (taken part : List ℕ) (d e : BandsDecoding) → IsAfter taken d → 0 < wanted d.stage → IsAfter (taken ++ part) e → (e.stage ≡ NoMemory) ⊎ (0 < length part) → room_of e < room_of d
room_falls taken part d e old some new why = by e.stage new why
  where
    there : 0 < room_of d
    there = omega (arith, room_is taken d.front d.stage old some, few_taken taken d.front d.stage old some, some)

    live : (s : BandsStage) → IsAt (taken ++ part) e.front s → 0 < wanted s → 0 < length part → room_at e.front s < room_of d
    live s new more long = omega (arith, room_is (taken ++ part) e.front s new more, room_is taken d.front d.stage old some, few_taken taken d.front d.stage old some, length-append taken part, long, some)

    by : (s : BandsStage) → IsAt (taken ++ part) e.front s → (s ≡ NoMemory) ⊎ (0 < length part) → room_at e.front s < room_of d
    by (InBlob x) new (inl is) = absurd (cc)
    by (InBlob x) new (inr long) = live (InBlob x) new (blob_wants (taken ++ part) e.front x new) long
    by (Behind have) new (inl is) = absurd (cc)
    by (Behind have) new (inr long) = live (Behind have) new (omega arith) long
    by (Wrong place reason) new why = there
    by NoMemory new why = there

-- ---- one call on the source

-- the bytes that came are taken, all of them but for want of memory
pub reads_more : (first left0 left1 : Option (List ℕ)) (got used : ℕ) (buf : List ℕ) (d e : BandsDecoding) → Takes left0 left1 (Ok got) buf → ((taken : List ℕ) → IsAfter taken d → IsAfter (taken ++ take used (take got buf)) e)
    → (e.stage ≡ NoMemory) ⊎ (used ≡ got) → Reads first left0 d → HasRead first left1 e
reads_more None left0 left1 got used buf d e takes step why (none_, (taken, is)) = by e.stage why (step taken is)
  where
    untold : Takes None left1 (Ok got) buf
    untold = subst (λ (o : Option (List ℕ)). Takes o left1 (Ok got) buf) none_ takes

    by : (s : BandsStage) → (s ≡ NoMemory) ⊎ (used ≡ got) → IsAt (taken ++ take used (take got buf)) e.front s → ReadsAt s None (Reads None left1 e)
    by (InBlob x) why new = (untold, (taken ++ take used (take got buf), step taken is))
    by (Behind have) why new = (untold, (taken ++ take used (take got buf), step taken is))
    by (Wrong place reason) why new = (untold, (taken ++ take used (take got buf), step taken is))
    by NoMemory why new = tt
reads_more (Some input) left0 left1 got used buf d e takes step why (taken, (rest, (joined, (left, is)))) = by e.stage why (step taken is)
  where
    told : Takes (Some rest) left1 (Ok got) buf
    told = subst (λ (o : Option (List ℕ)). Takes o left1 (Ok got) buf) left takes

    piece : take got buf ≡ take got rest
    piece = told.0.1.1

    all : (used ≡ got) → Reads (Some input) left1 e
    all same =
        let whole : take used (take got buf) ≡ take got rest = ap (λ n. take n (take got buf)) same ∙ ap (take got) piece ∙ take-take got got rest (omega arith) in (
          taken ++ take got rest,
          (
            drop got rest,
            (
              joined ∙ ap (λ (u : List ℕ). taken ++ u) (sym (take-append-drop got rest)) ∙ sym (append_assoc taken (take got rest) (drop got rest)),
              (told.0.0, subst (λ (u : List ℕ). IsAfter (taken ++ u) e) whole (step taken is)),
            ),
          ),
        )

    by : (s : BandsStage) → (s ≡ NoMemory) ⊎ (used ≡ got) → IsAt (taken ++ take used (take got buf)) e.front s → ReadsAt s (Some input) (Reads (Some input) left1 e)
    by (InBlob x) (inl none_) new = absurd (cc)
    by (InBlob x) (inr same) new = all same
    by (Behind have) (inl none_) new = absurd (cc)
    by (Behind have) (inr same) new = all same
    by (Wrong place reason) (inl none_) new = absurd (cc)
    by (Wrong place reason) (inr same) new = all same
    by NoMemory why new =
        let part = take used (take got buf) in
        let behind = drop used (take got rest) ++ drop got rest in
        let whole : input ≡ (taken ++ part) ++ behind =
        joined ∙ ap (λ (u : List ℕ). taken ++ u) (sym (take-append-drop got rest) ∙ ap (λ (u : List ℕ). u ++ drop got rest) (sym (take-append-drop used (take got rest))) ∙ append_assoc (take used (take got rest)) (drop used (take got rest)) (drop got rest))
        ∙ sym (append_assoc taken (take used (take got rest)) behind) ∙ ap (λ (u : List ℕ). (taken ++ take used u) ++ behind) (sym piece) in
        subst HasHeader (sym whole) (header_more (taken ++ part) behind new)

-- where nothing came, the source is as it was
pub reads_none : (first left0 left1 : Option (List ℕ)) (buf : List ℕ) (d : BandsDecoding) → Takes left0 left1 (Ok 0) buf → HasRead first left0 d → HasRead first left1 d
reads_none first None left1 buf d takes read = subst (λ (o : Option (List ℕ)). HasRead first o d) (sym takes) read
reads_none first (Some rest) left1 buf d takes read = subst (λ (o : Option (List ℕ)). HasRead first o d) (sym takes.0.0) read

-- a stage at which more is decided tells what was read
pub reads_at : (first new : Option (List ℕ)) (d : BandsDecoding) → 0 < wanted d.stage → HasRead first new d → Reads first new d
reads_at first new d some read = by d.stage some read
  where
    by : (s : BandsStage) → 0 < wanted s → ReadsAt s first (Reads first new d) → Reads first new d
    by (InBlob x) some read = read
    by (Behind have) some read = read
    by (Wrong place reason) some read = read
    by NoMemory some read = absurd (omega (arith, some))

pub at_end : (left0 left1 : Option (List ℕ)) (got : ℕ) (buf : List ℕ) → got ≡ 0 → Takes left0 left1 (Ok got) buf → (length buf ≡ 0) ⊎ IsAtEnd left1
at_end None left1 got buf none_ takes = inr (subst IsAtEnd (sym takes) tt)
at_end (Some rest) left1 got buf none_ takes = by buf takes
  where
    by : (buf : List ℕ) → Takes (Some rest) left1 (Ok got) buf → (length buf ≡ 0) ⊎ IsAtEnd left1
    by [] takes = inl refl
    by (b ∷ bs) takes =
        let empty : rest ≡ [] = (takes.1 (omega arith)).0 none_ in
        inr (subst IsAtEnd (sym (takes.0.0 ∙ ap (λ n. Some (drop n rest)) none_ ∙ ap Some empty)) refl)

-- ---- how many bytes are taken at most

-- with what was taken before
pub takes_all : (first left0 left1 : Option (List ℕ)) (d : BandsDecoding) → 0 < wanted d.stage → Reads first left0 d → TakesUpTo (wanted d.stage) left0 left1 → TakesUpTo 2147483649 first left1
takes_all None left0 left1 d some (none_, is) t = let there : TakesUpTo (wanted d.stage) None left1 = subst (λ (o : Option (List ℕ)). TakesUpTo (wanted d.stage) o left1) none_ t in there
takes_all (Some input) left0 left1 d some (taken, (rest, (joined, (left, is)))) t =
    let there : TakesUpTo (wanted d.stage) (Some rest) left1 = subst (λ (o : Option (List ℕ)). TakesUpTo (wanted d.stage) o left1) left t in
    let m = there.0 in (
      length taken + m,
      (
        omega (arith, few_taken taken d.front d.stage is some, there.1.0),
        (
          omega (arith, ap length joined, length-append taken rest, there.1.1.0),
          there.1.1.1 ∙ ap Some (sym (drop-append-add taken rest m) ∙ ap (drop (length taken + m)) (sym joined)),
        ),
      ),
    )

same_left : (left0 left1 : Option (List ℕ)) → TakesUpTo 0 left0 left1 → left1 ≡ left0
same_left None left1 t = t
same_left (Some rest) left1 (m, (few, (within, e))) = let none_ : m ≡ 0 = omega (arith, few) in e ∙ ap (λ k. Some (drop k rest)) none_

pub takes_more_of : (first left0 left1 : Option (List ℕ)) (d : BandsDecoding) → HasRead first left0 d → TakesUpTo (wanted d.stage) left0 left1 → TakesUpTo 2147483649 first left0 → TakesUpTo 2147483649 first left1
takes_more_of first left0 left1 d read t before = by (wanted d.stage) refl t
  where
    by : (n : ℕ) → wanted d.stage ≡ n → TakesUpTo n left0 left1 → TakesUpTo 2147483649 first left1
    by zero none_ t = subst (TakesUpTo 2147483649 first) (sym (same_left left0 left1 t)) before
    by (suc n) is t = takes_all first left0 left1 d (omega (arith, is)) (reads_at first left0 d (omega (arith, is)) read) (subst (λ (k : ℕ). TakesUpTo k left0 left1) (sym is) t)

pub takes_none : (left : Option (List ℕ)) (most : ℕ) → TakesUpTo most left left
takes_none None most = refl
takes_none (Some left) most = (0, (omega arith, (omega arith, refl)))

-- at the start
pub reads_nothing : (left : Option (List ℕ)) (d : BandsDecoding) → IsAfter [] d → Reads left left d
reads_nothing None d is = (refl, ([], is))
reads_nothing (Some input) d is = ([], (input, (refl, (refl, is))))

pub has_started : (left : Option (List ℕ)) (d : BandsDecoding) → IsAfter [] d → HasRead left left d
has_started left d is = by d.stage is
  where
    by : (s : BandsStage) → IsAt [] d.front s → ReadsAt s left (Reads left left d)
    by (InBlob x) at = reads_nothing left d is
    by (Behind have) at = reads_nothing left d is
    by (Wrong place reason) at = reads_nothing left d is
    by NoMemory at = absurd (omega (arith, at.stands.long))

-- ---- pieces

pub ended_wants : (s : BandsStage) → HasEndedAt s → wanted s ≡ 0
ended_wants (InBlob d) e = absurd e
ended_wants (Behind have) e = absurd e
ended_wants (Wrong place reason) e = refl
ended_wants NoMemory e = refl

-- a step uses all that came, but for want of memory
pub used_of : (s t : BandsStage) (got used : ℕ) (buf : List ℕ) → got ≤ length buf → length buf ≤ wanted s → (t ≡ NoMemory) ⊎ (used ≡ min (wanted s) (length (take got buf))) → (t ≡ NoMemory) ⊎ (used ≡ got)
used_of s t got used buf within short (inl none_) = inl none_
used_of s t got used buf within short (inr u) = inr (omega (arith, u, length-take-le got buf within, within, short))

pub some_used : (t : BandsStage) (got used : ℕ) (buf : List ℕ) → got ≤ length buf → 0 < got → (t ≡ NoMemory) ⊎ (used ≡ got) → (t ≡ NoMemory) ⊎ (0 < length (take used (take got buf)))
some_used t got used buf within some (inl none_) = inl none_
some_used t got used buf within some (inr u) = let l = length-take-le got buf within in inr (omega (arith, u, some, l, length-take-le used (take got buf) (omega (arith, l, u))))
