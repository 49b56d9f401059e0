-- What a piece of a blob comes to behind the blobs of bands.
use Rattle.std.proofs.Common.{◌≡◌, ℕ, ◌+◌, ◌-◌, ◌<◌, ◌≤◌, List, [], ◌∷◌, ◌++◌, length, get_or, take, drop, Option, None, Some, refl, sym, ap, ◌∙◌, subst, arith, ◌⊎◌, inl, inr}
use Rattle.std.specs.Prelude.{min, IfSome}
use Rattle.std.proofs.lemmas.List.{append_assoc, append-nil, length-append, length-take-le, take-append-le, take-append-drop, take-take, take_all}
use Rattle.std.proofs.Math.Seq.{take-append-add}
use Rattle.first_fault.specs.Parts.{IsEmpty}
use Rattle.raster_values.specs.Raster.{Pixels}
use Rattle.lerc_header.specs.declared.header.Header.{Header}
use Rattle.lerc_header.specs.declared.header.Version.{Version}
use Rattle.lerc_header.specs.Head.{HeadAt, head_length}
use Rattle.lerc_header.specs.HeadFaults.{HasVersion}
use Rattle.lerc_header.specs.declared.fault.BlobReason.{BlobReason}
use Rattle.lerc_header.proofs.FaultLemmas.{one_version}
use Rattle.lerc_header.proofs.HeadLemmas.{one_head}
use Rattle.lerc_header.proofs.Prefixes.{head_more, head_of_take}
use Rattle.lerc_grammar.specs.declared.bands.BandReason.{BandReason}
use Rattle.lerc_grammar.specs.declared.bands.BandReason.TheVariants.{Blob as OfBlob}
use Rattle.lerc_grammar.specs.Mask.{Previous}
use Rattle.lerc_grammar.specs.Blob.{BlobAfter}
use Rattle.lerc_grammar.specs.Verdict.{FirstFaultAfter, of_key, of_field, of_blob, IsDoneAfter, IsMoreAfter}
use Rattle.lerc_grammar.specs.Bands.{BlobsAfter, HasLikeHead, IsBegun, last_after, unlike_faults, FirstBandsFault, IsLeastFault}
use Rattle.lerc_grammar.specs.BandsReading.{IsInside, IsBetween}
use Rattle.lerc_grammar.proofs.More.{more_before}
use Rattle.lerc_grammar.proofs.Verdicts.{take_same, no_key_fault, no_field_fault, done_head}
use Rattle.lerc_grammar.proofs.BandsDecided.{IsHeaderFor, decide_like, begun_few}
use Rattle.lerc_grammar.proofs.BandsSteps.{begun_more}
use Rattle.lerc_grammar.proofs.BandsReader.{behind_more, step_more, step_done, step_wrong, step_unlike}
use Rattle.lerc_header.specs.declared.fault.BlobFault.{BlobFault}
use Rattle.lerc_header.specs.declared.fault.BlobReason.TheVariants.{Truncated}
use Rattle.lerc_decode.specs.declared.streams.decoder.FedState.{FedState}
use Rattle.lerc_decode.specs.declared.streams.decoder.FedState.TheVariants.{More, Refused as Refuses, OutOfMemory as NoRoom}
use Rattle.lerc_decode.specs.declared.streams.turns.Ended.{Ended}
use Rattle.lerc_decode.specs.declared.streams.turns.Next.{Next}
use Rattle.lerc_decode.specs.declared.streams.turns.Next.TheVariants.{Goes, Ends, Refused, OutOfMemory}
use Rattle.lerc_decode.specs.Decoding.{Stage, Key, Fields, Body, Whole, Wrong, NoMemory, Decoding, HasHeader, HasTaken, IsLeastAfter, IsStageOf}
use Rattle.lerc_decode.specs.States.{state_at, missing_at, IsTold, IsUsed}
use Rattle.lerc_decode.specs.Reading.{GoesOnBehind}
use Rattle.lerc_decode.specs.inside.Stages.{header_in}
use Rattle.lerc_decode.specs.inside.Turns.{IsCompared, IsNext}
use Rattle.lerc_decode.proofs.FirstBlobs.{header_of_blob, header_more}

-- ---- headers

-- a whole header has the version that its first ten bytes say
its_version : (bytes more : List ℕ) (h : Header) (v : Version) → 10 ≤ length bytes → HasVersion (take 10 bytes) v → HeadAt (bytes ++ more) h → h.version ≡ v
its_version bytes more h v ten version head =
    let front : HasVersion (take 10 (bytes ++ more)) v = subst (λ (u : List ℕ). HasVersion u v) (sym (take-append-le 10 bytes more ten)) version in
    let whole : HasVersion (bytes ++ more) v = sym ((take_same 10 (bytes ++ more) (omega arith) (omega (arith, ten, length-append bytes more))).i32 6 (omega arith)) ∙ front in
    one_version (bytes ++ more) h.version v head.version whole

-- a header that is whole with a piece was so before, or is with its last byte
which_header : (before : Option Previous) (rest piece : List ℕ) (s : Stage) (h : Header) → IsStageOf before rest s → state_at s ≡ More → length piece ≤ missing_at s (length rest) → HeadAt (rest ++ piece) h
    → HeadAt rest h ⊎ (length (rest ++ piece) ≡ head_length h.version)
which_header before rest piece Key h stands more short head = absurd (omega (arith, stands, short, length-append rest piece, head.long))
which_header before rest piece (Fields v) h (ten, (less, (key, version))) more short head =
    let same = ap head_length (its_version rest piece h v ten version head) in
    inr (omega (arith, same, less, short, length-append rest piece, head.long))
which_header before rest piece (Body g) h (at, less) more short head = inl (subst (λ (k : Header). HeadAt rest k) (one_head (rest ++ piece) g h (head_more rest piece g at) head) at)
which_header before rest piece (Whole r) h stands more short head = absurd (cc)
which_header before rest piece (Wrong place reason) h stands more short head = absurd (cc)
which_header before rest piece NoMemory h stands more short head = absurd (cc)

-- where nothing is decided, a header is the one that stands
like_of_stage : (bands : List Pixels) (before : Option Previous) (t : List ℕ) (s : Stage) → IsStageOf before t s → state_at s ≡ More → ((h : Header) → header_in s ≡ Some h → IsEmpty (unlike_faults bands h)) → HasLikeHead bands t
like_of_stage bands before t Key stands more like = λ h head. absurd (omega (arith, stands, head.long))
like_of_stage bands before t (Fields v) (ten, (less, (key, version))) more like = λ h head.
    let same = ap head_length (its_version t [] h v ten version (subst (λ (u : List ℕ). HeadAt u h) (sym (append-nil t)) head)) in
    absurd (omega (arith, same, less, head.long))
like_of_stage bands before t (Body g) (at, less) more like = λ h head. subst (λ (k : Header). IsEmpty (unlike_faults bands k)) (one_head t g h at head) (like g refl)
like_of_stage bands before t (Whole r) stands more like = absurd (cc)
like_of_stage bands before t (Wrong place reason) stands more like = absurd (cc)
like_of_stage bands before t NoMemory stands more like = absurd (cc)

-- where as many bytes are there as it says, it stood before the piece
like_then : (bands : List Pixels) (before : Option Previous) (rest piece : List ℕ) (s : Stage) → IsStageOf before rest s → state_at s ≡ More → length piece ≤ missing_at s (length rest) → HasLikeHead bands rest
    → ((h : Header) → HeadAt (rest ++ piece) h → h.size ≤ length (rest ++ piece)) → HasLikeHead bands (rest ++ piece)
like_then bands before rest piece s stands more short like sized = λ h head. which h head (which_header before rest piece s h stands more short head)
  where
    which : (h : Header) → HeadAt (rest ++ piece) h → HeadAt rest h ⊎ (length (rest ++ piece) ≡ head_length h.version) → IsEmpty (unlike_faults bands h)
    which h head (inl at) = like h at
    which h head (inr whole) = absurd (omega (arith, whole, sized h head, head.size_above))

sized_by_fault : (before : Option Previous) (t : List ℕ) (p : ℕ) (why : BlobReason) → FirstFaultAfter before t p why → (h : Header) → HeadAt t h → h.size ≤ length t
sized_by_fault before t p why (of_key long w) h head = absurd (no_key_fault t h head p why w)
sized_by_fault before t p why (of_field v long key version w) h head = absurd (no_field_fault t h v head long version p why w)
sized_by_fault before t p why (of_blob g long at w) h head = subst (λ (k : Header). k.size ≤ length t) (one_head t g h (head_of_take g.size t g at) head) long

sized_by_done : (before : Option Previous) (t : List ℕ) (r : Pixels) (size : ℕ) → IsDoneAfter before t r size → (h : Header) → HeadAt t h → h.size ≤ length t
sized_by_done before t r size done h head =
    let d = done_head {before = before} t r size done in
    let same = ap (λ (k : Header). k.size) (one_head t d.0 h (head_of_take size t d.0 d.1.1.1) head) in
    omega (arith, same, d.1.1.0, done.0)

header_for : (bands : List Pixels) (t : List ℕ) → HasLikeHead bands t → (h : Header) → HeadAt t h → IsHeaderFor bands h
header_for bands t like h head = elim (decide_like bands h) [
  | inl is ↦ is
  | inr w ↦ absurd (like h head w.place w.reason w.fault)
]

-- something is missing where more is decided
pub missing_some : (before : Option Previous) (t : List ℕ) (s : Stage) → IsStageOf before t s → state_at s ≡ More → 0 < missing_at s (length t)
missing_some before t Key stands more = omega (arith, stands)
missing_some before t (Fields v) stands more = omega (arith, stands.1.0)
missing_some before t (Body h) stands more = omega (arith, stands.1)
missing_some before t (Whole r) stands more = absurd (cc)
missing_some before t (Wrong place reason) stands more = absurd (cc)
missing_some before t NoMemory stands more = absurd (cc)

-- ---- a decoder is fed a part of a piece

pub record IsFed (bands : List Pixels) (d e : Decoding) (part : List ℕ) : Type 0 where
  pub goes : GoesOnBehind bands d
  pub taken : e.taken ≡ d.taken ++ part
  pub before : e.before ≡ d.before
  pub some : 0 < length part
  pub short : length part ≤ missing_at d.stage (length d.taken)

-- it stands behind the same bands
its_before : (bands : List Pixels) (d e : Decoding) → GoesOnBehind bands d → e.before ≡ d.before → e.before ≡ last_after None bands
its_before bands d e goes same = same ∙ goes.before

-- a byte less
less_byte : (rest part : List ℕ) → 0 < length part → take (length (rest ++ part) - 1) (rest ++ part) ≡ rest ++ take (length part - 1) part
less_byte rest part some =
    ap (λ n. take n (rest ++ part)) (let l = length-append rest part in let t : length (rest ++ part) - 1 ≡ length rest + (length part - 1) = omega (arith, l, some) in t)
    ∙ take-append-add rest part (length part - 1)

still_begun : (bands : List Pixels) (rest part : List ℕ) → 0 < length part → IsBegun bands rest → IsBegun bands (take (length (rest ++ part) - 1) (rest ++ part))
still_begun bands rest part some begun = subst (IsBegun bands) (sym (less_byte rest part some)) (begun_more bands rest (take (length part - 1) part) begun)

more_of : (before : Option Previous) (t : List ℕ) (s : Stage) → IsTold before t s → state_at s ≡ More → IsMoreAfter before t
more_of before t Key told more = told
more_of before t (Fields v) told more = told
more_of before t (Body h) told more = told
more_of before t (Whole r) told more = absurd (cc)
more_of before t (Wrong place reason) told more = absurd (cc)
more_of before t NoMemory told more = absurd (cc)

-- it goes on
pub fed_goes : (taken : List ℕ) (bands : List Pixels) (bytes part : List ℕ) (d e : Decoding) → IsFed bands d e part → IsInside taken bands bytes d.taken → IsStageOf e.before e.taken e.stage → IsTold e.before e.taken e.stage → state_at e.stage ≡ More
    → ((h : Header) → header_in e.stage ≡ Some h → IsEmpty (unlike_faults bands h)) → IsNext (taken ++ part) bands bytes (Goes e)
fed_goes taken bands bytes part d e f i stands told more like =
    let same = its_before bands d e f.goes f.before in
    let there = step_more taken part bands bytes d.taken i (begun_more bands d.taken part i.begun)
    (subst (λ (b : Option Previous). IsMoreAfter b (d.taken ++ part)) same (subst (IsMoreAfter e.before) f.taken (more_of e.before e.taken e.stage told more)))
    (subst (HasLikeHead bands) f.taken (like_of_stage bands e.before e.taken e.stage stands more like)) in
    (subst (λ (u : List ℕ). IsInside (taken ++ part) bands bytes u) (sym f.taken) there, record { before = same; stands = stands; more = more })

-- its header is not like those before
pub fed_unlike : (taken : List ℕ) (bands : List Pixels) (bytes part : List ℕ) (d e : Decoding) (h : Header) (p : ℕ) (a : BandReason) → IsFed bands d e part → IsInside taken bands bytes d.taken → IsTold e.before e.taken e.stage → state_at e.stage ≡ More → HeadAt e.taken h
    → unlike_faults bands h p a → FirstBandsFault (taken ++ part) (length bytes + p) a × IsLeastFault (taken ++ part)
fed_unlike taken bands bytes part d e h p a f i told more head w = which (which_header d.before d.taken part d.stage h f.goes.stands f.goes.more f.short at)
  where
    at : HeadAt (d.taken ++ part) h
    at = subst (λ (u : List ℕ). HeadAt u h) f.taken head

    undecided : IsMoreAfter (last_after None bands) (d.taken ++ part)
    undecided = subst (λ (b : Option Previous). IsMoreAfter b (d.taken ++ part)) (its_before bands d e f.goes f.before) (subst (IsMoreAfter e.before) f.taken (more_of e.before e.taken e.stage told more))

    less : IsMoreAfter (last_after None bands) (take (length (d.taken ++ part) - 1) (d.taken ++ part))
    less = let m = length (d.taken ++ part) - 1 in
        more_before {before = last_after None bands} (take m (d.taken ++ part)) (drop m (d.taken ++ part)) (subst (IsMoreAfter (last_after None bands)) (sym (take-append-drop m (d.taken ++ part))) undecided)

    which : HeadAt d.taken h ⊎ (length (d.taken ++ part) ≡ head_length h.version) → FirstBandsFault (taken ++ part) (length bytes + p) a × IsLeastFault (taken ++ part)
    which (inl old) = absurd (i.like h old p a w)
    which (inr long) = step_unlike taken part bands bytes d.taken h p a i f.some (begun_more bands d.taken part i.begun) at long w less (still_begun bands d.taken part f.some i.begun)

-- it is whole
pub fed_ends : (taken : List ℕ) (bands : List Pixels) (bytes part : List ℕ) (d e : Decoding) (r : Pixels) → IsFed bands d e part → IsInside taken bands bytes d.taken → IsDoneAfter e.before e.taken r (length e.taken)
    → IsBetween (taken ++ part) (bands ++ r ∷ []) (bytes ++ e.taken) [] × BlobAfter (last_after None bands) e.taken r
fed_ends taken bands bytes part d e r f i done =
    let b = its_before bands d e f.goes f.before in
    let here : IsDoneAfter (last_after None bands) e.taken r (length e.taken) = subst (λ (x : Option Previous). IsDoneAfter x e.taken r (length e.taken)) b done in
    let there : IsDoneAfter (last_after None bands) (d.taken ++ part) r (length (d.taken ++ part)) = subst (λ (u : List ℕ). IsDoneAfter (last_after None bands) u r (length u)) f.taken here in
    let like = like_then bands d.before d.taken part d.stage f.goes.stands f.goes.more f.short i.like (sized_by_done (last_after None bands) (d.taken ++ part) r (length (d.taken ++ part)) there) in (
      subst (λ (u : List ℕ). IsBetween (taken ++ part) (bands ++ r ∷ []) (bytes ++ u) []) (sym f.taken) (step_done taken part bands bytes d.taken r i (begun_few bands d.taken i.begun) there (header_for bands (d.taken ++ part) like)),
      subst (λ (u : List ℕ). BlobAfter (last_after None bands) u r) (take_all (length e.taken) e.taken (omega arith)) here.1,
    )

-- it is wrong
pub fed_wrong : (taken : List ℕ) (bands : List Pixels) (bytes part : List ℕ) (d e : Decoding) (p : ℕ) (why : BlobReason) → IsFed bands d e part → IsInside taken bands bytes d.taken → FirstFaultAfter e.before e.taken p why → IsLeastAfter e.before e.taken
    → FirstBandsFault (taken ++ part) (length bytes + p) (OfBlob why) × IsLeastFault (taken ++ part)
fed_wrong taken bands bytes part d e p why f i fault least =
    let b = its_before bands d e f.goes f.before in
    let there : FirstFaultAfter (last_after None bands) (d.taken ++ part) p why = subst (λ (x : Option Previous). FirstFaultAfter x (d.taken ++ part) p why) b (subst (λ (u : List ℕ). FirstFaultAfter e.before u p why) f.taken fault) in
    let m = length (d.taken ++ part) - 1 in
    let below : m < length e.taken = omega (arith, ap length f.taken, length-append d.taken part, f.some) in
    let before : IsMoreAfter (last_after None bands) (take m (d.taken ++ part)) = subst (λ (x : Option Previous). IsMoreAfter x (take m (d.taken ++ part))) b (subst (λ (u : List ℕ). IsMoreAfter e.before (take m u)) f.taken (least m below)) in
    let like = like_then bands d.before d.taken part d.stage f.goes.stands f.goes.more f.short i.like (sized_by_fault (last_after None bands) (d.taken ++ part) p why there) in
    step_wrong taken part bands bytes d.taken p why i f.some (begun_more bands d.taken part i.begun) like there before (still_begun bands d.taken part f.some i.begun)

-- memory was refused: a header stands whole, in this blob or in one before
pub header_in_front : (before : Option Previous) (bands : List Pixels) (front rest : List ℕ) → BlobsAfter before front bands → HasHeader rest → HasHeader (front ++ rest)
header_in_front before [] front rest none_ h = subst (λ (u : List ℕ). HasHeader (u ++ rest)) (sym none_) h
header_in_front before (r ∷ more) front rest (a, (b, (joined, (blob, others)))) h =
    subst (λ (u : List ℕ). HasHeader (u ++ rest)) (sym joined) (subst HasHeader (sym (append_assoc a b rest)) (header_more a (b ++ rest) (header_of_blob before a r blob)))

pub header_before : (before : Option Previous) (bands : List Pixels) (front rest : List ℕ) → BlobsAfter before front bands → 0 < length bands → HasHeader (front ++ rest)
header_before before [] front rest blobs some = absurd (omega (arith, some))
header_before before (r ∷ more) front rest (a, (b, (joined, (blob, others)))) some =
    subst (λ (u : List ℕ). HasHeader (u ++ rest)) (sym joined) (subst HasHeader (sym (append_assoc a b rest)) (header_more a (b ++ rest) (header_of_blob before a r blob)))

pub fed_refused : (taken : List ℕ) (bands : List Pixels) (bytes part : List ℕ) (d e : Decoding) → e.taken ≡ d.taken ++ part → IsInside taken bands bytes d.taken → HasHeader e.taken → HasHeader (taken ++ part)
fed_refused taken bands bytes part d e same i h =
    subst (λ (u : List ℕ). HasHeader (u ++ part)) (sym i.behind.joined) (subst HasHeader (sym (append_assoc bytes d.taken part)) (header_in_front None bands bytes (d.taken ++ part) i.behind.stand (subst HasHeader same h)))

-- ---- a turn

-- but for want of memory all that is wanted is used
pub used_all : (d e : Decoding) (piece : List ℕ) (wants used : ℕ) → wants ≡ min (missing_at d.stage (length d.taken)) (length piece) → (length (take wants piece) ≤ missing_at d.stage (length d.taken) → IsUsed e.stage (take wants piece) used) → ¬ (e.stage ≡ NoMemory) → used ≡ wants
used_all d e piece wants used is exact live =
    let long : length (take wants piece) ≡ wants = length-take-le wants piece (omega (arith, is)) in
    by e.stage live (exact (omega (arith, is, long))) ∙ long
  where
    by : (s : Stage) → ¬ (s ≡ NoMemory) → IsUsed s (take wants piece) used → used ≡ length (take wants piece)
    by Key live uses = uses
    by (Fields v) live uses = uses
    by (Body h) live uses = uses
    by (Whole r) live uses = uses
    by (Wrong place reason) live uses = uses
    by NoMemory live uses = absurd (live refl)

pub part_is : (piece : List ℕ) (wants used : ℕ) → wants ≤ length piece → used ≤ length (take wants piece) → take used (take wants piece) ≡ take used piece
part_is piece wants used few within = take-take used wants piece (omega (arith, within, length-take-le wants piece few))

pub fed_is : (bands : List Pixels) (d e : Decoding) (piece : List ℕ) (wants used : ℕ) → GoesOnBehind bands d → 0 < length piece → wants ≡ min (missing_at d.stage (length d.taken)) (length piece) → HasTaken d e (take wants piece) used → used ≡ wants → IsFed bands d e (take used piece)
fed_is bands d e piece wants used goes some is taken all =
    let missing = missing_some d.before d.taken d.stage goes.stands goes.more in
    let long : length (take used piece) ≡ used = length-take-le used piece (omega (arith, is, all)) in
    record {
      goes = goes;
      taken = taken.taken ∙ ap (λ (u : List ℕ). d.taken ++ u) (part_is piece wants used (omega (arith, is)) taken.within);
      before = taken.before;
      some = omega (arith, long, all, is, some, missing);
      short = omega (arith, long, all, is);
    }

header_there : (before : Option Previous) (t : List ℕ) (s : Stage) (h : Header) → IsStageOf before t s → header_in s ≡ Some h → HeadAt t h
header_there before t Key h stands is = absurd (cc)
header_there before t (Fields v) h stands is = absurd (cc)
header_there before t (Body g) h stands is = subst (λ (o : Option Header). IfSome o (HeadAt t)) is stands.0
header_there before t (Whole r) h stands is = absurd (cc)
header_there before t (Wrong place reason) h stands is = absurd (cc)
header_there before t NoMemory h stands is = absurd (cc)

pub turn_more : (taken : List ℕ) (bands : List Pixels) (bytes part : List ℕ) (d e : Decoding) (next : Next) → IsFed bands d e part → IsStageOf e.before e.taken e.stage → IsTold e.before e.taken e.stage → state_at e.stage ≡ More → IsCompared e bands next
    → IsInside taken bands bytes d.taken → IsNext (taken ++ part) bands bytes next
turn_more taken bands bytes part d e (Goes x) f stands told more (same, like) i = subst (λ (y : Decoding). IsNext (taken ++ part) bands bytes (Goes y)) (sym same) (fed_goes taken bands bytes part d e f i stands told more like)
turn_more taken bands bytes part d e (Refused fault) f stands told more (h, (at, w)) i =
    (fed_unlike taken bands bytes part d e h fault.place fault.reason f i told more (header_there e.before e.taken e.stage h stands at) w, (d.taken ++ part, behind_more taken part bands bytes d.taken i.behind))
turn_more taken bands bytes part d e (Ends x) f stands told more none_ i = absurd none_
turn_more taken bands bytes part d e OutOfMemory f stands told more none_ i = absurd none_

pub turn_done : (taken : List ℕ) (bands : List Pixels) (bytes part : List ℕ) (d e : Decoding) (x : Ended) → IsFed bands d e part → IsTold e.before e.taken e.stage → e.stage ≡ Whole x.band → x.blob.items ≡ e.taken
    → IsInside taken bands bytes d.taken → IsNext (taken ++ part) bands bytes (Ends x)
turn_done taken bands bytes part d e x f told is blob i =
    let done : IsDoneAfter e.before e.taken x.band (length e.taken) = (subst (IsTold e.before e.taken) is told).0 in
    subst (λ (u : List ℕ). IsBetween (taken ++ part) (bands ++ x.band ∷ []) (bytes ++ u) [] × BlobAfter (last_after None bands) u x.band) (sym blob) (fed_ends taken bands bytes part d e x.band f i done)

pub turn_wrong : (taken : List ℕ) (bands : List Pixels) (bytes part : List ℕ) (d e : Decoding) (fault : BlobFault) → IsFed bands d e part → IsTold e.before e.taken e.stage → state_at e.stage ≡ Refuses fault
    → IsInside taken bands bytes d.taken → IsNext (taken ++ part) bands bytes (Refused (record { reason = OfBlob fault.reason; place = fault.place }))
turn_wrong taken bands bytes part d e fault f told is i =
    let w = wrong_there e.before e.taken e.stage fault told is in
    (fed_wrong taken bands bytes part d e fault.place fault.reason f i w.0 w.1, (d.taken ++ part, behind_more taken part bands bytes d.taken i.behind))
  where
    place_of : FedState → ℕ
    place_of (Refuses g) = g.place
    place_of _ = 0

    reason_of : FedState → BlobReason
    reason_of (Refuses g) = g.reason
    reason_of _ = Truncated

    wrong_there : (before : Option Previous) (t : List ℕ) (s : Stage) (fault : BlobFault) → IsTold before t s → state_at s ≡ Refuses fault → FirstFaultAfter before t fault.place fault.reason × IsLeastAfter before t
    wrong_there before t Key fault told is = absurd (cc)
    wrong_there before t (Fields v) fault told is = absurd (cc)
    wrong_there before t (Body h) fault told is = absurd (cc)
    wrong_there before t (Whole r) fault told is = absurd (cc)
    wrong_there before t NoMemory fault told is = absurd (cc)
    wrong_there before t (Wrong place reason) fault told is =
        subst (λ (p : ℕ). FirstFaultAfter before t p fault.reason × IsLeastAfter before t) (ap place_of is) (subst (λ (a : BlobReason). FirstFaultAfter before t place a × IsLeastAfter before t) (ap reason_of is) told)

pub turn_none : (taken : List ℕ) (bands : List Pixels) (bytes part : List ℕ) (d e : Decoding) → e.taken ≡ d.taken ++ part → IsTold e.before e.taken e.stage → state_at e.stage ≡ NoRoom → IsInside taken bands bytes d.taken → HasHeader (taken ++ part)
turn_none taken bands bytes part d e same told is i = fed_refused taken bands bytes part d e same i (by e.stage told is)
  where
    by : (s : Stage) → IsTold e.before e.taken s → state_at s ≡ NoRoom → HasHeader e.taken
    by Key told is = absurd (cc)
    by (Fields v) told is = absurd (cc)
    by (Body h) told is = absurd (cc)
    by (Whole r) told is = absurd (cc)
    by (Wrong place reason) told is = absurd (cc)
    by NoMemory told is = told

pub live_more : (s : Stage) → state_at s ≡ More → ¬ (s ≡ NoMemory)
live_more s is none_ = let t : NoRoom ≡ More = ap state_at (sym none_) ∙ is in cc

pub live_wrong : (s : Stage) (f : BlobFault) → state_at s ≡ Refuses f → ¬ (s ≡ NoMemory)
live_wrong s f is none_ = let t : NoRoom ≡ Refuses f = ap state_at (sym none_) ∙ is in cc

pub live_done : (s : Stage) (r : Pixels) → s ≡ Whole r → ¬ (s ≡ NoMemory)
live_done s r is none_ = let t : Whole r ≡ NoMemory = sym is ∙ none_ in cc

-- the first byte of a piece
pub first_byte : (xs : List ℕ) → 0 < length xs → take 1 xs ≡ get_or xs 0 0 ∷ []
first_byte [] some = absurd (omega (arith, some))
first_byte (x ∷ xs) some = refl
