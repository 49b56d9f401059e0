-- What each step of the decoder comes to.
use Rattle.std.proofs.Common.{◌≡◌, ℕ, ◌+◌, ◌-◌, ◌<◌, ◌≤◌, false, cond, List, [], ◌∷◌, ◌++◌, length, take, drop, Option, nat_eq, refl, sym, ap, ◌∙◌, subst, arith}
use Rattle.std.proofs.lemmas.List.{append-nil, append_assoc, length-append, length-drop, length-take-le, take-append-le, take-append-drop, take-take, take_all, drop-take, take_rest}
use Rattle.std.proofs.lemmas.Bool.Decides.{nat_tests}
use Rattle.raster_values.specs.Raster.{Pixels}
use Rattle.lerc_header.specs.declared.header.Header.{Header}
use Rattle.lerc_header.specs.declared.header.Version.{Version}
use Rattle.lerc_header.specs.declared.header.Version.TheVariants.{V3, V4}
use Rattle.lerc_header.specs.Head.{HeadAt, head_length}
use Rattle.lerc_header.specs.declared.fault.BlobReason.{BlobReason}
use Rattle.lerc_header.specs.HeadFaults.{HasKey, HasVersion, field_faults}
use Rattle.lerc_grammar.specs.Mask.{Previous}
use Rattle.lerc_grammar.specs.Blob.{BlobAfter, blob_faults}
use Rattle.lerc_grammar.specs.Verdict.{FirstFaultAfter, of_field, of_blob, IsDoneAfter}
use Rattle.lerc_header.proofs.Prefixes.{head_more}
use Rattle.lerc_header.proofs.FaultLemmas.{one_version}
use Rattle.lerc_grammar.proofs.More.{more_key, more_fields, more_body, least_fields, least_body}
use Rattle.lerc_grammar.proofs.Verdicts.{take_same}
use Rattle.lerc_decode.specs.declared.streams.decoder.Decoder.TheInside.{Inside}
use Rattle.lerc_decode.specs.declared.streams.decoder.Progress.{Progress}
use Rattle.lerc_decode.specs.declared.streams.decoder.Progress.TheVariants.{Key as AtKey, Fields as AtFields, Body as AtBody, Done as AtDone, Refused, OutOfMemory}
use Rattle.lerc_decode.specs.Decoding.{Stage, Key, Fields, Body, Whole, Wrong, NoMemory, Decoding, IsStageOf, IsLeastAfter, HasTaken, IsSame}
use Rattle.lerc_decode.specs.inside.Steps.{AfterKey, AfterFields, AfterBody, StepsKey, StepsFields, StepsBody}
use Rattle.lerc_decode.specs.declared.streams.decoder.FedState.TheVariants.{More}
use Rattle.lerc_decode.specs.States.{state_at, missing_at, IsTold, HasStopped, IsUsed}
use Rattle.lerc_decode.specs.inside.Steps.{UsesKey, UsesFields, UsesBody}
use Rattle.lerc_decode.specs.inside.Stages.{HasEnded, KeepsHead, stage_of}
use Rattle.lerc_decode.specs.inside.Inside.{seen, taken_of, IsKept, IsInside}

-- ---- a whole blob

pub whole_done : (before : Option Previous) (blob : List ℕ) (r : Pixels) (h : Header) → HeadAt blob h → length blob ≡ h.size → BlobAfter before blob r → IsDoneAfter before blob r (length blob) × IsLeastAfter before blob
whole_done before blob r h head size is =
    ((omega arith, subst (λ (u : List ℕ). BlobAfter before u r) (sym (take_all (length blob) blob (omega arith))) is), least_body blob h head size)

pub whole_wrong : (before : Option Previous) (blob : List ℕ) (h : Header) (place : ℕ) (reason : BlobReason) → HeadAt blob h → length blob ≡ h.size → blob_faults before h blob place reason
    → FirstFaultAfter before blob place reason × IsLeastAfter before blob
whole_wrong before blob h place reason head size w =
    let same = sym (take_all h.size blob (omega (arith, size))) in
    (of_blob h (omega (arith, size)) (subst (λ (u : List ℕ). HeadAt u h) same head) (subst (λ (u : List ℕ). blob_faults before h u place reason) same w), least_body blob h head size)

-- ---- a whole header

pub version_there : (head : List ℕ) (v : Version) → length head ≡ head_length v → HasVersion (take 10 head) v → HasVersion head v
version_there head v long version = sym ((take_same 10 head (omega arith) (omega (arith, long))).i32 6 (omega arith)) ∙ version

pub head_stands : (head : List ℕ) (v : Version) (h : Header) → length head ≡ head_length v → HasVersion (take 10 head) v → HeadAt head h → HeadAt head h × (length head < h.size)
head_stands head v h long version is =
    let same : h.version ≡ v = one_version head h.version v is.version (version_there head v long version) in
    let size : head_length v + 4 ≤ h.size = subst (λ (w : Version). head_length w + 4 ≤ h.size) same is.size_above in
    (is, omega (arith, size, long))

pub head_wrong : (before : Option Previous) (head : List ℕ) (v : Version) (place : ℕ) (reason : BlobReason) → length head ≡ head_length v → HasKey (take 10 head) → HasVersion (take 10 head) v → field_faults v head place reason
    → FirstFaultAfter before head place reason × IsLeastAfter before head
head_wrong before head v place reason long key version w =
    let same = sym (take_all (head_length v) head (omega (arith, long))) in
    let s = take_same 10 head (omega arith) (omega (arith, long)) in (
      of_field v (omega (arith, long)) (subst HasKey same (sym s.key ∙ key)) (subst (λ (u : List ℕ). HasVersion u v) same (version_there head v long version)) (subst (λ (u : List ℕ). field_faults v u place reason) same w),
      least_fields head v long key version,
    )

-- ---- what a decoder holds

pub taken_head : (a : Inside) (v : Version) → a.progress ≡ AtFields v → IsInside a → IsStageOf a.before (take a.have a.head) (Fields v)
taken_head a v is inside =
    let kept : a.blob.items ≡ [] = (subst (IsKept a) is inside.kept).0 in
    let taken : taken_of a ≡ take a.have a.head = ap (λ (xs : List ℕ). cond (nat_eq (length xs) 0) (take a.have a.head) xs) kept in
    subst (λ (u : List ℕ). IsStageOf a.before u (Fields v)) taken (subst (λ (p : Progress). IsStageOf a.before (taken_of a) (stage_of p)) is inside.stands)

pub front_kept : (a : Inside) (v : Version) (new piece : List ℕ) (used want : ℕ) → a.progress ≡ AtFields v → IsInside a → take (a.have + used) new ≡ take a.have a.head ++ take used piece → a.have + used ≡ want
    → HasKey (take 10 (take want new)) × HasVersion (take 10 (take want new)) v
front_kept a v new piece used want is inside filled whole =
    let stands = taken_head a v is inside in
    let same : take 10 (take want new) ≡ take 10 (take a.have a.head) =
    ap (λ n. take 10 (take n new)) (sym whole) ∙ ap (take 10) filled ∙ take-append-le 10 (take a.have a.head) (take used piece) stands.0 in
    (subst HasKey (sym same) stands.1.1.0, subst (λ (u : List ℕ). HasVersion u v) (sym same) stands.1.1.1)

some_items : (xs ys : List ℕ) → 0 < length xs → cond (nat_eq (length xs) 0) ys xs ≡ xs
some_items [] ys some = absurd (omega (arith, some))
some_items (x ∷ xs) ys some = ap (λ b. cond b ys (x ∷ xs)) (let t : nat_eq (length (x ∷ xs)) 0 ≡ false = grind (arith, nat_tests) in t)

pub taken_body : (a : Inside) (h : Header) → a.progress ≡ AtBody h → IsInside a → IsStageOf a.before a.blob.items (Body h)
taken_body a h is inside =
    let kept : 0 < length a.blob.items = subst (IsKept a) is inside.kept in
    subst (λ (u : List ℕ). IsStageOf a.before u (Body h)) (some_items a.blob.items (take a.have a.head) kept) (subst (λ (p : Progress). IsStageOf a.before (taken_of a) (stage_of p)) is inside.stands)

pub body_head : (a : Inside) (h : Header) (new more : List ℕ) → a.progress ≡ AtBody h → IsInside a → new ≡ a.blob.items ++ more → HeadAt new h
body_head a h new more is inside e = subst (λ (u : List ℕ). HeadAt u h) (sym e) (head_more a.blob.items more h (taken_body a h is inside).0)

-- the bytes taken with more of the blob's
pub body_taken : (a b : Inside) (h : Header) (more : List ℕ) → a.progress ≡ AtBody h → IsInside a
    → b.blob.items ≡ a.blob.items ++ more
    → (taken_of b ≡ b.blob.items) × (taken_of b ≡ taken_of a ++ more)
body_taken a b h more is inside e =
    let kept : 0 < length a.blob.items = subst (IsKept a) is inside.kept in
    let some : 0 < length b.blob.items =
    omega (arith, ap length e, length-append a.blob.items more, kept) in
    let new = some_items b.blob.items (take b.have b.head) some in
    let old = some_items a.blob.items (take a.have a.head) kept in
    (new, new ∙ e ∙ ap (λ (u : List ℕ). u ++ more) (sym old))

-- they are kept where the blob is whole
pub kept_ended : (a b : Inside) (h : Header) (more : List ℕ) → a.progress ≡ AtBody h → IsInside a → b.blob.items ≡ a.blob.items ++ more → HasEnded b.progress → IsKept b b.progress
kept_ended a b h more is inside e ended = by b.progress ended
  where
    some : 0 < length b.blob.items
    some = let kept : 0 < length a.blob.items = subst (IsKept a) is inside.kept in omega (arith, ap length e, length-append a.blob.items more, kept)

    by : (p : Progress) → HasEnded p → IsKept b p
    by (AtDone r) ended = some
    by (Refused f) ended = tt
    by OutOfMemory ended = tt
    by (AtBody g) ended = absurd ended
    by (AtFields v) ended = absurd ended
    by AtKey ended = absurd ended

-- more bytes of the blob, and not all
pub body_goes_on : (a b : Inside) (h : Header) (more : List ℕ) → a.progress ≡ AtBody h → IsInside a → b.progress ≡ AtBody h → b.have ≡ a.have → b.head ≡ a.head → b.blob.items ≡ a.blob.items ++ more → length b.blob.items < h.size → IsInside b
body_goes_on a b h more is inside same have head e short =
    let kept : 0 < length a.blob.items = subst (IsKept a) is inside.kept in
    let some : 0 < length b.blob.items = omega (arith, ap length e, length-append a.blob.items more, kept) in
    record {
      room = ap length head ∙ inside.room;
      within = omega (arith, inside.within, have);
      kept = subst (IsKept b) (sym same) some;
      stands = subst (λ (p : Progress). IsStageOf b.before (taken_of b) (stage_of p)) (sym same)
          (subst (λ (u : List ℕ). IsStageOf b.before u (Body h)) (sym (some_items b.blob.items (take b.have b.head) some)) (body_head a h b.blob.items more is inside e, short));
    }

-- what holds of a decoder's stage
pub stood : (a : Inside) (d : Decoding) → seen a ≡ d → IsInside a → IsStageOf d.before d.taken d.stage
stood a d is inside = subst (λ (x : Decoding). IsStageOf x.before x.taken x.stage) is inside.stands

-- a call that takes nothing
pub takes_nothing : (d : Decoding) (piece : List ℕ) → HasTaken d d piece 0
takes_nothing d piece = record { within = omega arith; taken = sym (append-nil d.taken); before = refl }

-- the bytes of the whole header are kept where it stands
pub header_kept : (b : Inside) (p : Progress) (want : ℕ) → b.progress ≡ p → b.have ≡ want → 0 < want → want ≤ 66 → length b.head ≡ 66 → KeepsHead p b.blob.items (take want b.head) → IsStageOf b.before (take want b.head) (stage_of p) → IsInside b
header_kept b (AtBody h) want is have some few room kept stands =
    let here : 0 < length b.blob.items = omega (arith, ap length kept, length-take-le want b.head (omega (arith, few, room)), some) in
    record {
      room = room;
      within = omega (arith, have, few);
      kept = subst (IsKept b) (sym is) here;
      stands = subst (λ (p : Progress). IsStageOf b.before (taken_of b) (stage_of p)) (sym is)
          (subst (λ (u : List ℕ). IsStageOf b.before u (Body h)) (sym (some_items b.blob.items (take b.have b.head) here ∙ kept)) stands);
    }
header_kept b (Refused f) want is have some few room kept stands =
    let taken : taken_of b ≡ take want b.head = ap (λ (xs : List ℕ). cond (nat_eq (length xs) 0) (take b.have b.head) xs) kept ∙ ap (λ n. take n b.head) have in
    record {
      room = room;
      within = omega (arith, have, few);
      kept = subst (IsKept b) (sym is) tt;
      stands = subst (λ (p : Progress). IsStageOf b.before (taken_of b) (stage_of p)) (sym is)
          (subst (λ (u : List ℕ). IsStageOf b.before u (Wrong f.place f.reason)) (sym taken) stands);
    }
header_kept b OutOfMemory want is have some few room kept stands =
    let taken : taken_of b ≡ take want b.head = ap (λ (xs : List ℕ). cond (nat_eq (length xs) 0) (take b.have b.head) xs) kept ∙ ap (λ n. take n b.head) have in
    record {
      room = room;
      within = omega (arith, have, few);
      kept = subst (IsKept b) (sym is) tt;
      stands = subst (λ (p : Progress). IsStageOf b.before (taken_of b) (stage_of p)) (sym is)
          (subst (λ (u : List ℕ). IsStageOf b.before u NoMemory) (sym taken) stands);
    }
header_kept b _ want is have some few room kept stands = absurd kept

pub head_size : (v : Version) → (0 < head_length v) × (head_length v ≤ 66)
head_size V3 = (omega arith, omega arith)
head_size V4 = (omega arith, omega arith)

-- ---- the three steps together

pub told_of : (before : Option Previous) (taken : List ℕ) (s : Stage) → IsStageOf before taken s → IsTold before taken s
told_of before taken Key stands = more_key taken stands
told_of before taken (Fields v) stands = more_fields taken v stands.0 stands.1.0 stands.1.1.0 stands.1.1.1
told_of before taken (Body h) stands = more_body taken h stands.0 stands.1
told_of before taken _ stands = stands

take_sum : (i j : ℕ) (xs : List ℕ) → take (i + j) xs ≡ take i xs ++ take j (drop i xs)
take_sum i j xs =
    sym (take-append-drop i (take (i + j) xs)) ∙ ap (λ u. u ++ drop i (take (i + j) xs)) (take-take i (i + j) xs (omega arith)) ∙ ap (λ u. take i xs ++ u) (drop-take i j xs)

-- what is left of a piece
abbrev pub left : ℕ → List ℕ → List ℕ
left at piece = take (length piece - at) (drop at piece)

taken_more : (o a b : Decoding) (piece : List ℕ) (i j : ℕ) → HasTaken o a piece i → HasTaken a b (left i piece) j → HasTaken o b piece (i + j)
taken_more o a b piece i j x y =
    let rest : left i piece ≡ drop i piece = take_rest piece i in
    record {
      within = omega (arith, x.within, y.within, ap length rest, length-drop i piece);
      taken = y.taken ∙ ap (λ (u : List ℕ). a.taken ++ take j u) rest ∙ ap (λ u. u ++ take j (drop i piece)) x.taken ∙ append_assoc o.taken (take i piece) (take j (drop i piece)) ∙ ap (λ u. o.taken ++ u) (sym (take_sum i j piece));
      before = y.before ∙ x.before;
    }

pub taken_all : (o a b n : Decoding) (piece : List ℕ) (i j k : ℕ) → HasTaken o a piece i → HasTaken a b (left i piece) j → HasTaken b n (left (i + j) piece) k → HasTaken o n piece (i + j + k)
taken_all o a b n piece i j k x y z = taken_more o b n piece (i + j) k (taken_more o a b piece i j x y) z

after_body_all : (s : Stage) (all : Type 0) → AfterBody s all → state_at s ≡ More → all
after_body_all Key all w e = absurd w
after_body_all (Fields v) all w e = absurd w
after_body_all (Body h) all w e = w
after_body_all _ all w e = absurd (cc)

after_fields_all : (s : Stage) (all : Type 0) (v : Version) → AfterFields s all → s ≡ Fields v → all
after_fields_all Key all v w e = absurd w
after_fields_all (Fields u) all v w e = w
after_fields_all (Whole r) all v w e = absurd w
after_fields_all _ all v w e = absurd (cc)

after_fields_key : (s : Stage) (all : Type 0) → AfterFields s all → s ≡ Key → ⊥
after_fields_key Key all w e = w
after_fields_key (Whole r) all w e = w
after_fields_key _ all w e = cc

after_key_all : (s : Stage) (all : Type 0) → AfterKey s all → s ≡ Key → all
after_key_all Key all w e = w
after_key_all (Fields v) all w e = absurd (cc)
after_key_all (Wrong place reason) all w e = absurd (cc)
after_key_all _ all w e = absurd w

key_all : (so : Stage) (o a : Decoding) (piece : List ℕ) (i : ℕ) → o.stage ≡ so → StepsKey so o a piece i → a.stage ≡ Key → i ≡ length piece
key_all Key o a piece i is w e = after_key_all a.stage (i ≡ length piece) w e
key_all _ o a piece i is w e = absurd (let same = ap (λ (d : Decoding). d.stage) w.0 in cc)

-- a step over the fields that ends before the key does changed nothing
fields_key : (sa : Stage) (a b : Decoding) (piece : List ℕ) (j : ℕ) → a.stage ≡ sa → StepsFields sa a b piece j → b.stage ≡ Key → (a.stage ≡ Key) × (j ≡ 0)
fields_key Key a b piece j is w e = (is, w.1)
fields_key (Fields v) a b piece j is w e = absurd (after_fields_key b.stage (j ≡ length piece) w e)
fields_key _ a b piece j is w e = absurd (let same = ap (λ (d : Decoding). d.stage) w.0 in cc)

fields_all : (sa : Stage) (a b : Decoding) (piece : List ℕ) (j : ℕ) (v : Version) → a.stage ≡ sa → StepsFields sa a b piece j → b.stage ≡ Fields v → j ≡ length piece
fields_all (Fields u) a b piece j v is w e = after_fields_all b.stage (j ≡ length piece) v w e
fields_all _ a b piece j v is w e = absurd (let same = ap (λ (d : Decoding). d.stage) w.0 in cc)

pub all_used : (sb : Stage) (o a b n : Decoding) (piece : List ℕ) (i j k : ℕ) → b.stage ≡ sb → i ≤ length piece → j ≤ length (left i piece) → StepsKey o.stage o a piece i → StepsFields a.stage a b (left i piece) j → StepsBody sb b n (left (i + j) piece) k
    → state_at n.stage ≡ More → i + j + k ≡ length piece
all_used Key o a b n piece i j k is li lj x y z e =
    let f = fields_key a.stage a b (left i piece) j refl y is in
    let first : i ≡ length piece = key_all o.stage o a piece i refl x f.0 in
    omega (arith, first, f.1, z.1)
all_used (Fields v) o a b n piece i j k is li lj x y z e =
    let second : j ≡ length (left i piece) = fields_all a.stage a b (left i piece) j v refl y is in
    omega (arith, second, z.1, li, ap length (take_rest piece i), length-drop i piece)
all_used (Body h) o a b n piece i j k is li lj x y z e =
    let third : k ≡ length (left (i + j) piece) = after_body_all n.stage (k ≡ length (left (i + j) piece)) z e in
    omega (arith, third, li, lj, ap length (take_rest piece i), length-drop i piece, ap length (take_rest piece (i + j)), length-drop (i + j) piece)
all_used _ o a b n piece i j k is li lj x y z e = absurd (let same = ap (λ (d : Decoding). state_at d.stage) z.0 in let there = ap state_at is in cc)

stopped_key : (s : Stage) (o n : Decoding) (piece : List ℕ) (i : ℕ) → HasStopped s → StepsKey s o n piece i → IsSame o n i
stopped_key Key o n piece i h w = absurd h
stopped_key (Fields v) o n piece i h w = absurd h
stopped_key (Body b) o n piece i h w = absurd h
stopped_key _ o n piece i h w = w

stopped_fields : (s : Stage) (o n : Decoding) (piece : List ℕ) (i : ℕ) → HasStopped s → StepsFields s o n piece i → IsSame o n i
stopped_fields Key o n piece i h w = absurd h
stopped_fields (Fields v) o n piece i h w = absurd h
stopped_fields (Body b) o n piece i h w = absurd h
stopped_fields _ o n piece i h w = w

stopped_body : (s : Stage) (o n : Decoding) (piece : List ℕ) (i : ℕ) → HasStopped s → StepsBody s o n piece i → IsSame o n i
stopped_body Key o n piece i h w = absurd h
stopped_body (Fields v) o n piece i h w = absurd h
stopped_body (Body b) o n piece i h w = absurd h
stopped_body _ o n piece i h w = w

pub stays : (o a b n : Decoding) (p q r : List ℕ) (i j k : ℕ) → StepsKey o.stage o a p i → StepsFields a.stage a b q j → StepsBody b.stage b n r k → HasStopped o.stage → IsSame o n (i + j + k)
stays o a b n p q r i j k x y z h =
    let first = stopped_key o.stage o a p i h x in
    let ha : HasStopped a.stage = subst (λ (d : Decoding). HasStopped d.stage) (sym first.0) h in
    let second = stopped_fields a.stage a b q j ha y in
    let hb : HasStopped b.stage = subst (λ (d : Decoding). HasStopped d.stage) (sym second.0) ha in
    let third = stopped_body b.stage b n r k hb z in
    (third.0 ∙ second.0 ∙ first.0, omega (arith, first.1, second.1, third.1))

-- ---- a piece that is no longer than what is missing

is_used : (s : Stage) (piece : List ℕ) (n : ℕ) → n ≡ length piece → IsUsed s piece n
is_used NoMemory piece n e = tt
is_used _ piece n e = e

key_used : (s : Stage) (piece : List ℕ) (n : ℕ) → AfterKey s (n ≡ length piece) → IsUsed s piece n → n ≡ length piece
key_used NoMemory piece n a u = absurd a
key_used _ piece n a u = u

length-left : (i : ℕ) (piece : List ℕ) → length (left i piece) ≡ length piece - i
length-left i piece = ap length (take_rest piece i) ∙ length-drop i piece

fields_used : (sb : Stage) (b n : Decoding) (piece : List ℕ) (i j k : ℕ) → b.stage ≡ sb → i ≡ 0 → IsUsed sb (left i piece) j → StepsBody sb b n (left (i + j) piece) k → k ≤ length (left (i + j) piece) → IsUsed n.stage piece (i + j + k)
fields_used NoMemory b n piece i j k is z u s low =
    let same : n.stage ≡ NoMemory = ap (λ (d : Decoding). d.stage) s.0 ∙ is in subst (λ (st : Stage). IsUsed st piece (i + j + k)) (sym same) tt
fields_used _ b n piece i j k is z u s low = is_used n.stage piece (i + j + k) (omega (arith, z, u, low, length-left i piece, length-left (i + j) piece))

body_used : (s : Stage) (piece : List ℕ) (i j k : ℕ) → i ≡ 0 → j ≡ 0 → IsUsed s (left (i + j) piece) k → IsUsed s piece (i + j + k)
body_used NoMemory piece i j k zi zj u = tt
body_used _ piece i j k zi zj u = omega (arith, zi, zj, u, length-left (i + j) piece)

pub used_all : (so : Stage) (o a b n : Decoding) (piece : List ℕ) (i j k : ℕ) → o.stage ≡ so → i ≤ length piece → j ≤ length (left i piece) → k ≤ length (left (i + j) piece)
    → StepsKey so o a piece i → UsesKey so a.stage piece i → StepsFields a.stage a b (left i piece) j → (length (left i piece) ≤ missing_at a.stage (length a.taken) → UsesFields a.stage b.stage (left i piece) j)
    → StepsBody b.stage b n (left (i + j) piece) k → (length (left (i + j) piece) ≤ missing_at b.stage (length b.taken) → UsesBody b.stage n.stage (left (i + j) piece) k)
    → length piece ≤ missing_at so (length o.taken) → IsUsed n.stage piece (i + j + k)
used_all Key o a b n piece i j k is li lj lk x ux y uy z uz short =
    let first = key_used a.stage piece i x ux in is_used n.stage piece (i + j + k) (omega (arith, first, lj, lk, length-left i piece, length-left (i + j) piece))
used_all (Fields v) o a b n piece i j k is li lj lk x ux y uy z uz short =
    let sa : a.stage ≡ Fields v = ap (λ (d : Decoding). d.stage) x.0 ∙ is in
    let room : length (left i piece) ≤ missing_at a.stage (length a.taken) =
    subst (λ (s : Stage). length (left i piece) ≤ missing_at s (length a.taken)) (sym sa) (subst (λ (d : Decoding). length (left i piece) ≤ missing_at (Fields v) (length d.taken)) (sym x.0) (omega (arith, x.1, short, length-left i piece))) in
    fields_used b.stage b n piece i j k refl x.1 (subst (λ (s : Stage). UsesFields s b.stage (left i piece) j) sa (uy room)) z lk
used_all (Body h) o a b n piece i j k is li lj lk x ux y uy z uz short =
    let sa : a.stage ≡ Body h = ap (λ (d : Decoding). d.stage) x.0 ∙ is in
    let second : IsSame a b j = subst (λ (s : Stage). StepsFields s a b (left i piece) j) sa y in
    let sb : b.stage ≡ Body h = ap (λ (d : Decoding). d.stage) second.0 ∙ sa in
    let same : b ≡ o = second.0 ∙ x.0 in
    let room : length (left (i + j) piece) ≤ missing_at b.stage (length b.taken) =
    subst (λ (s : Stage). length (left (i + j) piece) ≤ missing_at s (length b.taken)) (sym sb) (subst (λ (d : Decoding). length (left (i + j) piece) ≤ missing_at (Body h) (length d.taken)) (sym same) (omega (arith, x.1, second.1, short, length-left (i + j) piece))) in
    body_used n.stage piece i j k x.1 second.1 (subst (λ (s : Stage). UsesBody s n.stage (left (i + j) piece) k) sb (uz room))
used_all _ o a b n piece i j k is li lj lk x ux y uy z uz short = is_used n.stage piece (i + j + k) (omega (arith, short, x.1, lj, lk, length-left i piece, length-left (i + j) piece))
