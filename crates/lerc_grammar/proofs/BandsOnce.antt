-- A whole input has one verdict of bands at most.
use Rattle.std.proofs.Common.{◌≡◌, ℕ, ◌+◌, ◌*◌, ◌<◌, ◌≤◌, List, [], ◌∷◌, ◌++◌, length, take, Option, None, Some, All, refl, sym, ap, ◌∙◌, subst, arith, ◌⊎◌, inl, inr}
use Rattle.std.proofs.lemmas.Bool.{cases_lt}
use Rattle.std.proofs.lemmas.List.Elements.{All-nil, All-cons, All-head, All-tail}
use Rattle.std.proofs.Math.Nat.{mul-le-mul_right}
use Rattle.std.proofs.lemmas.List.{length-append, append_assoc, append-nil, take_at}
use Rattle.first_fault.specs.Faults.{none, wrong, moved, ends}
use Rattle.first_fault.specs.Parts.{IsSingle, IsEmpty}
use Rattle.first_fault.proofs.Parts.{single-none, single-wrong, single-choice, single-unless, single-moved, single-ends, empty-choice, empty-moved, same_rest}
use Rattle.raster_values.specs.Raster.{Pixels, IsRaster}
use Rattle.lerc_header.specs.declared.header.Header.{Header}
use Rattle.lerc_header.specs.Head.{HeadAt, shift}
use Rattle.lerc_header.specs.HeadFaults.{HasKey}
use Rattle.lerc_header.proofs.HeadLemmas.{one_head}
use Rattle.lerc_header.proofs.Prefixes.{head_more}
use Rattle.lerc_header.specs.declared.fault.BlobReason.TheVariants.{Truncated, TooLarge, Leftover}
use Rattle.lerc_grammar.specs.declared.bands.BandReason.{BandReason}
use Rattle.lerc_grammar.specs.declared.bands.BandReason.TheVariants.{Blob as OfBlob, BadBand}
use Rattle.lerc_grammar.specs.Mask.{Previous, previous_of}
use Rattle.lerc_grammar.specs.Blob.{BlobAfter}
use Rattle.raster_values.specs.Bands.{IsLike, AreLike, MayBeBands}
use Rattle.lerc_grammar.specs.Bands.{BlobsAfter, BandsBlob, last_after, unlike_faults, BandFault, unlike, in_blob, IsBegun, cut_faults, next_faults, BandsFaultAt, BandsVerdict, Decoded, Refused, IsBandsVerdict}
use Rattle.lerc_grammar.proofs.Verdicts.{done_once, done_head, done_or_fault, one_fault}
use Rattle.lerc_grammar.specs.Verdict.{IsDoneAfter}

-- ---- one blob

whole_take : (a : List ℕ) → take (length a) a ≡ a
whole_take a = ap (take (length a)) (sym (append-nil a)) ∙ take_at a [] (length a) refl

pub blob_done : {before : Option Previous} (a s : List ℕ) (r : Pixels) → BlobAfter before a r → IsDoneAfter before (a ++ s) r (length a)
blob_done {before} a s r b = (omega (arith, length-append a s), subst (λ (u : List ℕ). BlobAfter before u r) (sym (take_at a s (length a) refl)) b)

pub blob_once : (before : Option Previous) (a b s t : List ℕ) (x y : Pixels) → BlobAfter before a x → BlobAfter before b y → a ++ s ≡ b ++ t → (a ≡ b) × (x ≡ y)
blob_once before a b s t x y ba bb e =
    let there : (length b ≤ length (a ++ s)) × BlobAfter before (take (length b) (a ++ s)) y =
    subst (λ (u : List ℕ). (length b ≤ length u) × BlobAfter before (take (length b) u) y) (sym e) (blob_done b t y bb) in
    let same = done_once {before = before} (a ++ s) x y (length a) (length b) (blob_done a s x ba) there in
    (sym (take_at a s (length a) refl) ∙ (λ i. take (same.1 i) (e i)) ∙ take_at b t (length b) refl, same.0)

-- ---- blobs in a row

next_joined : (a b c d : List ℕ) → a ≡ b ++ c → a ++ d ≡ b ++ (c ++ d)
next_joined a b c d joined = ap (λ u. u ++ d) joined ∙ append_assoc b c d

pub blobs_once : (before : Option Previous) (a b s t : List ℕ) (xs ys : List Pixels) → length xs ≡ length ys → BlobsAfter before a xs → BlobsAfter before b ys → a ++ s ≡ b ++ t → (a ≡ b) × (xs ≡ ys)
blobs_once before a b s t [] [] long na nb e = (na ∙ sym nb, refl)
blobs_once before a b s t [] (y ∷ ys) long na nb e = absurd (omega (arith, long))
blobs_once before a b s t (x ∷ xs) [] long na nb e = absurd (omega (arith, long))
blobs_once before a b s t (x ∷ xs) (y ∷ ys) long (f, (r, (joined, (stands, more)))) (f', (r', (joined', (stands', more')))) e =
    let joins : f ++ (r ++ s) ≡ f' ++ (r' ++ t) = sym (next_joined a f r s joined) ∙ e ∙ next_joined b f' r' t joined' in
    let first = blob_once before f f' (r ++ s) (r' ++ t) x y stands stands' joins in
    let rests = same_rest f f' (r ++ s) (r' ++ t) first.0 joins in
    let later = blobs_once (Some (previous_of y)) r r' s t xs ys (omega (arith, long)) (subst (λ (u : Pixels). BlobsAfter (Some (previous_of u)) r xs) first.1 more) more' rests in
    (joined ∙ (λ i. first.0 i ++ later.0 i) ∙ sym joined', λ i. first.1 i ∷ later.1 i)

-- where fewer of the blobs are taken off, the next one comes first in what is left
pub record NextBlob (before : Option Previous) (bands all : List Pixels) (rest : List ℕ) : Type 0 where
  pub front : List ℕ
  pub back : List ℕ
  pub raster : Pixels
  pub more : List Pixels
  pub joined : rest ≡ front ++ back
  pub stands : BlobAfter (last_after before bands) front raster
  pub all_are : all ≡ bands ++ raster ∷ more

meets : (before : Option Previous) (a s front rest : List ℕ) (xs bands : List Pixels) → BlobsAfter before a xs → BlobsAfter before front bands → length bands < length xs → a ++ s ≡ front ++ rest → NextBlob before bands xs rest
meets before a s front rest [] bands na nb below e = absurd (omega (arith, below))
meets before a s front rest (x ∷ xs) [] (f, (r, (joined, (stands, more)))) nb below e = record {
  front = f;
  back = r ++ s;
  raster = x;
  more = xs;
  joined = sym (ap (λ u. u ++ rest) nb) ∙ sym e ∙ next_joined a f r s joined;
  stands = stands;
  all_are = refl;
}
meets before a s front rest (x ∷ xs) (y ∷ ys) (f, (r, (joined, (stands, more)))) (f', (r', (joined', (stands', more')))) below e =
    let joins : f ++ (r ++ s) ≡ f' ++ (r' ++ rest) = sym (next_joined a f r s joined) ∙ e ∙ next_joined front f' r' rest joined' in
    let first = blob_once before f f' (r ++ s) (r' ++ rest) x y stands stands' joins in
    let later = meets (Some (previous_of y)) r s r' rest xs ys (subst (λ (u : Pixels). BlobsAfter (Some (previous_of u)) r xs) first.1 more) more' (omega (arith, below)) (same_rest f f' (r ++ s) (r' ++ rest) first.0 joins) in
    record {
      front = later.front;
      back = later.back;
      raster = later.raster;
      more = later.more;
      joined = later.joined;
      stands = later.stands;
      all_are = (λ i. first.1 i ∷ xs) ∙ ap (λ (u : List Pixels). y ∷ u) later.all_are;
    }

-- ---- what may come behind bands

pub may_be_first : (bands : List Pixels) (r : Pixels) (more : List Pixels) → MayBeBands (bands ++ r ∷ more) → length bands < 16
may_be_first bands r more m = omega (arith, m.few, length-append bands (r ∷ more))

pub member : (P : Pixels → Type 0) (bands : List Pixels) (r : Pixels) (more : List Pixels) → All P (bands ++ r ∷ more) → P r
member P [] r more all = All-head P r more all
member P (x ∷ bands) r more all = member P bands r more (All-tail P x (bands ++ r ∷ more) all)

all_front : (P : Pixels → Type 0) (bands : List Pixels) (r : Pixels) (more : List Pixels) → All P (bands ++ r ∷ more) → All P (bands ++ r ∷ [])
all_front P [] r more all = All-cons P r [] (All-head P r more all) (All-nil P)
all_front P (x ∷ bands) r more all = All-cons P x (bands ++ r ∷ []) (All-head P x (bands ++ r ∷ more) all) (all_front P bands r more (All-tail P x (bands ++ r ∷ more) all))

-- ---- faults

single-unlike : (bands : List Pixels) (h : Header) → IsSingle (unlike_faults bands h)
single-unlike [] h = single-none
single-unlike (r ∷ more) h =
    single-unless (h.rows ≡ r.rows) BadBand 14 _
    (single-unless (h.cols ≡ r.cols) BadBand 18 _
    (single-unless (h.depth ≡ r.depth) BadBand (18 + shift h.version) _
    (single-unless (h.kind ≡ r.kind) BadBand (34 + shift h.version) _
    (single-unless ((2 + length more) * (h.rows * h.cols * h.depth) ≤ 16777216) (OfBlob TooLarge) (18 + shift h.version) none single-none))))

pub single-band : (bands : List Pixels) (rest : List ℕ) → IsSingle (λ place reason. BandFault bands rest place reason)
single-band bands rest p q a b (unlike h head x) (unlike g there y) = single-unlike bands h p q a b x (subst (λ (k : Header). unlike_faults bands k q b) (one_head rest g h there head) y)
single-band bands rest p q a b (unlike h head x) (in_blob why like y is) = absurd (like h head p a x)
single-band bands rest p q a b (in_blob why like x is) (unlike h head y) = absurd (like h head q b y)
single-band bands rest p q a b (in_blob why like x is) (in_blob other like' y e) =
    let same = one_fault {before = last_after None bands} rest p q why other x y in (same.0, is ∙ ap OfBlob same.1 ∙ sym e)

pub band_or_cut : (bands : List Pixels) (rest : List ℕ) (p q : ℕ) (a b : BandReason) → BandFault bands rest p a → cut_faults bands rest q b → ⊥
band_or_cut bands rest p q a b (unlike h head x) (like, (more, w)) = like h head p a x
band_or_cut bands rest p q a b (in_blob why like x is) (like', (more, w)) = more.no_fault p why x

single-begun : (bands : List Pixels) (rest : List ℕ) → IsSingle (λ place reason. BandFault bands rest place reason ⊎ cut_faults bands rest place reason)
single-begun bands rest p q a b (inl x) (inl y) = single-band bands rest p q a b x y
single-begun bands rest p q a b (inl x) (inr y) = absurd (band_or_cut bands rest p q a b x y)
single-begun bands rest p q a b (inr x) (inl y) = absurd (band_or_cut bands rest q p b a y x)
single-begun bands rest p q a b (inr x) (inr y) = single-wrong (OfBlob Truncated) (length rest) p q a b x.1.1 y.1.1

pub single-next : (bands : List Pixels) (rest : List ℕ) → IsSingle (next_faults bands rest)
single-next bands rest = single-choice (IsBegun bands rest) _ (ends (OfBlob Leftover) rest) (single-begun bands rest) (single-ends (OfBlob Leftover) rest)

-- ---- a blob that stands has none

pub empty-unlike : (bands : List Pixels) (h : Header) (r : Pixels) → h.rows ≡ r.rows → h.cols ≡ r.cols → h.depth ≡ r.depth → h.kind ≡ r.kind → AreLike (bands ++ r ∷ []) → IsEmpty (unlike_faults bands h)
empty-unlike [] h r rows cols depth kind like = λ p a w. w
empty-unlike (x ∷ more) h r rows cols depth kind (all, size) =
    let l : IsLike x r = member (IsLike x) more r [] all in
    empty-choice (h.rows ≡ x.rows) _ (wrong BadBand 14) (rows ∙ l.rows)
    (empty-choice (h.cols ≡ x.cols) _ (wrong BadBand 18) (cols ∙ l.cols)
    (empty-choice (h.depth ≡ x.depth) _ (wrong BadBand (18 + shift h.version)) (depth ∙ l.depth)
    (empty-choice (h.kind ≡ x.kind) _ (wrong BadBand (34 + shift h.version)) (kind ∙ l.kind)
    (empty-choice ((2 + length more) * (h.rows * h.cols * h.depth) ≤ 16777216) none (wrong (OfBlob TooLarge) (18 + shift h.version))
    (subst (λ (n : ℕ). n * (h.rows * h.cols * h.depth) ≤ 16777216) (let t : 1 + length (more ++ r ∷ []) ≡ 2 + length more = omega (arith, length-append more (r ∷ [])) in t)
    (subst (λ (n : ℕ). (1 + length (more ++ r ∷ [])) * n ≤ 16777216) (sym (λ i. (rows ∙ l.rows) i * (cols ∙ l.cols) i * (depth ∙ l.depth) i)) size)) (λ p a w. w)))))

-- the first of bands
like_front : (bands : List Pixels) (r : Pixels) (more : List Pixels) → AreLike (bands ++ r ∷ more) → AreLike (bands ++ r ∷ [])
like_front [] r more like = (All-nil (IsLike r), one_size (length more) (r.rows * r.cols * r.depth) like.1)
  where
    one_size : (n size : ℕ) → (1 + n) * size ≤ 16777216 → (1 + 0) * size ≤ 16777216
    one_size n size fits = let a : (1 + 0) * size ≤ (1 + n) * size = mul-le-mul_right size (omega arith) in omega (arith, fits, a)
like_front (x ∷ bands) r more (all, size) =
    let n = x.rows * x.cols * x.depth in
    let a : (1 + length (bands ++ r ∷ [])) * n ≤ (1 + length (bands ++ r ∷ more)) * n = mul-le-mul_right n (omega (arith, length-append bands (r ∷ []), length-append bands (r ∷ more))) in
    (all_front (IsLike x) bands r more all, omega (arith, a, size))

pub may_be_front : (bands : List Pixels) (r : Pixels) (more : List Pixels) → MayBeBands (bands ++ r ∷ more) → MayBeBands (bands ++ r ∷ [])
may_be_front bands r more m = record {
  few = omega (arith, m.few, length-append bands (r ∷ []), length-append bands (r ∷ more));
  sound = all_front IsRaster bands r more m.sound;
  like = like_front bands r more m.like;
}

pub no_next : (bands : List Pixels) (rest front back : List ℕ) (r : Pixels) → rest ≡ front ++ back → BlobAfter (last_after None bands) front r → MayBeBands (bands ++ r ∷ []) → IsEmpty (next_faults bands rest)
no_next bands rest front back r joined (sound, (h, (p, j))) m =
    let before = last_after None bands in
    let blob : BlobAfter before front r = (sound, (h, (p, j))) in
    let done : IsDoneAfter before rest r (length front) = subst (λ (u : List ℕ). IsDoneAfter before u r (length front)) (sym joined) (blob_done front back r blob) in
    let head : HeadAt rest h = subst (λ (u : List ℕ). HeadAt u h) (sym joined) (head_more front back h j.head_stands) in
    let few : length bands < 16 = may_be_first bands r [] m in
    let key : HasKey rest = head.key in
    empty-choice (IsBegun bands rest) _ (ends (OfBlob Leftover) rest) (inr (few, key))
    (no_begun bands rest r (length front) h head done (empty-unlike bands h r j.head_of.rows j.head_of.cols j.head_of.depth j.head_of.kind m.like))
  where
    no_band : (bands : List Pixels) (rest : List ℕ) (r : Pixels) (size : ℕ) (h : Header) → HeadAt rest h → IsDoneAfter (last_after None bands) rest r size → IsEmpty (unlike_faults bands h) → (q : ℕ) (a : BandReason) → BandFault bands rest q a → ⊥
    no_band bands rest r size h head done e q a (unlike g there x) = e q a (subst (λ (k : Header). unlike_faults bands k q a) (one_head rest g h there head) x)
    no_band bands rest r size h head done e q a (in_blob why like x is) = done_or_fault {before = last_after None bands} rest r size q why done x

    no_begun : (bands : List Pixels) (rest : List ℕ) (r : Pixels) (size : ℕ) (h : Header) → HeadAt rest h → IsDoneAfter (last_after None bands) rest r size → IsEmpty (unlike_faults bands h) → IsEmpty (λ place reason. BandFault bands rest place reason ⊎ cut_faults bands rest place reason)
    no_begun bands rest r size h head done e q a (inl x) = no_band bands rest r size h head done e q a x
    no_begun bands rest r size h head done e q a (inr (like, (more, w))) = more.not_done r size done

-- ---- one verdict

-- behind bands that stand in front of others nothing is wrong
fewer_faults : (input : List ℕ) (p : ℕ) (a : BandReason) (w : BandsFaultAt input p a) (front rest : List ℕ) (all : List Pixels) → input ≡ front ++ rest → MayBeBands all → BlobsAfter None front all → length w.bands < length all → ⊥
fewer_faults input p a w front rest all joined may_be stand less =
    let n = meets None front rest w.front w.rest all w.bands stand w.stand less (sym joined ∙ w.joined) in
    empty-moved (length w.front) (next_faults w.bands w.rest) (no_next w.bands w.rest n.front n.back n.raster n.joined n.stands (may_be_front w.bands n.raster n.more (subst MayBeBands n.all_are may_be))) p a w.next

-- nothing behind bands is wrong where nothing comes
no_rest : (bands : List Pixels) → 0 < length bands → IsEmpty (next_faults bands [])
no_rest bands some p a (inl (inl none_, w)) = absurd (omega (arith, some, ap length none_))
no_rest bands some p a (inl (inr (few, key), w)) = absurd (omega (arith, ap length key))
no_rest bands some p a (inr (no_, inl (e, w))) = w
no_rest bands some p a (inr (no_, inr (other, w))) = other refl

more_faults : (input : List ℕ) (p : ℕ) (a : BandReason) (w : BandsFaultAt input p a) (bands : List Pixels) → BandsBlob input bands → (length w.bands < length bands) ⊎ ((length bands < length w.bands) ⊎ (length w.bands ≡ length bands)) → ⊥
more_faults input p a w bands (are, stand) (inl less) = fewer_faults input p a w input [] bands (sym (append-nil input)) are.1 stand less
more_faults input p a w bands (are, stand) (inr (inl less)) =
    let n = meets None w.front w.rest input [] w.bands bands w.stand stand less (sym w.joined ∙ sym (append-nil input)) in
    let size : 0 ≡ length n.front + length n.back = ap length n.joined ∙ length-append n.front n.back in
    let h = done_head {before = last_after None bands} n.front n.raster (length n.front) (omega arith, subst (λ (u : List ℕ). BlobAfter (last_after None bands) u n.raster) (sym (whole_take n.front)) n.stands) in
    absurd (omega (arith, size, h.1.0.head.long))
more_faults input p a w bands (are, stand) (inr (inr same)) =
    let once = blobs_once None w.front input w.rest [] w.bands bands same w.stand stand (sym w.joined ∙ sym (append-nil input)) in
    let rests : w.rest ≡ [] = same_rest w.front input w.rest [] once.0 (sym w.joined ∙ sym (append-nil input)) in
    empty-moved (length w.front) (next_faults w.bands w.rest) (subst (λ (u : List ℕ). IsEmpty (next_faults w.bands u)) (sym rests) (no_rest w.bands (omega (arith, same, are.0)))) p a w.next

same_chains : (input : List ℕ) (p q : ℕ) (a b : BandReason) (w : BandsFaultAt input p a) (v : BandsFaultAt input q b) → (length w.bands < length v.bands) ⊎ ((length v.bands < length w.bands) ⊎ (length w.bands ≡ length v.bands)) → (w.bands ≡ v.bands) × (w.rest ≡ v.rest) × (w.front ≡ v.front)
same_chains input p q a b w v (inl less) = absurd (fewer_faults input p a w v.front v.rest v.bands v.joined v.may_be v.stand less)
same_chains input p q a b w v (inr (inl less)) = absurd (fewer_faults input q b v w.front w.rest w.bands w.joined w.may_be w.stand less)
same_chains input p q a b w v (inr (inr same)) =
    let joins = sym w.joined ∙ v.joined in
    let once = blobs_once None w.front v.front w.rest v.rest w.bands v.bands same w.stand v.stand joins in
    (once.1, same_rest w.front v.front w.rest v.rest once.0 joins, once.0)

order : (m n : ℕ) → (m < n) ⊎ ((n < m) ⊎ (m ≡ n))
order m n = which (cases_lt m n) (cases_lt n m)
  where
    which : (m < n) ⊎ (n ≤ m) → (n < m) ⊎ (m ≤ n) → (m < n) ⊎ ((n < m) ⊎ (m ≡ n))
    which (inl less) y = inl less
    which (inr low) (inl less) = inr (inl less)
    which (inr low) (inr high) = inr (inr (omega (arith, low, high)))

-- the blobs in front of a fault, and what is behind them
pub same_chain : (input : List ℕ) (p q : ℕ) (a b : BandReason) (w : BandsFaultAt input p a) (v : BandsFaultAt input q b) → (w.bands ≡ v.bands) × (w.rest ≡ v.rest) × (w.front ≡ v.front)
same_chain input p q a b w v = same_chains input p q a b w v (order (length w.bands) (length v.bands))

pub same_faults : (input : List ℕ) (p q : ℕ) (a b : BandReason) (w : BandsFaultAt input p a) (v : BandsFaultAt input q b) → (p ≡ q) × (a ≡ b)
same_faults input p q a b w v =
    let same = same_chain input p q a b w v in
    let next : moved (length v.front) (next_faults v.bands v.rest) p a =
    subst (λ (u : List ℕ). moved (length u) (next_faults v.bands v.rest) p a) same.2
    (subst (λ (u : List ℕ). moved (length w.front) (next_faults v.bands u) p a) same.1
    (subst (λ (u : List Pixels). moved (length w.front) (next_faults u w.rest) p a) same.0 w.next)) in
    single-moved (length v.front) (next_faults v.bands v.rest) (single-next v.bands v.rest) p q a b next v.next

no_more : (input : List ℕ) (all bands : List Pixels) → BandsBlob input all → BandsBlob input bands → length bands < length all → ⊥
no_more input all bands x y less =
    let n = meets None input [] input [] all bands x.1 y.1 less refl in
    let size : 0 ≡ length n.front + length n.back = ap length n.joined ∙ length-append n.front n.back in
    let h = done_head {before = last_after None bands} n.front n.raster (length n.front) (omega arith, subst (λ (u : List ℕ). BlobAfter (last_after None bands) u n.raster) (sym (whole_take n.front)) n.stands) in
    omega (arith, size, h.1.0.head.long)

same_bands : (input : List ℕ) (xs ys : List Pixels) → BandsBlob input xs → BandsBlob input ys → (length xs < length ys) ⊎ ((length ys < length xs) ⊎ (length xs ≡ length ys)) → xs ≡ ys
same_bands input xs ys x y (inr (inr same)) = (blobs_once None input input [] [] xs ys same x.1 y.1 refl).1
same_bands input xs ys x y (inl less) = absurd (no_more input ys xs y x less)
same_bands input xs ys x y (inr (inl less)) = absurd (no_more input xs ys x y less)

pub one_bands_verdict : (input : List ℕ) (v w : BandsVerdict) → IsBandsVerdict input v → IsBandsVerdict input w → v ≡ w
one_bands_verdict input (Decoded xs) (Decoded ys) x y = ap Decoded (same_bands input xs ys x y (order (length xs) (length ys)))
one_bands_verdict input (Decoded xs) (Refused q b) x y = absurd (more_faults input q b y xs x (order (length y.bands) (length xs)))
one_bands_verdict input (Refused p a) (Decoded ys) x y = absurd (more_faults input p a x ys y (order (length x.bands) (length ys)))
one_bands_verdict input (Refused p a) (Refused q b) x y = let same = same_faults input p q a b x y in λ i. Refused (same.0 i) (same.1 i)

pub one_bands : (input : List ℕ) (xs ys : List Pixels) → BandsBlob input xs → BandsBlob input ys → xs ≡ ys
one_bands input xs ys x y = same_bands input xs ys x y (order (length xs) (length ys))
