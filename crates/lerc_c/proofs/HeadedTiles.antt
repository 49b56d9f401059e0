-- Tiles as far as their headers say: the blobs of a tile are such parts, and bytes are so many of them in one way.
use Rattle.std.proofs.Common.{◌≡◌, ℕ, ◌+◌, ◌<◌, ◌≤◌, zero, suc, List, [], ◌∷◌, ◌++◌, length, take, drop, Option, None, Some, refl, sym, ap, ◌∙◌, subst, arith, append_assoc, length-append, ◌⊎◌, inl, inr}
use Rattle.std.proofs.lemmas.List.{append-nil, drop_at, length-take-le, take-append-drop}
use Rattle.std.proofs.Math.Seq.{take-add}
use Rattle.raster_values.specs.Raster.{Pixels}
use Rattle.lerc_header.specs.declared.header.Header.{Header}
use Rattle.lerc_header.specs.declared.fault.BlobReason.{BlobReason}
use Rattle.lerc_header.specs.Head.{HeadAt}
use Rattle.lerc_header.proofs.FaultLemmas.{empty-header}
use Rattle.lerc_header.proofs.HeadLemmas.{one_head}
use Rattle.lerc_header.proofs.Prefixes.{head_in_take, head_more}
use Rattle.lerc_grammar.specs.Mask.{Previous, previous_of}
use Rattle.lerc_grammar.specs.Bands.{BandsBlob, BlobsAfter}
use Rattle.lerc_grammar.proofs.BlobPlaces.{header_within}
use Rattle.lerc_c.specs.HeadedBands.{AreHeaded, IsUnheaded, headed_faults, unheaded_faults}
use Rattle.lerc_c.specs.inside.Headed.{IsHeadedBy}

-- the blobs of a tile are such parts
blobs_headed : (before : Option Previous) (bytes : List ℕ) (bands : List Pixels) → BlobsAfter before bytes bands → AreHeaded bytes (length bands)
blobs_headed before bytes [] none_ = none_
blobs_headed before bytes (r ∷ more) (front, (rest, (joined, ((sound, (h, (p, j))), others)))) =
    (front, (rest, (h, (joined, (j.head_stands, (sym j.head_of.size, blobs_headed (Some (previous_of r)) rest more others))))))

-- ---- one more part, and one less

headed_push : (n : ℕ) (bytes part : List ℕ) (h : Header) → AreHeaded bytes n → HeadAt part h → length part ≡ h.size → AreHeaded (bytes ++ part) (suc n)
headed_push zero bytes part h none_ head size = (part, ([], (h, (ap (λ (u : List ℕ). u ++ part) none_ ∙ sym (append-nil part), (head, (size, refl))))))
headed_push (suc n) bytes part h (front, (rest, (g, (joined, (stands, (long, more)))))) head size =
    (front, (rest ++ part, (g, (ap (λ (u : List ℕ). u ++ part) joined ∙ append_assoc front rest part, (stands, (long, headed_push n rest part h more head size))))))

pub headed_more : (bytes : List ℕ) (at n size : ℕ) → at ≤ length bytes → AreHeaded (take at bytes) n → IsHeadedBy (drop at bytes) size → AreHeaded (take (at + size) bytes) (suc n)
headed_more bytes at n size within stand by =
    let rest = drop at bytes in
    let long : length (take size rest) ≡ size = length-take-le size rest by.within in
    let head : HeadAt (take size rest) by.header = head_in_take size rest by.header (omega (arith, long, by.size_is, by.stands.size_above)) by.stands in
    subst (λ (u : List ℕ). AreHeaded u (suc n)) (sym (take-add at size bytes)) (headed_push n (take at bytes) (take size rest) by.header stand head (long ∙ by.size_is))

pub headed_first : (bytes : List ℕ) (size : ℕ) → IsHeadedBy bytes size → AreHeaded (take size bytes) 1
headed_first bytes size by =
    let same : 0 + size ≡ size = omega arith in
    subst (λ (n : ℕ). AreHeaded (take n bytes) 1) same (headed_more bytes 0 0 size (omega arith) refl by)

-- the first part of as many as there are
no_head_of_none : (bytes : List ℕ) (h : Header) → bytes ≡ [] → HeadAt bytes h → ⊥
no_head_of_none bytes h none_ head = omega (arith, ap length none_, head.long)

same_rest : (front front' rest rest' : List ℕ) → front ++ rest ≡ front' ++ rest' → length front ≡ length front' → rest ≡ rest'
same_rest front front' rest rest' joined long =
    sym (drop_at front rest (length front) refl) ∙ ap (drop (length front)) joined ∙ drop_at front' rest' (length front) (sym long)

-- ---- in one way

-- behind the first k parts of n there are the others
behind_headed : (k n : ℕ) (bytes front rest : List ℕ) → bytes ≡ front ++ rest → AreHeaded front k → AreHeaded bytes n → (m : ℕ) × ((n ≡ k + m) × AreHeaded rest m)
behind_headed zero n bytes front rest joined none_ all =
    (n, ((let same : n ≡ 0 + n = omega arith in same), subst (λ (u : List ℕ). AreHeaded u n) (joined ∙ ap (λ (u : List ℕ). u ++ rest) none_) all))
behind_headed (suc k) zero bytes front rest joined (f, (r, (h, (is, (stands, (long, more)))))) none_ =
    absurd (no_head_of_none f h (let t : length f ≡ 0 = omega (arith, ap length joined, ap length is, length-append front rest, length-append f r, ap length none_) in empty f t) stands)
  where
    empty : (xs : List ℕ) → length xs ≡ 0 → xs ≡ []
    empty [] e = refl
    empty (x ∷ xs) e = absurd (let no : ⊥ = omega (arith, e) in no)
behind_headed (suc k) (suc n) bytes front rest joined (f, (r, (h, (is, (stands, (long, more)))))) (f', (r', (h', (is', (stands', (long', more')))))) =
    let here : bytes ≡ f ++ (r ++ rest) = joined ∙ ap (λ (u : List ℕ). u ++ rest) is ∙ append_assoc f r rest in
    let one : HeadAt bytes h = subst (λ (u : List ℕ). HeadAt u h) (sym here) (head_more f (r ++ rest) h stands) in
    let other : HeadAt bytes h' = subst (λ (u : List ℕ). HeadAt u h') (sym is') (head_more f' r' h' stands') in
    let same : length f' ≡ length f = long' ∙ ap (λ (g : Header). g.size) (one_head bytes h' h other one) ∙ sym long in
    let rests : r' ≡ r ++ rest = same_rest f' f r' (r ++ rest) (sym is' ∙ here) same in
    let others = behind_headed k n r' r rest rests more more' in
    (others.0, ((let one : suc n ≡ suc k + others.0 = omega (arith, others.1.0) in one), others.1.1))

headed_once : (n m : ℕ) (bytes : List ℕ) → AreHeaded bytes n → AreHeaded bytes m → n ≡ m
headed_once n m bytes one other = by (behind_headed n m bytes bytes [] (sym (append-nil bytes)) one other)
  where
    by : (k : ℕ) × ((m ≡ n + k) × AreHeaded [] k) → n ≡ m
    by (zero, (is, none_)) = omega (arith, is)
    by (suc k, (is, (f, (r, (h, (joined, (stands, more))))))) = absurd (let no : ⊥ = omega (arith, ap length joined, length-append f r, stands.long) in no)

-- ---- what stands is not wrong

no_fault_here : (rest : List ℕ) (m p : ℕ) (r : BlobReason) → AreHeaded rest (suc m) → headed_faults rest p r → ⊥
no_fault_here rest m p r (f, (b, (h, (joined, (stands, (long, more)))))) (inl w) =
    empty-header rest h (subst (λ (u : List ℕ). HeadAt u h) (sym joined) (head_more f b h stands)) p r w
no_fault_here rest m p r (f, (b, (h, (joined, (stands, (long, more)))))) (inr (g, (head, (short, w)))) =
    let same : g ≡ h = one_head rest g h head (subst (λ (u : List ℕ). HeadAt u h) (sym joined) (head_more f b h stands)) in
    omega (arith, short, ap (λ (x : Header). x.size) same, long, ap length joined, length-append f b)

headed_or_not : (bytes : List ℕ) (n p : ℕ) (r : BlobReason) → 1 ≤ n → n ≤ 16 → AreHeaded bytes n → IsUnheaded bytes p r → ⊥
headed_or_not bytes n p r least most all w = by (behind_headed w.count n bytes w.front w.rest w.joined w.stand all) w.some w.next.1.1
  where
    by : (m : ℕ) × ((n ≡ w.count + m) × AreHeaded w.rest m) → (w.count ≡ 0) ⊎ (0 < length w.rest) → unheaded_faults w.count w.rest w.next.0 r → ⊥
    by (zero, (is, none_)) (inl no_part) u = omega (arith, is, no_part, least)
    by (zero, (is, none_)) (inr some) u = omega (arith, some, ap length none_)
    by (suc m, (is, more)) some (inl (few, wrong)) = no_fault_here w.rest m w.next.0 r more wrong
    by (suc m, (is, more)) some (inr (full, over)) = omega (arith, is, full, most)

-- ---- tiles

pub tile_counted : (bytes : List ℕ) (n : ℕ) (bands : List Pixels) → AreHeaded bytes n → BandsBlob bytes bands → n ≡ length bands
tile_counted bytes n bands all tile = headed_once n (length bands) bytes all (blobs_headed None bytes bands tile.1)

pub tile_not_refused : (bytes : List ℕ) (bands : List Pixels) (p : ℕ) (r : BlobReason) → BandsBlob bytes bands → IsUnheaded bytes p r → ⊥
tile_not_refused bytes bands p r tile w = headed_or_not bytes (length bands) p r (let t : 1 ≤ length bands = omega (arith, tile.0.0) in t) tile.0.1.few (blobs_headed None bytes bands tile.1) w

-- ---- what is told

pub headed_low : (rest : List ℕ) (p : ℕ) (r : BlobReason) → headed_faults rest p r → p ≤ length rest
headed_low rest p r (inl w) = header_within rest p r w
headed_low rest p r (inr (h, (head, (short, w)))) = omega (arith, w.0)

-- behind parts that stand, where bytes follow
pub unheaded_behind : (bytes : List ℕ) (at n p : ℕ) (r : BlobReason) → at ≤ length bytes → AreHeaded (take at bytes) n → (n ≡ 0) ⊎ (0 < length (drop at bytes)) → unheaded_faults n (drop at bytes) p r → IsUnheaded bytes (at + p) r
unheaded_behind bytes at n p r within stand some w = record {
  count = n;
  front = take at bytes;
  rest = drop at bytes;
  joined = sym (take-append-drop at bytes);
  stand = stand;
  some = some;
  next = (p, (ap (λ k. k + p) (sym (length-take-le at bytes within)), w));
}
