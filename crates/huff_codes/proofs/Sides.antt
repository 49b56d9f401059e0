-- Where codes begin, on the way through the symbols.
use Rattle.std.proofs.Common.{◌≡◌, ◌≢◌, ℕ, ◌+◌, ◌^◌, ◌<◌, ◌≤◌, ◌&&◌, ◌||◌, nat_eq, nat_lt, Bool, true, false, cond, List, slice_index, refl, sym, ap, ◌∙◌, inl, inr, arith}
use Rattle.std.proofs.lemmas.Bool.{cases_Bool, cases_lt, eq-eqb, ne_eqb, ltb-false, le-ltb, and_right}
use Rattle.std.proofs.lemmas.Bool.Decides.{nat_tests}
use Rattle.huff_codes.specs.Sums.{sum_below}
use Rattle.huff_codes.specs.Tree.{share}
use Rattle.huff_codes.specs.Codes.{AreLengths, is_earlier, start_of}
use Rattle.huff_codes.specs.inside.Places.{is_counted, counted_share, length_share, length_shares, place_of}
use Rattle.huff_codes.proofs.Kraft.{sum-same, sum-add, sum-one, sum-none, share-zero}
use Rattle.huff_codes.proofs.Canonical.{start_fits}

pub place_is_start : (lengths : List ℕ) (s : ℕ) → place_of lengths s (slice_index lengths s) ≡ start_of lengths s
unfolding place_of start_of counted_share is_counted is_earlier
place_is_start lengths s = refl

pub place-is : (lengths : List ℕ) (s l : ℕ) → place_of lengths s l ≡ sum_below 256 (counted_share lengths s l)
unfolding place_of
place-is lengths s l = refl

nothing_either : (b : Bool) → ◌≡◌ {A = ℕ} 0 (cond b 0 0)
nothing_either true = refl
nothing_either false = refl

-- before the first symbol, all shorter codes are counted and no other
pub counted_first : (lengths : List ℕ) (l t : ℕ) → counted_share lengths 0 l t ≡ cond (nat_lt (slice_index lengths t) l) (share (slice_index lengths t)) 0
unfolding counted_share is_counted
counted_first lengths l t = elim (cases_Bool (nat_lt 0 (slice_index lengths t))) [
  | inl some ↦ elim (cases_Bool (nat_lt (slice_index lengths t) l)) [
    | inl less ↦ rw (some, less) refl
    | inr more ↦
        let none : nat_lt t 0 ≡ false = le-ltb t 0 (omega arith) in
        rw (some, more, none, and_right (nat_eq (slice_index lengths t) l) false refl) refl
  ]
  | inr none ↦
      let zero_ : slice_index lengths t ≡ 0 = let h : slice_index lengths t ≤ 0 = ltb-false 0 (slice_index lengths t) none in omega arith in
      let nothing : share (slice_index lengths t) ≡ 0 = ap share zero_ ∙ share-zero in
      rw (none, nothing) (nothing_either (nat_lt (slice_index lengths t) l))
]

own_share : List ℕ → ℕ → ℕ → ℕ → ℕ
own_share lengths s l t = cond (nat_eq t s && nat_eq (slice_index lengths t) l) (share (slice_index lengths t)) 0

counted_numbers : (x l s t v : ℕ) → (x ≡ 0 → v ≡ 0)
    → cond (nat_lt 0 x && (nat_lt x l || (nat_eq x l && nat_lt t (s + 1)))) v 0 ≡ cond (nat_lt 0 x && (nat_lt x l || (nat_eq x l && nat_lt t s))) v 0 + cond (nat_eq t s && nat_eq x l) v 0
counted_numbers x l s t v h = grind (arith, nat_tests)

share_none : (x : ℕ) → x ≡ 0 → share x ≡ 0
share_none x e = ap share e ∙ share-zero

counted_more : (lengths : List ℕ) (s l t : ℕ) → counted_share lengths (s + 1) l t ≡ counted_share lengths s l t + own_share lengths s l t
unfolding counted_share is_counted own_share
counted_more lengths s l t = counted_numbers (slice_index lengths t) l s t (share (slice_index lengths t)) (share_none (slice_index lengths t))

own-here : (lengths : List ℕ) (s l : ℕ) → own_share lengths s l s ≡ cond (nat_eq (slice_index lengths s) l) (share (slice_index lengths s)) 0
unfolding own_share
own-here lengths s l = rw (eq-eqb s s refl) refl

own-other : (lengths : List ℕ) (s l t : ℕ) → (t ≡ s → ⊥) → own_share lengths s l t ≡ 0
unfolding own_share
own-other lengths s l t ne = rw (ne_eqb t s ne) refl

-- a symbol's own share comes behind it
pub place_more : (lengths : List ℕ) (s l : ℕ) → s < 256 → place_of lengths (s + 1) l ≡ place_of lengths s l + cond (nat_eq (slice_index lengths s) l) (share (slice_index lengths s)) 0
place_more lengths s l lt =
    let own : sum_below 256 (own_share lengths s l) ≡ cond (nat_eq (slice_index lengths s) l) (share (slice_index lengths s)) 0 =
    sum-one 256 s (own_share lengths s l) lt (λ k below ne. own-other lengths s l k ne) ∙ own-here lengths s l in
    let both : sum_below 256 (counted_share lengths (s + 1) l) ≡ sum_below 256 (λ t. counted_share lengths s l t + own_share lengths s l t) =
    sum-same 256 (counted_share lengths (s + 1) l) (λ t. counted_share lengths s l t + own_share lengths s l t) (λ t below. counted_more lengths s l t) in
    omega (arith, place-is lengths (s + 1) l, place-is lengths s l, both, sum-add 256 (counted_share lengths s l) (own_share lengths s l), own)

pub place_other : (lengths : List ℕ) (s l : ℕ) → s < 256 → slice_index lengths s ≢ l → place_of lengths (s + 1) l ≡ place_of lengths s l
place_other lengths s l lt ne =
    let f : nat_eq (slice_index lengths s) l ≡ false = ne_eqb (slice_index lengths s) l ne in
    let z : cond (nat_eq (slice_index lengths s) l) (share (slice_index lengths s)) 0 ≡ 0 = rw f refl in
    omega (arith, place_more lengths s l lt, z)

pub place_same : (lengths : List ℕ) (s : ℕ) → s < 256 → place_of lengths (s + 1) (slice_index lengths s) ≡ start_of lengths s + share (slice_index lengths s)
place_same lengths s lt =
    let l = slice_index lengths s in
    let t : nat_eq l l ≡ true = eq-eqb l l refl in
    let z : cond (nat_eq l l) (share l) 0 ≡ share l = rw t refl in
    omega (arith, place_more lengths s l lt, z, place_is_start lengths s)

-- a symbol with no code begins nowhere
counted_none : (x l s t v : ℕ) → l ≡ 0 → cond (nat_lt 0 x && (nat_lt x l || (nat_eq x l && nat_lt t s))) v 0 ≡ 0
counted_none x l s t v h = grind (arith, nat_tests)

pub start_none : (lengths : List ℕ) (s : ℕ) → slice_index lengths s ≡ 0 → start_of lengths s ≡ 0
unfolding counted_share is_counted
start_none lengths s e =
    let zeros : sum_below 256 (counted_share lengths s (slice_index lengths s)) ≡ 0 =
    sum-none 256 (counted_share lengths s (slice_index lengths s)) (λ t below. counted_none (slice_index lengths t) (slice_index lengths s) s t (share (slice_index lengths t)) e) in
    sym (place_is_start lengths s) ∙ place-is lengths s (slice_index lengths s) ∙ zeros

pub start-lt : (lengths : List ℕ) (s : ℕ) → AreLengths lengths → s < 256 → start_of lengths s < 2 ^ 32
start-lt lengths s h lt = elim (cases_lt 0 (slice_index lengths s)) [
  | inl some ↦ start_fits lengths s h lt some
  | inr none ↦ omega (arith, start_none lengths s (omega arith))
]

-- ---- the first place of each length, by what the codes of each length take

pub length_share-same : (lengths : List ℕ) (l t : ℕ) → slice_index lengths t ≡ l → length_share lengths l t ≡ share (slice_index lengths t)
unfolding length_share
length_share-same lengths l t e = rw (eq-eqb (slice_index lengths t) l e) refl

pub length_share-other : (lengths : List ℕ) (l t : ℕ) → slice_index lengths t ≢ l → length_share lengths l t ≡ 0
unfolding length_share
length_share-other lengths l t ne = rw (ne_eqb (slice_index lengths t) l ne) refl

pub length_shares-is : (lengths : List ℕ) (l : ℕ) → length_shares lengths l ≡ sum_below 256 (length_share lengths l)
unfolding length_shares
length_shares-is lengths l = refl

-- no code is shorter than 0
none_shorter : (x v : ℕ) → cond (nat_lt x 0) v 0 ≡ 0
none_shorter x v = (let none : nat_lt x 0 ≡ false = le-ltb x 0 (omega arith) in rw none refl)

pub place_first : (lengths : List ℕ) → place_of lengths 0 0 ≡ 0
place_first lengths =
    place-is lengths 0 0 ∙ sum-none 256 (counted_share lengths 0 0) (λ t below. counted_first lengths 0 t ∙ none_shorter (slice_index lengths t) (share (slice_index lengths t)))

shorter_numbers : (x l v : ℕ) → cond (nat_lt x (l + 1)) v 0 ≡ cond (nat_lt x l) v 0 + cond (nat_eq x l) v 0
shorter_numbers x l v = grind (arith, nat_tests)

-- a code is shorter than l + 1 where it is shorter than l, or has this length
shorter_next : (lengths : List ℕ) (l t : ℕ) → counted_share lengths 0 (l + 1) t ≡ counted_share lengths 0 l t + length_share lengths l t
unfolding length_share
shorter_next lengths l t =
    counted_first lengths (l + 1) t ∙ shorter_numbers (slice_index lengths t) l (share (slice_index lengths t))
    ∙ ap (λ (n : ℕ). n + cond (nat_eq (slice_index lengths t) l) (share (slice_index lengths t)) 0) (sym (counted_first lengths l t))

-- the codes of the next length begin behind those of this one
pub place_next : (lengths : List ℕ) (l : ℕ) → place_of lengths 0 (l + 1) ≡ place_of lengths 0 l + length_shares lengths l
place_next lengths l =
    let both : sum_below 256 (counted_share lengths 0 (l + 1)) ≡ sum_below 256 (λ t. counted_share lengths 0 l t + length_share lengths l t) =
    sum-same 256 (counted_share lengths 0 (l + 1)) (λ t. counted_share lengths 0 l t + length_share lengths l t) (λ t below. shorter_next lengths l t) in
    omega (arith, place-is lengths 0 (l + 1), place-is lengths 0 l, both, sum-add 256 (counted_share lengths 0 l) (length_share lengths l), length_shares-is lengths l)
