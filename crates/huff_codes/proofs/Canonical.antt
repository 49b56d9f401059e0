-- Canonical codes: their shares lie side by side, so none is the front of another.
use Rattle.std.proofs.Common.{◌≡◌, ◌≢◌, ℕ, ◌+◌, ◌-◌, ◌*◌, ◌/◌, ◌^◌, ◌<◌, ◌≤◌, ◌⊎◌, ◌&&◌, ◌||◌, nat_eq, nat_lt, true, cond, List, slice_index, refl, sym, ap, ◌∙◌, inl, inr, arith}
use Rattle.std.proofs.lemmas.Bool.{cases_Bool, cases_eq, cases_lt, false≢true, eqb-true, eq-eqb, ne_eqb, ltb-true, lt-ltb, and_parts, and_from, or_cases, or_left, or_right}
use Rattle.std.proofs.lemmas.Nat.{pow_pos, le-div, shr_split}
use Rattle.huff_codes.specs.Sums.{sum_below}
use Rattle.huff_codes.specs.Tree.{share, shares}
use Rattle.huff_codes.specs.Bits.{BeginsWith}
use Rattle.huff_codes.specs.Codes.{AreLengths, is_earlier, start_of, canonical_code}
use Rattle.huff_codes.proofs.Kraft.{sum-le, sum-add, sum-one, share-pos}
use Rattle.huff_codes.proofs.BitLists.{front_is_taken, same_top}

-- what is_earlier tests
pub record IsEarlier (lengths : List ℕ) (t s : ℕ) : Type 0 where
  pub some : 0 < slice_index lengths t
  pub order : (slice_index lengths t < slice_index lengths s) ⊎ ((slice_index lengths t ≡ slice_index lengths s) × (t < s))

pub earlier_from : (lengths : List ℕ) (t s : ℕ) → is_earlier lengths t s ≡ true → IsEarlier lengths t s
unfolding is_earlier
earlier_from lengths t s h =
    let lt = slice_index lengths t in
    let ls = slice_index lengths s in
    let parts = and_parts (nat_lt 0 lt) (nat_lt lt ls || (nat_eq lt ls && nat_lt t s)) h in record {
      some = ltb-true 0 lt parts.0;
      order = elim (or_cases (nat_lt lt ls) (nat_eq lt ls && nat_lt t s) parts.1) [
        | inl less ↦ inl (ltb-true lt ls less)
        | inr same ↦ let both = and_parts (nat_eq lt ls) (nat_lt t s) same in inr (eqb-true lt ls both.0, ltb-true t s both.1)
      ];
    }

pub earlier_to : (lengths : List ℕ) (t s : ℕ) → IsEarlier lengths t s → is_earlier lengths t s ≡ true
unfolding is_earlier
earlier_to lengths t s h =
    let lt = slice_index lengths t in
    let ls = slice_index lengths s in
    and_from (nat_lt 0 lt) (nat_lt lt ls || (nat_eq lt ls && nat_lt t s)) (lt-ltb 0 lt h.some) (elim h.order [
      | inl less ↦ or_left (nat_lt lt ls) (nat_eq lt ls && nat_lt t s) (lt-ltb lt ls less)
      | inr same ↦ or_right (nat_lt lt ls) (nat_eq lt ls && nat_lt t s) (and_from (nat_eq lt ls) (nat_lt t s) (eq-eqb lt ls same.0) (lt-ltb t s same.1))
    ])

-- of two symbols with codes, one comes before the other
pub earlier_cases : (lengths : List ℕ) (t s : ℕ) → t ≢ s → 0 < slice_index lengths t → 0 < slice_index lengths s → IsEarlier lengths t s ⊎ IsEarlier lengths s t
earlier_cases lengths t s ne p q = elim (cases_lt (slice_index lengths t) (slice_index lengths s)) [
  | inl less ↦ inl (record { some = p; order = inl less })
  | inr ge ↦ elim (cases_lt (slice_index lengths s) (slice_index lengths t)) [
    | inl more ↦ inr (record { some = q; order = inl more })
    | inr le ↦ elim (cases_lt t s) [
      | inl lt ↦ inl (record { some = p; order = inr (omega arith, lt) })
      | inr gt ↦ inr (record { some = q; order = inr (omega arith, omega arith) })
    ]
  ]
]

-- what a symbol adds to the place of a later one
pub before_of : List ℕ → ℕ → ℕ → ℕ
before_of lengths s t = cond (is_earlier lengths t s) (share (slice_index lengths t)) 0

own_of : List ℕ → ℕ → ℕ → ℕ
own_of lengths s t = cond (nat_eq t s) (share (slice_index lengths t)) 0

pub start-is : (lengths : List ℕ) (s : ℕ) → start_of lengths s ≡ sum_below 256 (before_of lengths s)
unfolding start_of before_of
start-is lengths s = refl

shares-are : (lengths : List ℕ) → shares lengths ≡ sum_below 256 (λ s. share (slice_index lengths s))
unfolding shares
shares-are lengths = refl

pub before-in : (lengths : List ℕ) (s t : ℕ) → IsEarlier lengths t s → before_of lengths s t ≡ share (slice_index lengths t)
unfolding before_of
before-in lengths s t h = rw (earlier_to lengths t s h) refl

pub before-out : (lengths : List ℕ) (s t : ℕ) → (IsEarlier lengths t s → ⊥) → before_of lengths s t ≡ 0
unfolding before_of
before-out lengths s t h = elim (cases_Bool (is_earlier lengths t s)) [
  | inl yes_ ↦ absurd (h (earlier_from lengths t s yes_))
  | inr no_ ↦ rw no_ refl
]

own-here : (lengths : List ℕ) (s : ℕ) → own_of lengths s s ≡ share (slice_index lengths s)
unfolding own_of
own-here lengths s = rw (eq-eqb s s refl) refl

own-other : (lengths : List ℕ) (s t : ℕ) → (t ≡ s → ⊥) → own_of lengths s t ≡ 0
unfolding own_of
own-other lengths s t ne = rw (ne_eqb t s ne) refl

not_before_itself : (lengths : List ℕ) (s : ℕ) → IsEarlier lengths s s → ⊥
not_before_itself lengths s h = elim h.order [
  | inl less ↦ absurd (omega arith)
  | inr same ↦ absurd (omega (arith, same.1))
]

earlier_through : (lengths : List ℕ) (t a b : ℕ) → IsEarlier lengths t a → IsEarlier lengths a b → IsEarlier lengths t b
earlier_through lengths t a b h k = record {
  some = h.some;
  order = elim h.order [
    | inl less ↦ elim k.order [ inl further ↦ inl (omega arith) | inr same ↦ inl (omega (arith, same.0)) ]
    | inr same ↦ elim k.order [ inl further ↦ inl (omega (arith, same.0)) | inr equal ↦ inr (same.0 ∙ equal.0, omega (arith, same.1, equal.1)) ]
  ];
}

own_sum : (lengths : List ℕ) (s : ℕ) → s < 256 → sum_below 256 (own_of lengths s) ≡ share (slice_index lengths s)
own_sum lengths s lt = sum-one 256 s (own_of lengths s) lt (λ k below ne. own-other lengths s k ne) ∙ own-here lengths s

-- all that is before a symbol and the symbol itself, against any terms that hold as much
under : (lengths : List ℕ) (s : ℕ) (f : ℕ → ℕ) → s < 256 → share (slice_index lengths s) ≤ f s → ((t : ℕ) → t < 256 → IsEarlier lengths t s → share (slice_index lengths t) ≤ f t)
    → start_of lengths s + share (slice_index lengths s) ≤ sum_below 256 f
under lengths s f lt here before =
    let each : (t : ℕ) → t < 256 → before_of lengths s t + own_of lengths s t ≤ f t =
    λ (t : ℕ) (below : t < 256). elim (cases_eq t s) [
      | inl same ↦
          let out : before_of lengths s s ≡ 0 = before-out lengths s s (not_before_itself lengths s) in
          rw same (omega (arith, out, own-here lengths s, here))
      | inr other ↦ elim (cases_Bool (is_earlier lengths t s)) [
        | inl yes_ ↦
            let h = earlier_from lengths t s yes_ in
            omega (arith, before-in lengths s t h, own-other lengths s t other, before t below h)
        | inr no_ ↦ omega (arith, before-out lengths s t (λ h. false≢true (sym no_ ∙ earlier_to lengths t s h)), own-other lengths s t other)
      ]
    ] in
    let sum : sum_below 256 (λ t. before_of lengths s t + own_of lengths s t) ≤ sum_below 256 f = sum-le 256 (λ t. before_of lengths s t + own_of lengths s t) f each in
    omega (arith, sum, start-is lengths s, own_sum lengths s lt, sum-add 256 (before_of lengths s) (own_of lengths s))

-- the share of a later code begins behind that of an earlier one
pub start_behind : (lengths : List ℕ) (a b : ℕ) → a < 256 → IsEarlier lengths a b → start_of lengths a + share (slice_index lengths a) ≤ start_of lengths b
start_behind lengths a b lt h =
    let all : start_of lengths a + share (slice_index lengths a) ≤ sum_below 256 (before_of lengths b) =
    under lengths a (before_of lengths b) lt (omega (arith, before-in lengths b a h))
    (λ t below k. omega (arith, before-in lengths b t (earlier_through lengths t a b k h))) in
    omega (arith, all, start-is lengths b)

-- and each share ends within all there is
pub start_within : (lengths : List ℕ) (s : ℕ) → s < 256 → start_of lengths s + share (slice_index lengths s) ≤ shares lengths
start_within lengths s lt =
    let all : start_of lengths s + share (slice_index lengths s) ≤ sum_below 256 (λ t. share (slice_index lengths t)) =
    under lengths s (λ t. share (slice_index lengths t)) lt (omega arith) (λ t below k. omega arith) in
    omega (arith, all, shares-are lengths)

pub start_fits : (lengths : List ℕ) (s : ℕ) → AreLengths lengths → s < 256 → 0 < slice_index lengths s → start_of lengths s < 2 ^ 32
start_fits lengths s h lt some =
    omega (arith, start_within lengths s lt, h.exact, share-pos (slice_index lengths s) some, pow_pos (32 - slice_index lengths s))

-- two places a share apart differ in the bits of the share's code
apart : (k a b : ℕ) → a + 2 ^ k ≤ b → a / 2 ^ k ≡ b / 2 ^ k → ⊥
apart k a b h e =
    let pos : 0 < 2 ^ k = pow_pos k in
    let low : a / 2 ^ k * 2 ^ k ≤ a = omega (arith, shr_split a k) in
    let above : (a / 2 ^ k + 1) ≤ b / 2 ^ k = le-div (a / 2 ^ k + 1) b (2 ^ k) pos (omega (arith, low)) in
    absurd (omega arith)

-- no canonical code is the front of another
pub canonical_free : (lengths : List ℕ) (a b : ℕ) → AreLengths lengths → a < 256 → b < 256 → 0 < slice_index lengths a → 0 < slice_index lengths b
    → BeginsWith (canonical_code lengths b) (canonical_code lengths a) → a ≡ b
unfolding canonical_code
canonical_free lengths a b h a_lt b_lt a_some b_some begins = elim (cases_eq a b) [
  | inl same ↦ same
  | inr other ↦
      let la = slice_index lengths a in
      let lb = slice_index lengths b in
      let front = front_is_taken la lb (start_of lengths a) (start_of lengths b) (h.low a a_lt) (h.low b b_lt) begins in
      let top : start_of lengths b / 2 ^ (32 - la) ≡ start_of lengths a / 2 ^ (32 - la) =
      same_top la (start_of lengths a) (start_of lengths b) (h.low a a_lt) (start_fits lengths a h a_lt a_some) (start_fits lengths b h b_lt b_some) front.1 in
      elim (earlier_cases lengths a b other a_some b_some) [
        | inl before ↦ absurd (apart (32 - la) (start_of lengths a) (start_of lengths b) (omega (arith, start_behind lengths a b a_lt before, share-pos la a_some)) (sym top))
        | inr behind ↦
            let same : lb ≡ la = elim behind.order [ inl less ↦ absurd (omega (arith, front.0)) | inr equal ↦ equal.0 ] in
            let size : share lb ≡ 2 ^ (32 - la) = share-pos lb b_some ∙ ap (λ (k : ℕ). 2 ^ (32 - k)) same in
            absurd (apart (32 - la) (start_of lengths b) (start_of lengths a) (omega (arith, start_behind lengths b a b_lt behind, size)) top)
      ]
]
