-- Canonical codes count up, and joins take the least.
use Rattle.std.proofs.Common.{◌≡◌, ℕ, zero, suc, ◌+◌, ◌-◌, ◌*◌, ◌/◌, ◌^◌, ◌<◌, ◌≤◌, false, List, [], ◌∷◌, slice_index, refl, sym, ap, ◌∙◌, inl, inr, arith}
use Rattle.std.specs.Prelude.{All}
use Rattle.std.proofs.lemmas.Bool.{cases_Bool, false≢true}
use Rattle.std.proofs.lemmas.Nat.{pow-add, pow_pos, shr_high}
use Rattle.std.proofs.lemmas.List.Elements.{All-nil, All-cons}
use Rattle.huff_codes.specs.Sums.{sum_below}
use Rattle.huff_codes.specs.Bits.{bits_of}
use Rattle.huff_codes.specs.Tree.{Tree, share, is_before, used_below, after_joins}
use Rattle.huff_codes.specs.Codes.{is_earlier, start_of, canonical_code}
use Rattle.huff_codes.specs.Laws.{StandInOrder, JoinsTakeTheLeast, code_number, ComesNext, CanonicalCodesCountUp}
use Rattle.huff_codes.specs.inside.Forests.{Each, InOrder}
use Rattle.huff_codes.proofs.BitLists.{take-bits}
use Rattle.huff_codes.proofs.Kraft.{sum-zero, sum-suc, sum-none, share-pos}
use Rattle.huff_codes.proofs.Canonical.{IsEarlier, earlier_from, earlier_to, earlier_cases, before_of, start-is, before-in, before-out}
use Rattle.huff_codes.proofs.Least.{order_used, order_joined}
use Rattle.huff_codes.proofs.Order.{IsNextTo, value_next}

-- ---- joins

all_of_each : (P : Tree → Type 0) (ts : List Tree) → Each P ts → All P ts
all_of_each P [] h = All-nil P
all_of_each P (t ∷ ts) h = All-cons P t ts h.0 (all_of_each P ts h.1)

stand_of : (counts : List ℕ) (ts : List Tree) → InOrder counts ts → StandInOrder counts ts
stand_of counts [] h = tt
stand_of counts (t ∷ ts) h = (all_of_each (λ u. is_before counts u t ≡ false) ts h.0, stand_of counts ts h.1)

pub least_joined : JoinsTakeTheLeast
least_joined counts n = stand_of counts (after_joins counts n (used_below counts 256)) (order_joined counts n (used_below counts 256) (order_used counts 256))

-- ---- codes

not_itself : (lengths : List ℕ) (a : ℕ) → IsEarlier lengths a a → ⊥
not_itself lengths a h = elim h.order [ inl less ↦ omega (arith, less) | inr same ↦ (let lt = same.1 in omega (arith, lt)) ]

earlier_through : (lengths : List ℕ) (t a b : ℕ) → IsEarlier lengths t a → IsEarlier lengths a b → IsEarlier lengths t b
earlier_through lengths t a b h k = record {
  some = h.some;
  order = elim h.order [
    | inl less ↦ elim k.order [
      | inl more ↦ inl (omega (arith, less, more))
      | inr same ↦ inl (let e = same.0 in omega (arith, less, e))
    ]
    | inr same ↦ elim k.order [
      | inl more ↦ inl (let e = same.0 in omega (arith, more, e))
      | inr also ↦ inr (same.0 ∙ also.0, let x = same.1 in let y = also.1 in omega (arith, x, y))
    ]
  ];
}

next_to : (lengths : List ℕ) (a b : ℕ) → ComesNext lengths a b → IsNextTo lengths a b
next_to lengths a b h =
    let before = earlier_from lengths a b h.later in
    record {
      before = before;
      others = λ t other e. elim (earlier_cases lengths t a other e.some before.some) [
        | inl first ↦ first
        | inr behind ↦ absurd (h.none_between t (earlier_to lengths a t behind) (earlier_to lengths t b e))
      ];
      kept = λ t e. earlier_through lengths t a b e before;
      irreflexive = not_itself lengths a;
    }

-- what comes before a code takes a whole number of its shares
multiple_sum : (n : ℕ) (f : ℕ → ℕ) (m : ℕ) → ((k : ℕ) → k < n → (q : ℕ) × (f k ≡ q * m)) → (q : ℕ) × (sum_below n f ≡ q * m)
multiple_sum zero f m each = (0, sum-zero f ∙ (let e : 0 ≡ 0 * m = omega arith in e))
multiple_sum (suc n) f m each =
    let before = multiple_sum n f m (λ k lt. each k (omega arith)) in
    let here = each n (omega arith) in
    (before.0 + here.0, sum-suc n f ∙ (λ i. before.1 i + here.1 i) ∙ (let e : before.0 * m + here.0 * m ≡ (before.0 + here.0) * m = omega arith in e))

shorter : (lengths : List ℕ) (t s : ℕ) → IsEarlier lengths t s → slice_index lengths t ≤ slice_index lengths s
shorter lengths t s h = elim h.order [ inl less ↦ omega (arith, less) | inr same ↦ (let e = same.0 in omega (arith, e)) ]

share_multiple : (lengths : List ℕ) (t s : ℕ) → slice_index lengths s ≤ 32 → IsEarlier lengths t s → (q : ℕ) × (share (slice_index lengths t) ≡ q * 2 ^ (32 - slice_index lengths s))
share_multiple lengths t s low h =
    let l = slice_index lengths t in
    let m = slice_index lengths s in
    let less = shorter lengths t s h in
    let sum : (m - l) + (32 - m) ≡ 32 - l = omega (arith, less, low) in
    (2 ^ (m - l), share-pos l h.some ∙ ap (λ k. 2 ^ k) (sym sum) ∙ pow-add 2 (m - l) (32 - m))

start_multiple : (lengths : List ℕ) (s : ℕ) → slice_index lengths s ≤ 32 → (q : ℕ) × (start_of lengths s ≡ q * 2 ^ (32 - slice_index lengths s))
start_multiple lengths s low =
    let all = multiple_sum 256 (before_of lengths s) (2 ^ (32 - slice_index lengths s)) (λ t lt. elim (cases_Bool (is_earlier lengths t s)) [
      | inl yes_ ↦
          let h = earlier_from lengths t s yes_ in
          let m = share_multiple lengths t s low h in
          (m.0, before-in lengths s t h ∙ m.1)
      | inr no_ ↦ (0, before-out lengths s t (λ h. false≢true (sym no_ ∙ earlier_to lengths t s h)) ∙ (let e : 0 ≡ 0 * 2 ^ (32 - slice_index lengths s) = omega arith in e))
    ]) in
    (all.0, start-is lengths s ∙ all.1)

number-is : (lengths : List ℕ) (s : ℕ) → code_number lengths s ≡ start_of lengths s / 2 ^ (32 - slice_index lengths s)
unfolding code_number
number-is lengths s = refl

start_by_number : (lengths : List ℕ) (s : ℕ) → slice_index lengths s ≤ 32 → start_of lengths s ≡ code_number lengths s * 2 ^ (32 - slice_index lengths s)
start_by_number lengths s low =
    let m = 32 - slice_index lengths s in
    let is = start_multiple lengths s low in
    let q = is.0 in
    let same : start_of lengths s ≡ q * 2 ^ m + 0 = is.1 ∙ (let e : q * 2 ^ m ≡ q * 2 ^ m + 0 = omega arith in e) in
    let number : code_number lengths s ≡ q = number-is lengths s ∙ ap (λ x. x / 2 ^ m) same ∙ shr_high q m 0 (pow_pos m) in
    is.1 ∙ ap (λ x. x * 2 ^ m) (sym number)

pub codes_count_up : CanonicalCodesCountUp
unfolding canonical_code
codes_count_up lengths are = record {
  bits = λ s lt. take-bits (slice_index lengths s) 32 (start_of lengths s) (are.low s lt) ∙ ap (bits_of (slice_index lengths s)) (sym (number-is lengths s));
  first = λ s none_.
      let start : start_of lengths s ≡ 0 = start-is lengths s ∙ sum-none 256 (before_of lengths s) (λ t lt. before-out lengths s t (λ h. none_ t (earlier_to lengths t s h))) in
      let same : start_of lengths s ≡ 0 * 2 ^ (32 - slice_index lengths s) + 0 = start ∙ (let e : 0 ≡ 0 * 2 ^ (32 - slice_index lengths s) + 0 = omega arith in e) in
      number-is lengths s ∙ ap (λ x. x / 2 ^ (32 - slice_index lengths s)) same ∙ shr_high 0 (32 - slice_index lengths s) 0 (pow_pos (32 - slice_index lengths s));
  next = λ a b a_lt b_lt h.
      let to = next_to lengths a b h in
      number-is lengths b
      ∙ value_next lengths a b (code_number lengths a) a_lt to (shorter lengths a b to.before) (are.low b b_lt) (start_by_number lengths a (are.low a a_lt));
}
