-- The canonical codes in the words of counting: the first is all zeros, each next one is the one before plus 1, with zeros appended.
use Rattle.std.proofs.Common.{◌≡◌, ◌≢◌, ℕ, ◌+◌, ◌-◌, ◌*◌, ◌/◌, ◌^◌, ◌<◌, ◌≤◌, nat_eq, cond, List, slice_index, refl, sym, ap, ◌∙◌, inl, inr, arith}
use Rattle.std.proofs.lemmas.Bool.{cases_Bool, cases_eq, false≢true, eq-eqb, ne_eqb}
use Rattle.std.proofs.lemmas.Nat.{pow-add, pow_pos, shr_high}
use Rattle.huff_codes.specs.Sums.{sum_below}
use Rattle.huff_codes.specs.Tree.{share}
use Rattle.huff_codes.specs.Codes.{is_earlier, start_of}
use Rattle.huff_codes.proofs.Kraft.{sum-same, sum-add, sum-one, share-pos}
use Rattle.huff_codes.proofs.Canonical.{IsEarlier, before_of, start-is, before-in, before-out, earlier_from, earlier_to}

-- b comes right behind a: what comes before b is a and what comes before a
pub record IsNextTo (lengths : List ℕ) (a b : ℕ) : Type 0 where
  pub before : IsEarlier lengths a b
  pub others : (t : ℕ) → t ≢ a → IsEarlier lengths t b → IsEarlier lengths t a
  pub kept : (t : ℕ) → IsEarlier lengths t a → IsEarlier lengths t b
  pub irreflexive : IsEarlier lengths a a → ⊥

own_only : List ℕ → ℕ → ℕ → ℕ
own_only lengths a t = cond (nat_eq t a) (share (slice_index lengths t)) 0

own-same : (lengths : List ℕ) (a : ℕ) → own_only lengths a a ≡ share (slice_index lengths a)
unfolding own_only
own-same lengths a = rw (eq-eqb a a refl) refl

own-none : (lengths : List ℕ) (a t : ℕ) → (t ≡ a → ⊥) → own_only lengths a t ≡ 0
unfolding own_only
own-none lengths a t ne = rw (ne_eqb t a ne) refl

-- the next code begins where the one before ends
pub start_next : (lengths : List ℕ) (a b : ℕ) → a < 256 → IsNextTo lengths a b → start_of lengths b ≡ start_of lengths a + share (slice_index lengths a)
start_next lengths a b lt h =
    let each : (t : ℕ) → t < 256 → before_of lengths b t ≡ before_of lengths a t + own_only lengths a t =
    λ (t : ℕ) (below : t < 256). elim (cases_eq t a) [
      | inl same ↦ rw same (omega (arith, before-in lengths b a h.before, before-out lengths a a h.irreflexive, own-same lengths a))
      | inr other ↦ elim (cases_Bool (is_earlier lengths t a)) [
        | inl yes_ ↦
            let e = earlier_from lengths t a yes_ in
            omega (arith, before-in lengths b t (h.kept t e), before-in lengths a t e, own-none lengths a t other)
        | inr no_ ↦
            let out : IsEarlier lengths t a → ⊥ = λ e. false≢true (sym no_ ∙ earlier_to lengths t a e) in
            omega (arith, before-out lengths b t (λ e. out (h.others t other e)), before-out lengths a t out, own-none lengths a t other)
      ]
    ] in
    let sum : sum_below 256 (before_of lengths b) ≡ sum_below 256 (λ t. before_of lengths a t + own_only lengths a t) =
    sum-same 256 (before_of lengths b) (λ t. before_of lengths a t + own_only lengths a t) each in
    let own : sum_below 256 (own_only lengths a) ≡ share (slice_index lengths a) = sum-one 256 a (own_only lengths a) lt (λ k below ne. own-none lengths a k ne) ∙ own-same lengths a in
    omega (arith, sum, start-is lengths a, start-is lengths b, sum-add 256 (before_of lengths a) (own_only lengths a), own)

-- as numbers: with v the value of the code before, of length l, the next value, of length m, is (v + 1) with m - l zeros appended
pub value_next : (lengths : List ℕ) (a b v : ℕ) → a < 256 → IsNextTo lengths a b → slice_index lengths a ≤ slice_index lengths b → slice_index lengths b ≤ 32 → start_of lengths a ≡ v * 2 ^ (32 - slice_index lengths a)
    → start_of lengths b / 2 ^ (32 - slice_index lengths b) ≡ (v + 1) * 2 ^ (slice_index lengths b - slice_index lengths a)
value_next lengths a b v lt h longer low is =
    let l = slice_index lengths a in
    let m = slice_index lengths b in
    let sum : (m - l) + (32 - m) ≡ 32 - l = omega arith in
    let pow : 2 ^ (32 - l) ≡ 2 ^ (m - l) * 2 ^ (32 - m) = ap (λ (k : ℕ). 2 ^ k) (sym sum) ∙ pow-add 2 (m - l) (32 - m) in
    let whole : start_of lengths b ≡ (v + 1) * 2 ^ (32 - l) = omega (arith, start_next lengths a b lt h, is, share-pos l h.before.some) in
    let turned : start_of lengths b ≡ ((v + 1) * 2 ^ (m - l)) * 2 ^ (32 - m) + 0 = whole ∙ ap (λ (x : ℕ). (v + 1) * x) pow ∙ omega arith in
    ap (λ (x : ℕ). x / 2 ^ (32 - m)) turned ∙ shr_high ((v + 1) * 2 ^ (m - l)) (32 - m) 0 (pow_pos (32 - m))
