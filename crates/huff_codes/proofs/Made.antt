-- The canonical codes, as they are held.
use Rattle.std.proofs.Common.{◌≡◌, ℕ, zero, suc, ◌+◌, ◌-◌, ◌*◌, ◌%◌, ◌^◌, ◌<◌, ◌≤◌, Bool, List, [], length, get_or, slice_index, refl, sym, ap, ◌∙◌, subst, inl, inr, arith}
use Rattle.std.specs.Prelude.{HoldsAt}
use Rattle.std.proofs.lemmas.Bool.{cases_lt, cases_Bool, false≢true}
use Rattle.std.proofs.lemmas.Nat.{pow-add, pow_pos, mod_low}
use Rattle.std.proofs.Math.Nat.{add-mul}
use Rattle.std.proofs.lemmas.List.{ext_get_or, length-take-le, get_or_past}
use Rattle.std.proofs.lemmas.List.FromFn.{length-map-range_with_len, get_or-map-range_with_len}
use Rattle.huff_codes.specs.Sums.{sum_below}
use Rattle.huff_codes.specs.Tree.{share, shares}
use Rattle.huff_codes.specs.Bits.{bits_of, BeginsWith}
use Rattle.huff_codes.specs.Codes.{AreCodes, AreLengths, HasCode, code_at, canonical_code, canonical_codes, is_earlier, start_of}
use Rattle.huff_codes.specs.inside.Spans.{IsLaid, no_code}
use Rattle.huff_codes.specs.inside.Stored.{AreHeld, code_bits, codes_held}
use Rattle.huff_codes.specs.inside.Places.{IsCanonical}
use Rattle.huff_codes.specs.declared.codes.Code.{Code}
use Rattle.huff_codes.proofs.Kraft.{sum-zero, sum-suc, share-zero, share-pos}
use Rattle.huff_codes.proofs.BitLists.{length-bits}
use Rattle.huff_codes.proofs.Canonical.{canonical_free, before_of, before-in, before-out, start-is, earlier_from, earlier_to}
use Rattle.huff_codes.proofs.Sides.{start-lt}
use Rattle.huff_codes.proofs.Held.{held-at, length-held}

-- a sum above 0 has a term above 0
pub some_term : (n : ℕ) (f : ℕ → ℕ) → 0 < sum_below n f → (s : ℕ) × ((s < n) × (0 < f s))
some_term zero f h = absurd (omega (arith, sum-zero f))
some_term (suc n) f h = elim (cases_lt 0 (f n)) [
  | inl some ↦ (n, (omega arith, some))
  | inr none ↦ let r = some_term n f (omega (arith, sum-suc n f)) in (r.0, (omega (arith, r.1.0), r.1.1))
]

shares-are : (lengths : List ℕ) → shares lengths ≡ sum_below 256 (λ s. share (slice_index lengths s))
unfolding shares
shares-are lengths = refl

-- some symbol has a length
pub some_length : (lengths : List ℕ) → AreLengths lengths → (s : ℕ) × ((s < 256) × (0 < slice_index lengths s))
some_length lengths h =
    let r = some_term 256 (λ s. share (slice_index lengths s)) (omega (arith, h.exact, shares-are lengths)) in (
      r.0,
      (
        r.1.0,
        elim (cases_lt 0 (slice_index lengths r.0)) [
          | inl some ↦ some
          | inr none ↦ let z : slice_index lengths r.0 ≡ 0 = omega arith in absurd (omega (arith, r.1.1, ap share z, share-zero))
        ],
      ),
    )

pub canonical-at : (lengths : List ℕ) (s : ℕ) → s < 256 → code_at (canonical_codes lengths) s ≡ canonical_code lengths s
unfolding canonical_codes
canonical-at lengths s h = get_or-map-range_with_len (canonical_code lengths) 0 256 s s [] h (omega arith)

pub length-canonical_codes : (lengths : List ℕ) → length (canonical_codes lengths) ≡ 256
unfolding canonical_codes
length-canonical_codes lengths = length-map-range_with_len (canonical_code lengths) 0 256

pub length-canonical_code : (lengths : List ℕ) (s : ℕ) → slice_index lengths s ≤ 32 → length (canonical_code lengths s) ≡ slice_index lengths s
unfolding canonical_code
length-canonical_code lengths s h = length-take-le (slice_index lengths s) (bits_of 32 (start_of lengths s)) (omega (arith, length-bits 32 (start_of lengths s)))

pub length-canonical-at : (lengths : List ℕ) (s : ℕ) → AreLengths lengths → s < 256 → length (code_at (canonical_codes lengths) s) ≡ slice_index lengths s
length-canonical-at lengths s h lt = ap length (canonical-at lengths s lt) ∙ length-canonical_code lengths s (h.low s lt)

coded_below : (lengths : List ℕ) (s : ℕ) → HasCode (canonical_codes lengths) s → s < 256
coded_below lengths s h = elim (cases_lt s 256) [
  | inl lt ↦ lt
  | inr ge ↦
      let none : code_at (canonical_codes lengths) s ≡ [] = get_or_past (canonical_codes lengths) s [] (omega (arith, length-canonical_codes lengths)) in
      absurd (omega (arith, h, ap length none))
]

-- the canonical codes are codes
pub canonical_are_codes : (lengths : List ℕ) → AreLengths lengths → AreCodes (canonical_codes lengths)
canonical_are_codes lengths h =
    let some = some_length lengths h in record {
      size = length-canonical_codes lengths;
      short = λ s. elim (cases_lt s 256) [
        | inl lt ↦ omega (arith, length-canonical-at lengths s h lt, h.low s lt)
        | inr ge ↦
            let none : code_at (canonical_codes lengths) s ≡ [] = get_or_past (canonical_codes lengths) s [] (omega (arith, length-canonical_codes lengths)) in
            omega (arith, ap length none)
      ];
      some = (some.0, omega (arith, some.1.1, length-canonical-at lengths some.0 h some.1.0));
      free = λ a b p q begins.
          let a_lt = coded_below lengths a p in
          let b_lt = coded_below lengths b q in
          canonical_free lengths a b h a_lt b_lt (omega (arith, p, length-canonical-at lengths a h a_lt)) (omega (arith, q, length-canonical-at lengths b h b_lt))
          (subst (λ (bs : List Bool). BeginsWith bs (canonical_code lengths a)) (canonical-at lengths b b_lt) (subst (BeginsWith (code_at (canonical_codes lengths) b)) (canonical-at lengths a a_lt) begins));
    }

made-bits : (lengths : List ℕ) (t : ℕ) (c : Code) → IsCanonical lengths t c → code_bits c ≡ canonical_code lengths t
unfolding code_bits canonical_code
made-bits lengths t c e = ap code_bits e

pub made_codes : (lengths : List ℕ) (cs : List Code) → length cs ≡ 256 → ((t : ℕ) → t < 256 → HoldsAt (IsCanonical lengths t) cs t) → codes_held cs ≡ canonical_codes lengths
made_codes lengths cs size each =
    ext_get_or [] (codes_held cs) (canonical_codes lengths) (omega (arith, length-held cs, length-canonical_codes lengths))
    (λ i below.
    let lt : i < 256 = omega (arith, length-held cs) in
    held-at cs i no_code (omega arith) ∙ made-bits lengths i (get_or cs i no_code) (each i lt no_code) ∙ sym (canonical-at lengths i lt))

-- a sum of multiples is one
sum_times : (n m : ℕ) (f : ℕ → ℕ) → ((k : ℕ) → k < n → (q : ℕ) × (f k ≡ q * m)) → (q : ℕ) × (sum_below n f ≡ q * m)
sum_times zero m f h = (0, let none : sum_below 0 f ≡ 0 * m = omega (arith, sum-zero f) in none)
sum_times (suc n) m f h =
    let before = sum_times n m f (λ k lt. h k (omega arith)) in
    let last = h n (omega arith) in
    (before.0 + last.0, omega (arith, sum-suc n f, before.1, last.1, add-mul before.0 last.0 m))

-- a canonical code begins at a multiple of its share
start_aligned : (lengths : List ℕ) (s : ℕ) → AreLengths lengths → s < 256 → 0 < slice_index lengths s → start_of lengths s % 2 ^ (32 - slice_index lengths s) ≡ 0
start_aligned lengths s h lt some =
    let ls = slice_index lengths s in
    let m = 2 ^ (32 - ls) in
    let low : ls ≤ 32 = h.low s lt in
    let each : (t : ℕ) → t < 256 → (q : ℕ) × (before_of lengths s t ≡ q * m) = λ (t : ℕ) (below : t < 256). elim (cases_Bool (is_earlier lengths t s)) [
      | inl yes_ ↦
          let e = earlier_from lengths t s yes_ in
          let lt_ = slice_index lengths t in
          let order : lt_ ≤ ls = elim e.order [ inl less ↦ omega arith | inr same ↦ omega (arith, same.0) ] in
          let sum : 32 - lt_ ≡ (ls - lt_) + (32 - ls) = omega arith in
          (2 ^ (ls - lt_), before-in lengths s t e ∙ share-pos lt_ e.some ∙ ap (λ (k : ℕ). 2 ^ k) sum ∙ pow-add 2 (ls - lt_) (32 - ls))
      | inr no_ ↦
          let out : before_of lengths s t ≡ 0 = before-out lengths s t (λ e. false≢true (sym no_ ∙ earlier_to lengths t s e)) in
          (0, let none : before_of lengths s t ≡ 0 * m = omega (arith, out) in none)
    ] in
    let all = sum_times 256 m (before_of lengths s) each in
    let is : start_of lengths s ≡ all.0 * m + 0 = omega (arith, start-is lengths s, all.1) in
    ap (λ (x : ℕ). x % m) is ∙ mod_low all.0 (32 - ls) 0 (pow_pos (32 - ls))

-- a canonical code lies in a word as it has to
canonical_laid : (lengths : List ℕ) (s : ℕ) → AreLengths lengths → s < 256 → IsLaid (record { bits = start_of lengths s; length = slice_index lengths s })
canonical_laid lengths s h lt = record {
  low = h.low s lt;
  fits = start-lt lengths s h lt;
  aligned = start_aligned lengths s h lt;
}

pub made_held : (lengths : List ℕ) (cs : List Code) → AreLengths lengths → length cs ≡ 256 → ((t : ℕ) → t < 256 → HoldsAt (IsCanonical lengths t) cs t) → AreHeld cs
made_held lengths cs h size each = record {
  laid = λ k d below.
      let lt : k < 256 = omega arith in
      subst IsLaid (sym (each k lt d)) (canonical_laid lengths k h lt);
  codes = subst AreCodes (sym (made_codes lengths cs size each)) (canonical_are_codes lengths h);
}
