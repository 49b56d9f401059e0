-- How many symbols are used, and what holds of their lengths.
use Rattle.std.proofs.Common.{◌≡◌, ◌≢◌, ℕ, zero, suc, ◌<◌, ◌≤◌, nat_eq, Bool, cond, List, length, slice_index, refl, sym, ap, ◌∙◌, subst, inl, inr, arith}
use Rattle.std.specs.Prelude.{All}
use Rattle.std.proofs.lemmas.Bool.{cases_Bool, eqb-true, eqb-false, eq-eqb, ne_eqb}
use Rattle.huff_codes.specs.Sums.{sum_below}
use Rattle.huff_codes.specs.Tree.{leaf, with_tree, used_below, used_count, lengths_of}
use Rattle.huff_codes.specs.Codes.{AreLengths}
use Rattle.huff_codes.proofs.Kraft.{sum-zero, sum-suc}
use Rattle.huff_codes.proofs.Forest.{used-zero, used-suc, length_with_tree, length-lengths_of, kraft_of_lengths}

pub use_at : List ℕ → ℕ → ℕ
use_at counts s = cond (nat_eq (slice_index counts s) 0) 0 1

pub used-is : (counts : List ℕ) → used_count counts ≡ sum_below 256 (use_at counts)
unfolding used_count use_at
used-is counts = refl

pub use-none : (counts : List ℕ) (s : ℕ) → slice_index counts s ≡ 0 → use_at counts s ≡ 0
unfolding use_at
use-none counts s e = rw (eq-eqb (slice_index counts s) 0 e) refl

pub use-some : (counts : List ℕ) (s : ℕ) → slice_index counts s ≢ 0 → use_at counts s ≡ 1
unfolding use_at
use-some counts s ne = rw (ne_eqb (slice_index counts s) 0 ne) refl

pub length-used : (counts : List ℕ) (n : ℕ) → length (used_below counts n) ≡ sum_below n (use_at counts)
length-used counts zero = ap length (used-zero counts) ∙ sym (sum-zero (use_at counts))
length-used counts (suc n) = elim (cases_Bool (nat_eq (slice_index counts n) 0)) [
  | inl none ↦
      let same : used_below counts (suc n) ≡ used_below counts n = used-suc counts n ∙ ap (λ (b : Bool). cond b (used_below counts n) (with_tree counts (leaf n) (used_below counts n))) none in
      omega (arith, ap length same, length-used counts n, sum-suc n (use_at counts), use-none counts n (eqb-true (slice_index counts n) 0 none))
  | inr some ↦
      let same : used_below counts (suc n) ≡ with_tree counts (leaf n) (used_below counts n) = used-suc counts n ∙ ap (λ (b : Bool). cond b (used_below counts n) (with_tree counts (leaf n) (used_below counts n))) some in
      omega (arith, ap length same, length_with_tree counts (leaf n) (used_below counts n), length-used counts n, sum-suc n (use_at counts), use-some counts n (eqb-false (slice_index counts n) 0 some))
]

-- lengths of two used symbols or more, none above 32, are lengths as they have to be
pub are_lengths : (counts lengths : List ℕ) → lengths ≡ lengths_of counts → 2 ≤ used_count counts → All (λ l. l ≤ 32) lengths → AreLengths lengths
are_lengths counts lengths is two low =
    let all : All (λ l. l ≤ 32) (lengths_of counts) = subst (All (λ l. l ≤ 32)) is low in
    let each : (s : ℕ) → s < 256 → slice_index (lengths_of counts) s ≤ 32 = λ (s : ℕ) (lt : s < 256). all s 0 (omega (arith, length-lengths_of counts)) in
    subst AreLengths (sym is) (record {
      size = length-lengths_of counts;
      low = each;
      exact = kraft_of_lengths counts (omega (arith, two, used-is counts, length-used counts 256)) each;
    })
