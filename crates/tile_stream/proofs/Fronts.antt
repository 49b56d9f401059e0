-- Bytes in front of a part.
use Rattle.std.proofs.Common.{◌≡◌, ℕ, ◌<◌, ◌≤◌, List, [], ◌++◌, length, take, refl, sym, ap, ◌∙◌, arith, ◌⊎◌, inl, inr}
use Rattle.std.proofs.lemmas.Bool.{cases_lt}
use Rattle.std.proofs.lemmas.List.{append-nil, take_all, take_at}
use Rattle.first_fault.specs.Faults.{wrong}
use Rattle.first_fault.specs.Parts.{HasFault}

-- two fronts of one length are the same
pub split_heads : (a b s t : List ℕ) (n : ℕ) → length a ≡ n → length b ≡ n → a ++ s ≡ b ++ t → a ≡ b
split_heads a b s t n la lb e = sym (take_at a s n la) ∙ ap (take n) e ∙ take_at b t n lb

-- of n bytes, or of fewer with which the input ends, the first n are all
pub head_of_all : (n : ℕ) (bytes rest : List ℕ) → length bytes ≤ n → (length bytes < n → rest ≡ []) → take n (bytes ++ rest) ≡ bytes
head_of_all n bytes rest few end = elim (cases_lt (length bytes) n) [
  | inl less ↦ ap (take n) (ap (λ (xs : List ℕ). bytes ++ xs) (end less) ∙ append-nil bytes) ∙ take_all n bytes few
  | inr all ↦ take_at bytes rest n (let e : length bytes ≡ n = omega arith in e)
]

pub at_most : (m n : ℕ) → (m ≤ n) ⊎ (¬ (m ≤ n))
at_most m n = by (cases_lt n m)
  where
    by : (n < m) ⊎ (m ≤ n) → (m ≤ n) ⊎ (¬ (m ≤ n))
    by (inl more) = inr (λ h. let no : ⊥ = omega arith in no)
    by (inr less) = inl less

pub the_fault : {R : Type 0} (why : R) (at : ℕ) → HasFault (wrong why at)
the_fault why at = record { place = at; reason = why; fault = (refl, refl) }
