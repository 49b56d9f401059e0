-- Names that were found of some values: they stay theirs when more values are named, and those of two lists are those of both, one behind the other.
use Rattle.std.proofs.Common.{◌≡◌, ℕ, ◌+◌, ◌-◌, ◌<◌, ◌≤◌, ◌⊎◌, inl, inr, List, ◌++◌, length, get_or, sym, ap, ◌∙◌, subst, arith, length-append}
use Rattle.std.proofs.lemmas.Bool.{cases_lt}
use Rattle.std.proofs.lemmas.List.{get_or-append-add, get_or_append_left}
use Rattle.lut_stuff.specs.declared.naming.Names.{Names}
use Rattle.lut_stuff.specs.Names.{IsNamed, KeepsNames}
use Rattle.micro_block.specs.Named.{AreNamed}

pub still_named : (old new : Names) (values found : List ℕ) → KeepsNames old new → AreNamed old values found → AreNamed new values found
still_named old new values found kept are = λ i low. record {
  there = (let here = (are i low).there in let more = kept.more in omega (arith, here, more));
  value_is = kept.kept (get_or found i 0) (are i low).there ∙ (are i low).value_is;
}

pub named_joined : (n : Names) (vs ws xs ys : List ℕ) → length xs ≡ length vs → AreNamed n vs xs → AreNamed n ws ys → AreNamed n (vs ++ ws) (xs ++ ys)
named_joined n vs ws xs ys long first second = λ i low. by i low (cases_lt i (length vs))
  where
    same : (v w a b : ℕ) → v ≡ w → a ≡ b → IsNamed n w b → IsNamed n v a
    same v w a b e f is = subst (λ x. IsNamed n x a) (sym e) (subst (λ y. IsNamed n w y) (sym f) is)

    behind : (j : ℕ) → j < length ws → IsNamed n (get_or (vs ++ ws) (length vs + j) 0) (get_or (xs ++ ys) (length vs + j) 0)
    behind j low = same _ _ _ _ (get_or-append-add vs ws j 0) (ap (λ (k : ℕ). get_or (xs ++ ys) (k + j) 0) (sym long) ∙ get_or-append-add xs ys j 0) (second j low)

    by : (i : ℕ) → i < length (vs ++ ws) → (i < length vs) ⊎ (length vs ≤ i) → IsNamed n (get_or (vs ++ ws) i 0) (get_or (xs ++ ys) i 0)
    by i low (inl before) = same _ _ _ _ (get_or_append_left vs ws 0 i before) (get_or_append_left xs ys 0 i (omega (arith, before, long))) (first i before)
    by i low (inr after) =
        let sizes = length-append vs ws in
        subst (λ k. IsNamed n (get_or (vs ++ ws) k 0) (get_or (xs ++ ys) k 0)) (let e : length vs + (i - length vs) ≡ i = omega (arith, after) in e) (behind (i - length vs) (omega (arith, low, after, sizes)))
