-- The words that are gathered, where the texts of the command line are told.
use Rattle.std.proofs.Common.{◌≡◌, ℕ, ◌+◌, List, [], ◌∷◌, ◌++◌, drop, suc, Option, Some, None, IfSome, subst, sym, ap, ◌∙◌, append_assoc, arith, length, inl, inr}
use Rattle.std.specs.List.{slice_get}
use Rattle.std.proofs.Math.Seq.{drop-cons}
use Rattle.std.proofs.lemmas.List.{append-nil, drop_all}
use Rattle.std.proofs.lemmas.Option.{get_or_from_slice_get, slice_get-get_or, slice_get_within}
use Rattle.std.proofs.lemmas.Bool.{cases_lt}

-- the words so far and the texts that are left are all the words
abbrev pub AreGathered : ℕ → Option (List (List ℕ)) → List (List ℕ) → ℕ → Type 0
AreGathered first told words n = IfSome told (λ texts. words ++ drop n texts ≡ drop first texts)

pub one_more : (first : ℕ) (told : Option (List (List ℕ))) (words : List (List ℕ)) (n : ℕ) (found : Option (List ℕ)) (word : List ℕ) → found ≡ Some word → AreGathered first told words n
    → IfSome told (λ texts. found ≡ slice_get texts n) → AreGathered first told (words ++ word ∷ []) (n + 1)
one_more first None words n found word some before here = tt
one_more first (Some texts) words n found word some before here =
    let there : slice_get texts n ≡ Some word = sym here ∙ some in
    let is : drop n texts ≡ word ∷ drop (n + 1) texts =
    drop-cons texts n word (slice_get_within texts n word there)
    ∙ ap (λ w. w ∷ drop (suc n) texts) (get_or_from_slice_get texts n word word there)
    ∙ ap (λ k. word ∷ drop k texts) (let e : suc n ≡ n + 1 = omega arith in e) in
    append_assoc words (word ∷ []) (drop (n + 1) texts) ∙ ap (λ rest. words ++ rest) (sym is) ∙ before

no_more : (texts : List (List ℕ)) (n : ℕ) → slice_get texts n ≡ None → drop n texts ≡ []
no_more texts n none = elim (cases_lt n (length texts)) [
  | inl lt ↦ absurd (let some = slice_get-get_or texts n [] lt in cc)
  | inr le ↦ drop_all n texts le
]

pub all_gathered : (first : ℕ) (told : Option (List (List ℕ))) (words : List (List ℕ)) (n : ℕ) (found : Option (List ℕ)) → found ≡ None → AreGathered first told words n
    → IfSome told (λ texts. found ≡ slice_get texts n) → IfSome told (λ texts. words ≡ drop first texts)
all_gathered first None words n found none before here = tt
all_gathered first (Some texts) words n found none before here =
    sym (append-nil words) ∙ ap (λ rest. words ++ rest) (sym (no_more texts n (sym here ∙ none))) ∙ before

-- the words of told texts
pub told_words : (first : ℕ) (told : Option (List (List ℕ))) (texts words : List (List ℕ)) → told ≡ Some texts
    → IfSome told (λ texts. words ≡ drop first texts) → words ≡ drop first texts
told_words first told texts words is all =
    let here : IfSome (Some texts) (λ texts. words ≡ drop first texts) =
    subst (λ (x : Option (List (List ℕ))). IfSome x (λ texts. words ≡ drop first texts)) is all in here
