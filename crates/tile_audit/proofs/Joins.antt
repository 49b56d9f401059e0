-- Lists of numbered things, one behind the other.
use Rattle.std.proofs.Common.{◌≡◌, ℕ, suc, ◌+◌, ◌<◌, ◌≤◌, Bool, List, [], ◌∷◌, ◌++◌, All, AllPairs, length, get_or, take, sym, ap, ◌∙◌, arith}
use Rattle.std.specs.Prelude.{count_by, cond}
use Rattle.std.proofs.lemmas.List.{take_more}
use Rattle.std.proofs.lemmas.List.Elements.{All-append}
use Rattle.std.proofs.lemmas.List.Kept.{AllPairs-cons}
use Rattle.std.proofs.lemmas.List.Sums.{sum_by-append, sum_by_push}

pub count_join : {A : Type 0} (p : A → Bool) (xs ys : List A) → count_by p (xs ++ ys) ≡ count_by p xs + count_by p ys
count_join p xs ys = sum_by-append (λ a. cond (p a) 1 0) xs ys

pub count_push : {A : Type 0} (p : A → Bool) (xs : List A) (x : A) → count_by p (xs ++ x ∷ []) ≡ count_by p xs + cond (p x) 1 0
count_push p xs x = sum_by_push (λ a. cond (p a) 1 0) xs x

-- numbers rise, those of the first list are below a number, and those of the second are not
pub rising_join : {A : Type 0} (f : A → ℕ) (n : ℕ) (xs ys : List A) → AllPairs (λ s t. f s < f t) xs → AllPairs (λ s t. f s < f t) ys → All (λ s. f s < n) xs → All (λ t. n ≤ f t) ys
    → AllPairs (λ s t. f s < f t) (xs ++ ys)
rising_join f n [] ys one two low high = two
rising_join f n (x ∷ xs) ys one two low high =
    let first : f x < n = low 0 x (omega arith) in
    AllPairs-cons (λ s t. f s < f t) x (xs ++ ys)
    (All-append (λ t. f x < f t) xs ys (λ k d less. one 0 (suc k) d (omega arith) (omega (arith, less))) (λ k d less. let far = high k d less in omega (arith, first, far)))
    (rising_join f n xs ys (λ i j d less within. one (suc i) (suc j) d (omega (arith, less)) (omega (arith, within))) two (λ k d less. low (suc k) d (omega (arith, less))) high)

-- one element more of those in front
pub take_next : {A : Type 0} (xs : List A) (i : ℕ) (x : A) → i < length xs → x ≡ get_or xs i x → take (i + 1) xs ≡ take i xs ++ x ∷ []
take_next xs i x below is = take_more xs i x below ∙ ap (λ y. take i xs ++ y ∷ []) (sym is)
