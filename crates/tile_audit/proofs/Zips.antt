-- Lists whose elements go together, place by place.
use Rattle.std.proofs.Common.{◌≡◌, ℕ, suc, ◌+◌, ◌<◌, Bool, List, [], ◌∷◌, ◌++◌, All, AllPairs, length, get_or, take, drop, refl, sym, ap, subst, ◌∙◌, arith}
use Rattle.std.specs.Prelude.{count_by, cond}
use Rattle.std.specs.List.{AllZip}
use Rattle.std.proofs.lemmas.List.{take-append-drop, take_more}
use Rattle.std.proofs.lemmas.List.Elements.{All-cons}
use Rattle.std.proofs.lemmas.List.Kept.{AllPairs-cons}
use Rattle.std.proofs.lemmas.List.Sums.{sum_by-cons}

pub zip_join : {A B : Type 0} (R : A → B → Type 0) (xs zs : List A) (ys ws : List B) → AllZip R xs ys → AllZip R zs ws → AllZip R (xs ++ zs) (ys ++ ws)
zip_join R [] zs [] ws one two = two
zip_join R [] zs (y ∷ ys) ws one two = absurd one
zip_join R (x ∷ xs) zs [] ws one two = absurd one
zip_join R (x ∷ xs) zs (y ∷ ys) ws one two = (one.0, zip_join R xs zs ys ws one.1 two)

-- one pair more
pub zip_push : {A B : Type 0} (R : A → B → Type 0) (xs : List A) (x : A) (ys : List B) (y : B) → AllZip R xs ys → R x y → AllZip R (xs ++ x ∷ []) (ys ++ y ∷ [])
zip_push R xs x ys y all one = zip_join R xs (x ∷ []) ys (y ∷ []) all (one, tt)

-- the element at a place, and what goes with it
pub zip_more : {A B : Type 0} (R : A → B → Type 0) (xs : List A) (i : ℕ) (x : A) (ys out : List B) → i < length xs → x ≡ get_or xs i x → AllZip R (take i xs) ys
    → (y : B) × (R x y × (out ≡ ys ++ y ∷ [])) → AllZip R (take (i + 1) xs) out
zip_more R xs i x ys out below is all (y, (r, pushed)) =
    subst (λ l. AllZip R l out) (sym (take_more xs i x below))
    (subst (AllZip R (take i xs ++ get_or xs i x ∷ [])) (sym pushed) (zip_push R (take i xs) (get_or xs i x) ys y all (subst (λ a. R a y) is r)))

-- the two parts of a list
pub zip_halves : {A B : Type 0} (R : A → B → Type 0) (xs front back : List A) (n : ℕ) (ys ws : List B) → front ≡ take n xs → back ≡ drop n xs → AllZip R front ys → AllZip R back ws → AllZip R xs (ys ++ ws)
zip_halves R xs front back n ys ws f b one two =
    let joined : front ++ back ≡ xs = (λ k. f k ++ b k) ∙ take-append-drop n xs in
    subst (λ l. AllZip R l (ys ++ ws)) joined (zip_join R front back ys ws one two)

-- what goes with what goes with the elements
pub zip_through : {A B C : Type 0} (R : A → B → Type 0) (S : B → C → Type 0) (T : A → C → Type 0) → ((a : A) (b : B) (c : C) → R a b → S b c → T a c)
    → (xs : List A) (ys : List B) (zs : List C) → AllZip R xs ys → AllZip S ys zs → AllZip T xs zs
zip_through R S T go [] [] [] r s = tt
zip_through R S T go [] [] (z ∷ zs) r s = absurd s
zip_through R S T go [] (y ∷ ys) zs r s = absurd r
zip_through R S T go (x ∷ xs) [] zs r s = absurd r
zip_through R S T go (x ∷ xs) (y ∷ ys) [] r s = absurd s
zip_through R S T go (x ∷ xs) (y ∷ ys) (z ∷ zs) r s = (go x y z r.0 s.0, zip_through R S T go xs ys zs r.1 s.1)

pub zip_length : {A B : Type 0} (R : A → B → Type 0) (xs : List A) (ys : List B) → AllZip R xs ys → length xs ≡ length ys
zip_length R [] [] all = refl
zip_length R [] (y ∷ ys) all = absurd all
zip_length R (x ∷ xs) [] all = absurd all
zip_length R (x ∷ xs) (y ∷ ys) all = ap (λ n. suc n) (zip_length R xs ys all.1)

rest_all : {A : Type 0} (P : A → Type 0) (x : A) (xs : List A) → All P (x ∷ xs) → All P xs
rest_all P x xs all = λ k d less. all (suc k) d (omega (arith, less))

rest_pairs : {A : Type 0} (P : A → A → Type 0) (x : A) (xs : List A) → AllPairs P (x ∷ xs) → AllPairs P xs
rest_pairs P x xs all = λ i j d less within. all (suc i) (suc j) d (omega (arith, less)) (omega (arith, within))

first_pairs : {A : Type 0} (P : A → A → Type 0) (x : A) (xs : List A) → AllPairs P (x ∷ xs) → All (P x) xs
first_pairs P x xs all = λ k d less. all 0 (suc k) d (omega arith) (omega (arith, less))

none_all : {A : Type 0} (P : A → Type 0) → All P []
none_all P = λ k d less. absurd (omega (arith, less))

none_pairs : {A : Type 0} (P : A → A → Type 0) → AllPairs P []
none_pairs P = λ i j d less within. absurd (omega (arith, within))

-- what holds of the elements holds of what goes with them
pub zip_all : {A B : Type 0} (R : A → B → Type 0) (P : A → Type 0) (Q : B → Type 0) → ((a : A) (b : B) → R a b → P a → Q b) → (xs : List A) (ys : List B) → AllZip R xs ys → All P xs → All Q ys
zip_all R P Q go [] [] zip all = none_all Q
zip_all R P Q go [] (y ∷ ys) zip all = absurd zip
zip_all R P Q go (x ∷ xs) [] zip all = absurd zip
zip_all R P Q go (x ∷ xs) (y ∷ ys) zip all =
    All-cons Q y ys (go x y zip.0 (all 0 x (omega arith))) (zip_all R P Q go xs ys zip.1 (rest_all P x xs all))

pub zip_pairs : {A B : Type 0} (R : A → B → Type 0) (P : A → A → Type 0) (Q : B → B → Type 0) → ((a c : A) (b d : B) → R a b → R c d → P a c → Q b d)
    → (xs : List A) (ys : List B) → AllZip R xs ys → AllPairs P xs → AllPairs Q ys
zip_pairs R P Q go [] [] zip all = none_pairs Q
zip_pairs R P Q go [] (y ∷ ys) zip all = absurd zip
zip_pairs R P Q go (x ∷ xs) [] zip all = absurd zip
zip_pairs R P Q go (x ∷ xs) (y ∷ ys) zip all =
    AllPairs-cons Q y ys (zip_all R (P x) (Q y) (λ a b r p. go x a y b zip.0 r p) xs ys zip.1 (first_pairs P x xs all)) (zip_pairs R P Q go xs ys zip.1 (rest_pairs P x xs all))

pub zip_count : {A B : Type 0} (R : A → B → Type 0) (p : A → Bool) (q : B → Bool) → ((a : A) (b : B) → R a b → p a ≡ q b) → (xs : List A) (ys : List B) → AllZip R xs ys → count_by p xs ≡ count_by q ys
zip_count R p q go [] [] zip = refl
zip_count R p q go [] (y ∷ ys) zip = absurd zip
zip_count R p q go (x ∷ xs) [] zip = absurd zip
zip_count R p q go (x ∷ xs) (y ∷ ys) zip =
    let rest = zip_count R p q go xs ys zip.1 in
    sum_by-cons (λ a. cond (p a) 1 0) x xs ∙ (λ i. cond (go x y zip.0 i) 1 0 + rest i) ∙ sym (sum_by-cons (λ b. cond (q b) 1 0) y ys)
