-- Lists whose elements go together, place by place.
use Rattle.std.proofs.Common.{◌≡◌, ℕ, suc, ◌+◌, ◌<◌, List, [], ◌∷◌, ◌++◌, length, get_or, take, drop, refl, sym, ap, subst, ◌∙◌}
use Rattle.std.specs.List.{AllZip}
use Rattle.std.proofs.lemmas.List.{take-append-drop, take_more}

pub zip_join : {A B : Type 0} (R : A → B → Type 0) (xs zs : List A) (ys ws : List B) → AllZip R xs ys → AllZip R zs ws → AllZip R (xs ++ zs) (ys ++ ws)
zip_join R [] zs [] ws one two = two
zip_join R [] zs (y ∷ ys) ws one two = absurd one
zip_join R (x ∷ xs) zs [] ws one two = absurd one
zip_join R (x ∷ xs) zs (y ∷ ys) ws one two = (one.0, zip_join R xs zs ys ws one.1 two)

-- the element at a place, and what goes with it
pub zip_more : {A B : Type 0} (R : A → B → Type 0) (xs : List A) (i : ℕ) (x : A) (ys out : List B) → i < length xs → x ≡ get_or xs i x → AllZip R (take i xs) ys
    → (y : B) × (R x y × (out ≡ ys ++ y ∷ [])) → AllZip R (take (i + 1) xs) out
zip_more R xs i x ys out below is all (y, (r, pushed)) =
    subst (λ l. AllZip R l out) (sym (take_more xs i x below))
    (subst (AllZip R (take i xs ++ get_or xs i x ∷ [])) (sym pushed) (zip_join R (take i xs) (get_or xs i x ∷ []) ys (y ∷ []) all (subst (λ a. R a y) is r, tt)))

-- the two parts of a list
pub zip_halves : {A B : Type 0} (R : A → B → Type 0) (xs front back : List A) (n : ℕ) (ys ws : List B) → front ≡ take n xs → back ≡ drop n xs → AllZip R front ys → AllZip R back ws → AllZip R xs (ys ++ ws)
zip_halves R xs front back n ys ws f b one two =
    let joined : front ++ back ≡ xs = (λ k. f k ++ b k) ∙ take-append-drop n xs in
    subst (λ l. AllZip R l (ys ++ ws)) joined (zip_join R front back ys ws one two)

pub zip_length : {A B : Type 0} (R : A → B → Type 0) (xs : List A) (ys : List B) → AllZip R xs ys → length xs ≡ length ys
zip_length R [] [] all = refl
zip_length R [] (y ∷ ys) all = absurd all
zip_length R (x ∷ xs) [] all = absurd all
zip_length R (x ∷ xs) (y ∷ ys) all = ap (λ n. suc n) (zip_length R xs ys all.1)

-- of lists that go together, what goes with the first ones of the second, and with the next one
pub record Divided {A B : Type 0} (R : A → B → Type 0) (xs : List A) (front : List B) (y : B) : Type 0 where
  pub before : List A
  pub at : A
  pub behind : List A
  pub joined : xs ≡ before ++ at ∷ behind
  pub first : AllZip R before front
  pub here : R at y

pub zip_divide : {A B : Type 0} (R : A → B → Type 0) (xs : List A) (front behind : List B) (y : B) → AllZip R xs (front ++ y ∷ behind) → Divided R xs front y
zip_divide R [] [] behind y z = absurd z
zip_divide R [] (f ∷ fs) behind y z = absurd z
zip_divide R (x ∷ xs) [] behind y z = record { before = []; at = x; behind = xs; joined = refl; first = tt; here = z.0 }
zip_divide R (x ∷ xs) (f ∷ fs) behind y z =
    let d = zip_divide R xs fs behind y z.1 in
    record { before = x ∷ d.before; at = d.at; behind = d.behind; joined = λ i. x ∷ d.joined i; first = (z.0, d.first); here = d.here }

-- the same, by the first list
pub record Parted {A B : Type 0} (R : A → B → Type 0) (xs : List A) (x : A) (ys : List B) : Type 0 where
  pub front : List B
  pub at : B
  pub behind : List B
  pub joined : ys ≡ front ++ at ∷ behind
  pub first : AllZip R xs front
  pub here : R x at

pub zip_part : {A B : Type 0} (R : A → B → Type 0) (xs later : List A) (x : A) (ys : List B) → AllZip R (xs ++ x ∷ later) ys → Parted R xs x ys
zip_part R [] later x [] z = absurd z
zip_part R [] later x (y ∷ ys) z = record { front = []; at = y; behind = ys; joined = refl; first = tt; here = z.0 }
zip_part R (a ∷ xs) later x [] z = absurd z
zip_part R (a ∷ xs) later x (y ∷ ys) z =
    let d = zip_part R xs later x ys z.1 in
    record { front = y ∷ d.front; at = d.at; behind = d.behind; joined = λ i. y ∷ d.joined i; first = (z.0, d.first); here = d.here }
