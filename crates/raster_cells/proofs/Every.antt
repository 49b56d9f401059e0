-- What holds of every element, by the shape of the list.
use Rattle.std.proofs.Common.{[], List, ◌∷◌, map, ◌++◌, sym, subst, ◌≡◌, Bool, true, false, cond, refl, ℕ, ◌+◌, ◌<◌, ◌≤◌, zero, suc, arith, ⊎_elim, ◌≢◌, ap, ◌∙◌}
use Rattle.std.specs.List.{flat_map, filter, range_with_len}
use Rattle.std.proofs.lemmas.List.Concat.{flat_map-cons}
use Rattle.std.proofs.lemmas.Bool.{false≢true, cases_eq}

abbrev pub Every : {X : Type 0} → (X → Type 0) → List X → Type 0
Every P [] = Unit
Every P (x ∷ xs) = P x × Every P xs

pub every_map : {X Y : Type 0} (P : Y → Type 0) (f : X → Y) (xs : List X) → Every (λ x. P (f x)) xs → Every P (map f xs)
every_map P f [] h = tt
every_map P f (x ∷ xs) h = (h.0, every_map P f xs h.1)

pub map_every : {X Y : Type 0} (P : Y → Type 0) (f : X → Y) (xs : List X) → Every P (map f xs) → Every (λ x. P (f x)) xs
map_every P f [] h = tt
map_every P f (x ∷ xs) h = (h.0, map_every P f xs h.1)

pub every_append : {X : Type 0} (P : X → Type 0) (xs ys : List X) → Every P xs → Every P ys → Every P (xs ++ ys)
every_append P [] ys h k = k
every_append P (x ∷ xs) ys h k = (h.0, every_append P xs ys h.1 k)

pub append_every : {X : Type 0} (P : X → Type 0) (xs ys : List X) → Every P (xs ++ ys) → Every P xs × Every P ys
append_every P [] ys h = (tt, h)
append_every P (x ∷ xs) ys h = let rest = append_every P xs ys h.1 in ((h.0, rest.0), rest.1)

pub every_flat_map : {X Y : Type 0} (P : Y → Type 0) (f : X → List Y) (xs : List X) → Every (λ x. Every P (f x)) xs → Every P (flat_map f xs)
every_flat_map P f [] h = tt
every_flat_map P f (x ∷ xs) h = subst (Every P) (sym (flat_map-cons f x xs)) (every_append P (f x) (flat_map f xs) h.0 (every_flat_map P f xs h.1))

pub flat_map_every : {X Y : Type 0} (P : Y → Type 0) (f : X → List Y) (xs : List X) → Every P (flat_map f xs) → Every (λ x. Every P (f x)) xs
flat_map_every P f [] h = tt
flat_map_every P f (x ∷ xs) h = let both = append_every P (f x) (flat_map f xs) (subst (Every P) (flat_map-cons f x xs) h) in (both.0, flat_map_every P f xs both.1)

pub every_filter : {X : Type 0} (P : X → Type 0) (q : X → Bool) (xs : List X) → Every (λ x. q x ≡ true → P x) xs → Every P (filter q xs)
every_filter P q [] h = tt
every_filter P q (x ∷ xs) h =
    elim (q x) as (λ b. q x ≡ b → Every P (cond b (x ∷ filter q xs) (filter q xs))) [
      | true ↦ λ e. (h.0 e, every_filter P q xs h.1)
      | false ↦ λ _. every_filter P q xs h.1
    ] refl

pub filter_every : {X : Type 0} (P : X → Type 0) (q : X → Bool) (xs : List X) → Every P (filter q xs) → Every (λ x. q x ≡ true → P x) xs
filter_every P q [] h = tt
filter_every P q (x ∷ xs) h =
    elim (q x) as (λ b. Every P (cond b (x ∷ filter q xs) (filter q xs)) → ((b ≡ true → P x) × Every (λ y. q y ≡ true → P y) xs)) [
      | true ↦ λ k. ((λ _. k.0), filter_every P q xs k.1)
      | false ↦ λ k. ((λ no. absurd (false≢true no)), filter_every P q xs k)
    ] h

pub every_range : (P : ℕ → Type 0) (a n : ℕ) → ((k : ℕ) → a ≤ k → k < a + n → P k) → Every P (range_with_len a n)
every_range P a zero h = tt
every_range P a (suc n) h = (h a (omega arith) (omega arith), every_range P (a + 1) n (λ k from below. h k (omega arith) (omega arith)))

pub range_every : (P : ℕ → Type 0) (a n k : ℕ) → Every P (range_with_len a n) → a ≤ k → k < a + n → P k
range_every P a zero k h from below = absurd (let no : ⊥ = omega arith in no)
range_every P a (suc n) k h from below =
    ⊎_elim
    (λ (is : k ≡ a). subst P (sym is) h.0)
    (λ (ne : k ≢ a). range_every P (a + 1) n k h.1 (omega arith) (omega arith))
    (cases_eq k a)

pub same_map : {X Y : Type 0} (f g : X → Y) (xs : List X) → Every (λ x. f x ≡ g x) xs → map f xs ≡ map g xs
same_map f g [] h = refl
same_map f g (x ∷ xs) h = ap (λ y. y ∷ map f xs) h.0 ∙ ap (λ ys. g x ∷ ys) (same_map f g xs h.1)

pub map_same : {X Y : Type 0} (f g : X → Y) (xs : List X) → map f xs ≡ map g xs → Every (λ x. f x ≡ g x) xs
map_same f g [] e = tt
map_same f g (x ∷ xs) e = ((cc), map_same f g xs (cc))

pub same_filter : {X : Type 0} (p q : X → Bool) (xs : List X) → Every (λ x. p x ≡ q x) xs → filter p xs ≡ filter q xs
same_filter p q [] h = refl
same_filter p q (x ∷ xs) h = ap (λ b. cond b (x ∷ filter p xs) (filter p xs)) h.0 ∙ ap (λ ys. cond (q x) (x ∷ ys) ys) (same_filter p q xs h.1)

pub same_flat_map : {X Y : Type 0} (f g : X → List Y) (xs : List X) → Every (λ x. f x ≡ g x) xs → flat_map f xs ≡ flat_map g xs
same_flat_map f g [] h = refl
same_flat_map f g (x ∷ xs) h =
    flat_map-cons f x xs ∙ ap (λ ys. ys ++ flat_map f xs) h.0 ∙ ap (λ ys. g x ++ ys) (same_flat_map f g xs h.1) ∙ sym (flat_map-cons g x xs)
