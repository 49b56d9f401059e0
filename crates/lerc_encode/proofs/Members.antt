-- Members of lists.
use Rattle.std.proofs.Common.{◌≡◌, ℕ, ◌+◌, ◌<◌, ◌≤◌, zero, suc, Bool, true, false, cond, List, [], ◌∷◌, ◌++◌, length, get_or, map, refl, sym, ap, ◌∙◌, subst, arith, ◌⊎◌, inl, inr}
use Rattle.std.proofs.lemmas.Bool.{cases_order}
use Rattle.std.specs.List.{filter, flat_map, range_with_len}

-- x is one of them
abbrev pub Has : {X : Type 0} → X → List X → Type 0
Has x [] = ⊥
Has x (y ∷ ys) = (x ≡ y) ⊎ Has x ys

pub has_append : {X : Type 0} (x : X) (ys zs : List X) → Has x ys ⊎ Has x zs → Has x (ys ++ zs)
has_append x [] zs (inl h) = absurd h
has_append x [] zs (inr h) = h
has_append x (y ∷ ys) zs (inl (inl e)) = inl e
has_append x (y ∷ ys) zs (inl (inr h)) = inr (has_append x ys zs (inl h))
has_append x (y ∷ ys) zs (inr h) = inr (has_append x ys zs (inr h))

pub has_map : {X Y : Type 0} (f : X → Y) (x : X) (xs : List X) → Has x xs → Has (f x) (map f xs)
has_map f x [] h = absurd h
has_map f x (y ∷ ys) (inl e) = inl (ap f e)
has_map f x (y ∷ ys) (inr h) = inr (has_map f x ys h)

pub has_flat_map : {X Y : Type 0} (f : X → List Y) (x : X) (y : Y) (xs : List X) → Has x xs → Has y (f x) → Has y (flat_map f xs)
has_flat_map f x y [] h k = absurd h
has_flat_map f x y (z ∷ zs) (inl e) k = has_append y (f z) (flat_map f zs) (inl (subst (λ w. Has y (f w)) e k))
has_flat_map f x y (z ∷ zs) (inr h) k = has_append y (f z) (flat_map f zs) (inr (has_flat_map f x y zs h k))

has_cond : {X : Type 0} (b : Bool) (x z : X) (ys : List X) → (x ≡ z) × (b ≡ true) ⊎ Has x ys → Has x (cond b (z ∷ ys) ys)
has_cond true x z ys (inl e) = inl e.0
has_cond true x z ys (inr h) = inr h
has_cond false x z ys (inl e) = absurd (let no : ⊥ = cc (e.1) in no)
has_cond false x z ys (inr h) = h

pub has_filter : {X : Type 0} (p : X → Bool) (x : X) (xs : List X) → p x ≡ true → Has x xs → Has x (filter p xs)
has_filter p x [] e h = absurd h
has_filter p x (z ∷ zs) e (inl same) = has_cond (p z) x z (filter p zs) (inl (same, ap p (sym same) ∙ e))
has_filter p x (z ∷ zs) e (inr h) = has_cond (p z) x z (filter p zs) (inr (has_filter p x zs e h))

after_or : (a k : ℕ) → a ≤ k → (k ≡ a) ⊎ (a + 1 ≤ k)
after_or a k h = by (cases_order k a)
  where
    by : (k ≡ a) ⊎ ((k < a) ⊎ (a < k)) → (k ≡ a) ⊎ (a + 1 ≤ k)
    by (inl e) = inl e
    by (inr (inl l)) = absurd (omega (arith, h, l))
    by (inr (inr l)) = inr (omega (arith, l))

pub has_range : (a n k : ℕ) → a ≤ k → k < a + n → Has k (range_with_len a n)
has_range a zero k low high = absurd (omega (arith, low, high))
has_range a (suc n) k low high = which (after_or a k low) (λ l. has_range (a + 1) n k l (omega (arith, high)))
  where
    which : (k ≡ a) ⊎ (a + 1 ≤ k) → (a + 1 ≤ k → Has k (range_with_len (a + 1) n)) → Has k (range_with_len a (suc n))
    which (inl e) later = inl e
    which (inr l) later = inr (later l)

pub in_append : {X : Type 0} (x : X) (ys zs : List X) → Has x (ys ++ zs) → Has x ys ⊎ Has x zs
in_append x [] zs h = inr h
in_append x (y ∷ ys) zs (inl e) = inl (inl e)
in_append x (y ∷ ys) zs (inr h) = after (in_append x ys zs h)
  where
    after : Has x ys ⊎ Has x zs → Has x (y ∷ ys) ⊎ Has x zs
    after (inl a) = inl (inr a)
    after (inr b) = inr b

pub in_flat_map : {X Y : Type 0} (f : X → List Y) (y : Y) (xs : List X) → Has y (flat_map f xs) → (x : X) × (Has x xs × Has y (f x))
in_flat_map f y [] h = absurd h
in_flat_map {X = X} f y (x ∷ xs) h = after (in_append y (f x) (flat_map f xs) h) (in_flat_map f y xs)
  where
    after : Has y (f x) ⊎ Has y (flat_map f xs) → (Has y (flat_map f xs) → (z : X) × (Has z xs × Has y (f z))) → (z : X) × (Has z (x ∷ xs) × Has y (f z))
    after (inl a) later = (x, (inl refl, a))
    after (inr b) later = let r = later b in (r.0, (inr r.1.0, r.1.1))

pub in_map : {X Y : Type 0} (f : X → Y) (y : Y) (xs : List X) → Has y (map f xs) → (x : X) × (Has x xs × (y ≡ f x))
in_map f y [] h = absurd h
in_map f y (x ∷ xs) (inl e) = (x, (inl refl, e))
in_map f y (x ∷ xs) (inr h) = let r = in_map f y xs h in (r.0, (inr r.1.0, r.1.1))

in_cond : {X : Type 0} (b : Bool) (x z : X) (ys : List X) → Has x (cond b (z ∷ ys) ys) → ((x ≡ z) × (b ≡ true)) ⊎ Has x ys
in_cond true x z ys (inl e) = inl (e, refl)
in_cond true x z ys (inr h) = inr h
in_cond false x z ys h = inr h

pub in_filter : {X : Type 0} (p : X → Bool) (x : X) (xs : List X) → Has x (filter p xs) → (p x ≡ true) × Has x xs
in_filter p x [] h = absurd h
in_filter p x (z ∷ zs) h = after (in_cond (p z) x z (filter p zs) h) (in_filter p x zs)
  where
    after : ((x ≡ z) × (p z ≡ true)) ⊎ Has x (filter p zs) → (Has x (filter p zs) → (p x ≡ true) × Has x zs) → (p x ≡ true) × Has x (z ∷ zs)
    after (inl a) later = (ap p a.0 ∙ a.1, inl a.0)
    after (inr b) later = let r = later b in (r.0, inr r.1)

pub in_range : (a n k : ℕ) → Has k (range_with_len a n) → (a ≤ k) × (k < a + n)
in_range a zero k h = absurd h
in_range a (suc n) k (inl e) = (omega (arith, e), omega (arith, e))
in_range a (suc n) k (inr h) = let r = in_range (a + 1) n k h in let low = r.0 in let high = r.1 in (omega (arith, low), omega (arith, high))

-- a member stands somewhere, and what stands somewhere is a member
pub at_index : {X : Type 0} (d : X) (xs : List X) (i : ℕ) → i < length xs → Has (get_or xs i d) xs
at_index d [] i h = absurd (omega (arith, h))
at_index d (x ∷ xs) zero h = inl refl
at_index d (x ∷ xs) (suc i) h = inr (at_index d xs i (omega (arith, h)))

pub index_of : {X : Type 0} (d x : X) (xs : List X) → Has x xs → (i : ℕ) × ((i < length xs) × (get_or xs i d ≡ x))
index_of d x [] h = absurd h
index_of d x (y ∷ ys) (inl e) = (zero, (omega arith, sym e))
index_of d x (y ∷ ys) (inr h) = let r = index_of d x ys h in let low = r.1.0 in (suc r.0, (omega (arith, low), r.1.1))

pub map_same : {X Y : Type 0} (f g : X → Y) (xs : List X) → ((x : X) → Has x xs → f x ≡ g x) → map f xs ≡ map g xs
map_same f g [] h = refl
map_same f g (x ∷ xs) h = ap (λ y. y ∷ map f xs) (h x (inl refl)) ∙ ap (λ ys. g x ∷ ys) (map_same f g xs (λ z m. h z (inr m)))
