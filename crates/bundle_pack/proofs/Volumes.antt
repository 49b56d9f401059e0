-- One volume of a list after the other.
use Rattle.std.proofs.Common.{◌≡◌, ◌≢◌, inl, inr, ℕ, zero, suc, ◌<◌, List, [], ◌∷◌, ◌++◌, length, map, slice_get, slice_set, Some, Bool, IsTrue, refl, sym, ap, subst, ◌∙◌, arith}
use Rattle.std.specs.Prelude.{All, option_map, get_or}
use Rattle.std.proofs.lemmas.Bool.{cases_eq}
use Rattle.std.proofs.lemmas.List.{length-set, length-map}
use Rattle.std.proofs.lemmas.Option.{slice_get_within, slice_get-get_or, slice_get-map}
use Rattle.bundle_pack.specs.Sources.{Each}

pub get_same : {X : Type 0} (xs : List X) (i : ℕ) (y : X) → i < length xs → slice_get (slice_set xs i y) i ≡ Some y
get_same [] i y less = absurd (omega (arith, less))
get_same (x ∷ xs) zero y less = refl
get_same (x ∷ xs) (suc i) y less = get_same xs i y (omega (arith, less))

pub get_other : {X : Type 0} (xs : List X) (i j : ℕ) (y : X) → j ≢ i → slice_get (slice_set xs i y) j ≡ slice_get xs j
get_other [] i j y differs = refl
get_other (x ∷ xs) zero zero y differs = absurd (differs refl)
get_other (x ∷ xs) zero (suc j) y differs = refl
get_other (x ∷ xs) (suc i) zero y differs = refl
get_other (x ∷ xs) (suc i) (suc j) y differs = get_other xs i j y (λ is. differs (ap suc is))

pub get_some : {X : Type 0} (xs : List X) (i : ℕ) → i < length xs → (x : X) × (slice_get xs i ≡ Some x)
get_some [] i less = absurd (omega (arith, less))
get_some (x ∷ xs) zero less = (x, refl)
get_some (x ∷ xs) (suc i) less = get_some xs i (omega (arith, less))

pub get_pushed : {X : Type 0} (xs : List X) (y : X) → slice_get (xs ++ y ∷ []) (length xs) ≡ Some y
get_pushed [] y = refl
get_pushed (x ∷ xs) y = get_pushed xs y

pub get_before : {X : Type 0} (xs ys : List X) (i : ℕ) → i < length xs → slice_get (xs ++ ys) i ≡ slice_get xs i
get_before [] ys i less = absurd (omega (arith, less))
get_before (x ∷ xs) ys zero less = refl
get_before (x ∷ xs) ys (suc i) less = get_before xs ys i (omega (arith, less))

pub one_some : {X : Type 0} (x y : X) → Some x ≡ Some y → x ≡ y
one_some x y e = cc

-- the list with one of them changed: of that one this holds, and of the others what held
pub each_turn : {V : Type 0} (P Q : ℕ → V → V → Type 0) (old mid : List V) (at : ℕ) (x y : V) → Each P old mid → slice_get mid at ≡ Some x
    → ((v : V) → slice_get old at ≡ Some v → P at v x → Q at v y) → ((i : ℕ) (v w : V) → i ≢ at → P i v w → Q i v w) → Each Q old (slice_set mid at y)
each_turn P Q old mid at x y so there here others = record {
  many = length-set mid at y ∙ so.many;
  each = λ i v w first then. elim (cases_eq i at) [
    | inl same ↦
        let w_is : w ≡ y = one_some w y (sym then ∙ ap (slice_get (slice_set mid at y)) same ∙ get_same mid at y (slice_get_within mid at x there)) in
        let was : slice_get old at ≡ Some v = ap (slice_get old) (sym same) ∙ first in
        subst (λ (k : ℕ). Q k v w) (sym same) (subst (Q at v) (sym w_is) (here v was (so.each at v x was there)))
    | inr other ↦ others i v w other (so.each i v w first (sym (get_other mid at i y other) ∙ then))
  ];
}

pub each_map : {V : Type 0} (P Q : ℕ → V → V → Type 0) (old new : List V) → ((i : ℕ) (v w : V) → i < length old → P i v w → Q i v w) → Each P old new → Each Q old new
each_map P Q old new so each = record { many = each.many; each = λ i v w first then. so i v w (slice_get_within old i v first) (each.each i v w first then) }

-- the same list
pub each_same : {V : Type 0} (P : ℕ → V → V → Type 0) (vs : List V) → ((i : ℕ) (v : V) → P i v v) → Each P vs vs
each_same P vs so = record { many = refl; each = λ i v w first then. subst (P i v) (one_some v w (sym first ∙ then)) (so i v) }

-- one call after the other
pub each_join : {V : Type 0} (P Q R : ℕ → V → V → Type 0) (old mid new : List V) → ((i : ℕ) (v m w : V) → P i v m → Q i m w → R i v w) → Each P old mid → Each Q mid new → Each R old new
each_join P Q R old mid new so first second = record {
  many = second.many ∙ first.many;
  each = λ i v w was is.
      let m = get_some mid i (omega (arith, first.many, slice_get_within old i v was)) in
      so i v m.0 w (first.each i v m.0 was m.1) (second.each i m.0 w m.1 is);
}

-- what is told of all
pub told_at : {V : Type 0} (told : V → Bool) (vs : List V) (i : ℕ) (v : V) → All (λ x. IsTrue (told x)) vs → slice_get vs i ≡ Some v → IsTrue (told v)
told_at told vs i v all there =
    let e = one_some _ _ (sym (slice_get-get_or vs i v (slice_get_within vs i v there)) ∙ there) in
    subst (λ x. IsTrue (told x)) e (all i v (slice_get_within vs i v there))

-- an element of a list that is made of another
pub map_at : {A B : Type 0} (f : A → B) (xs : List A) (i : ℕ) (x : A) → slice_get xs i ≡ Some x → slice_get (map f xs) i ≡ Some (f x)
map_at f xs i x e = slice_get-map f xs i ∙ ap (option_map f) e

pub from_map : {A B : Type 0} (f : A → B) (xs : List A) (i : ℕ) (y : B) → slice_get (map f xs) i ≡ Some y → (x : A) × ((slice_get xs i ≡ Some x) × (y ≡ f x))
from_map f xs i y e =
    let x = get_some xs i (omega (arith, slice_get_within (map f xs) i y e, length-map xs f)) in
    (x.0, (x.1, one_some y (f x.0) (sym e ∙ map_at f xs i x.0 x.1)))

pub all_of : {V : Type 0} (P : V → Type 0) (vs : List V) → ((i : ℕ) (v : V) → slice_get vs i ≡ Some v → P v) → All P vs
all_of P vs so i v less = so i (get_or vs i v) (slice_get-get_or vs i v less)

-- lists that are alike where it counts
pub same_maps : {A B : Type 0} (f : A → B) (xs ys : List A) → length ys ≡ length xs → ((i : ℕ) (x y : A) → slice_get xs i ≡ Some x → slice_get ys i ≡ Some y → f y ≡ f x) → map f ys ≡ map f xs
same_maps f [] [] many so = refl
same_maps f [] (y ∷ ys) many so = absurd (let no : ⊥ = omega (arith, many) in no)
same_maps f (x ∷ xs) [] many so = absurd (let no : ⊥ = omega (arith, many) in no)
same_maps f (x ∷ xs) (y ∷ ys) many so =
    let first : f y ≡ f x = so 0 x y refl refl in
    let rest : map f ys ≡ map f xs = same_maps f xs ys (omega (arith, many)) (λ i a b at there. so (suc i) a b at there) in
    λ i. first i ∷ rest i
