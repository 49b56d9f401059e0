-- The least and the greatest of a number and of a list, also where the list is gone through by eights.
use Rattle.std.proofs.Common.{◌≡◌, ℕ, zero, suc, ◌+◌, ◌<◌, ◌≤◌, ℤ, ◌≤ℤ◌, List, [], ◌∷◌, ◌++◌, length, map, take, drop, get_or, replicate, refl, sym, ap, ◌∙◌, subst, arith}
use Rattle.std.specs.Prelude.{fold}
use Rattle.std.specs.Int.{int_min, int_max}
use Rattle.std.specs.List.{AllByRecursion}
use Rattle.std.proofs.lemmas.Int.{ints, to_z-of_z}
use Rattle.std.proofs.lemmas.List.{append_assoc, append-nil, length-map, take-append-drop, length-take-le, length-drop}
use Rattle.std.proofs.lemmas.List.Elements.{recursion_from_All, All-from_recursion, All-cons, All-nil, Contains-push}
use Rattle.std.proofs.lemmas.List.Sums.{fold-append}
use Rattle.std.proofs.lemmas.Simd.{length-zip2}
use Rattle.std.proofs.Math.Seq.{take-add}
use lib.Lanes.{zip2}
use mir.Syntax.{w64}
use mir.Val.{SFits, to_z, of_z}
use Rattle.lane_kernels.specs.Kernels.{IsLeast, IsGreatest}
use Rattle.lane_kernels.specs.inside.Lanes.{AreLanes}
use Rattle.lane_kernels.proofs.Bounds.{IsLeast-push, IsGreatest-push}

-- a number that is one of two, whichever way they are joined
pub record IsJoin (f : ℤ → ℤ → ℤ) : Type 0 where
  pub grouped : (a x y : ℤ) → f (f a x) y ≡ f a (f x y)
  pub swapped : (a x y : ℤ) → f (f a x) y ≡ f (f a y) x
  pub same : (x : ℤ) → f x x ≡ x
  pub fits : (x y : ℤ) → SFits w64 x → SFits w64 y → SFits w64 (f x y)

pub lesser : IsJoin int_min
lesser = record {
  grouped = λ a x y. grind (arith, ints);
  swapped = λ a x y. grind (arith, ints);
  same = λ x. grind (arith, ints);
  fits = λ x y h k. grind (arith, ints);
}

pub greater : IsJoin int_max
greater = record {
  grouped = λ a x y. grind (arith, ints);
  swapped = λ a x y. grind (arith, ints);
  same = λ x. grind (arith, ints);
  fits = λ x y h k. grind (arith, ints);
}

later : (f : ℤ → ℤ → ℤ) → IsJoin f → (a y : ℤ) (xs : List ℤ) → fold f (f a y) xs ≡ f (fold f a xs) y
later f is a y [] = refl
later f is a y (x ∷ xs) = ap (λ v. fold f v xs) (is.swapped a y x) ∙ later f is (f a x) y xs

-- two lists lane by lane
lanes_joined : (f : ℤ → ℤ → ℤ) → IsJoin f → (a : ℤ) (xs ys : List ℤ) → length xs ≡ length ys → fold f a (zip2 f xs ys) ≡ fold f (fold f a xs) ys
lanes_joined f is a [] [] e = refl
lanes_joined f is a [] (y ∷ ys) e = absurd (omega (arith, e))
lanes_joined f is a (x ∷ xs) [] e = absurd (omega (arith, e))
lanes_joined f is a (x ∷ xs) (y ∷ ys) e =
    ap (λ v. fold f v (zip2 f xs ys)) (sym (is.grouped a x y))
    ∙ lanes_joined f is (f (f a x) y) xs ys (omega (arith, e))
    ∙ ap (λ v. fold f v ys) (later f is (f a x) y xs)

-- lanes that all are one number
pub lanes_alike : (f : ℤ → ℤ → ℤ) → IsJoin f → (a : ℤ) (k : ℕ) → fold f a (replicate k a) ≡ a
lanes_alike f is a zero = refl
lanes_alike f is a (suc k) = ap (λ v. fold f v (replicate k a)) (is.same a) ∙ lanes_alike f is a k

-- eight values more
pub eight_more : (f : ℤ → ℤ → ℤ) → IsJoin f → (a : ℤ) (lanes values : List ℤ) (at : ℕ) → length lanes ≡ 8 → at + 8 ≤ length values
    → fold f a lanes ≡ fold f a (take at values) → fold f a (zip2 f lanes (take 8 (drop at values))) ≡ fold f a (take (at + 8) values)
eight_more f is a lanes values at eight within so_far =
    let part = take 8 (drop at values) in
    let long : length part ≡ 8 = length-take-le 8 (drop at values) (omega (arith, length-drop at values)) in
    lanes_joined f is a lanes part (eight ∙ sym long)
    ∙ ap (λ v. fold f v part) so_far
    ∙ sym (fold-append f a (take at values) part)
    ∙ ap (fold f a) (sym (take-add at 8 values))

-- the values up to a place, and those from there on
pub parts_joined : (f : ℤ → ℤ → ℤ) (a : ℤ) (values : List ℤ) (at : ℕ) → fold f (fold f a (take at values)) (drop at values) ≡ fold f a values
parts_joined f a values at =
    sym (fold-append f a (take at values) (drop at values)) ∙ ap (fold f a) (take-append-drop at values)

all_fit : (f : ℤ → ℤ → ℤ) → IsJoin f → (xs ys : List ℤ) → AllByRecursion (SFits w64) xs → AllByRecursion (SFits w64) ys → AllByRecursion (SFits w64) (zip2 f xs ys)
all_fit f is [] ys h k = tt
all_fit f is (x ∷ xs) [] h k = tt
all_fit f is (x ∷ xs) (y ∷ ys) h k = (is.fits x y h.0 k.0, all_fit f is xs ys h.1 k.1)

-- lanes that are joined with lanes are lanes
pub still_lanes : (f : ℤ → ℤ → ℤ) → IsJoin f → (xs ys : List ℤ) → AreLanes xs → AreLanes ys → AreLanes (zip2 f xs ys)
still_lanes f is xs ys h k = record {
  eight = length-zip2 f xs ys (h.eight ∙ sym k.eight) ∙ h.eight;
  fit = All-from_recursion (SFits w64) (zip2 f xs ys) (all_fit f is xs ys (recursion_from_All (SFits w64) xs h.fit) (recursion_from_All (SFits w64) ys k.fit));
}

least_on : (a : ℤ) (xs ys : List ℤ) → IsLeast ys a → IsLeast (ys ++ xs) (fold int_min a xs)
least_on a [] ys h = subst (λ zs. IsLeast zs a) (sym (append-nil ys)) h
least_on a (x ∷ xs) ys h =
    subst (λ zs. IsLeast zs (fold int_min (int_min a x) xs)) (append_assoc ys (x ∷ []) xs) (least_on (int_min a x) xs (ys ++ x ∷ []) (IsLeast-push ys a x h))

greatest_on : (a : ℤ) (xs ys : List ℤ) → IsGreatest ys a → IsGreatest (ys ++ xs) (fold int_max a xs)
greatest_on a [] ys h = subst (λ zs. IsGreatest zs a) (sym (append-nil ys)) h
greatest_on a (x ∷ xs) ys h =
    subst (λ zs. IsGreatest zs (fold int_max (int_max a x) xs)) (append_assoc ys (x ∷ []) xs) (greatest_on (int_max a x) xs (ys ++ x ∷ []) (IsGreatest-push ys a x h))

-- from the first value on they are the list's own
pub least_of_list : (first : ℤ) (values : List ℤ) → 0 < length values → first ≡ get_or values 0 first → IsLeast values (fold int_min first values)
least_of_list first [] some e = absurd (omega (arith, some))
least_of_list first (v ∷ values) some e =
    let one : IsLeast (v ∷ []) v = (Contains-push [] v, All-cons (λ x. v ≤ℤ x) v [] (omega (arith, ints)) (All-nil (λ x. v ≤ℤ x))) in
    subst (λ x. IsLeast (v ∷ values) (fold int_min (int_min x v) values)) (sym e)
    (subst (IsLeast (v ∷ values)) (ap (λ x. fold int_min x values) (sym (lesser.same v))) (least_on v values (v ∷ []) one))

pub greatest_of_list : (first : ℤ) (values : List ℤ) → 0 < length values → first ≡ get_or values 0 first → IsGreatest values (fold int_max first values)
greatest_of_list first [] some e = absurd (omega (arith, some))
greatest_of_list first (v ∷ values) some e =
    let one : IsGreatest (v ∷ []) v = (Contains-push [] v, All-cons (λ x. x ≤ℤ v) v [] (omega (arith, ints)) (All-nil (λ x. x ≤ℤ v))) in
    subst (λ x. IsGreatest (v ∷ values) (fold int_max (int_max x v) values)) (sym e)
    (subst (IsGreatest (v ∷ values)) (ap (λ x. fold int_max x values) (sym (greater.same v))) (greatest_on v values (v ∷ []) one))

-- lanes as the code reads them again
reread_all : (xs : List ℤ) → AllByRecursion (SFits w64) xs → map (to_z w64) (map (of_z w64) xs) ≡ xs
reread_all [] h = refl
reread_all (x ∷ xs) h = ap (λ v. v ∷ map (to_z w64) (map (of_z w64) xs)) (to_z-of_z w64 x h.0) ∙ ap (λ vs. x ∷ vs) (reread_all xs h.1)

pub same_lanes : (xs : List ℤ) → AreLanes xs → map (to_z w64) (map (of_z w64) xs) ≡ xs
same_lanes xs h = reread_all xs (recursion_from_All (SFits w64) xs h.fit)

pub again_lanes : (xs : List ℤ) → AreLanes xs → AreLanes (map (to_z w64) (map (of_z w64) xs))
again_lanes xs h = subst AreLanes (sym (same_lanes xs h)) h

-- eight values more, of lanes as the code reads them again
pub kept_more : (f : ℤ → ℤ → ℤ) → IsJoin f → (a : ℤ) (lanes next kept values : List ℤ) (at : ℕ) → AreLanes lanes → AreLanes next → AreLanes kept → at + 8 ≤ length values
    → fold f a lanes ≡ fold f a (take at values) → next ≡ take 8 (drop at values) → kept ≡ zip2 f lanes (map (to_z w64) (map (of_z w64) next))
    → AreLanes (map (to_z w64) (map (of_z w64) kept)) × (fold f a (map (to_z w64) (map (of_z w64) kept)) ≡ fold f a (take (at + 8) values))
kept_more f is a lanes next kept values at h n k within so_far e e' = (
  again_lanes kept k,
  ap (fold f a) (same_lanes kept k ∙ e' ∙ ap (zip2 f lanes) (same_lanes next n ∙ e)) ∙ eight_more f is a lanes values at h.eight within so_far,
)

-- lanes that are changed one by one
fit_mapped : (f : ℤ → ℤ) (xs : List ℤ) → AllByRecursion (λ v. SFits w64 (f v)) xs → AllByRecursion (SFits w64) (map f xs)
fit_mapped f [] h = tt
fit_mapped f (x ∷ xs) h = (h.0, fit_mapped f xs h.1)

pub mapped_lanes : (f : ℤ → ℤ) (lanes : List ℤ) → AreLanes lanes → AllByRecursion (λ v. SFits w64 (f v)) lanes → AreLanes (map f lanes)
mapped_lanes f lanes h fit = record {
  eight = length-map lanes f ∙ h.eight;
  fit = All-from_recursion (SFits w64) (map f lanes) (fit_mapped f lanes fit);
}

pub fit_joined : (f : ℤ → ℤ → ℤ) → IsJoin f → (y : ℤ) (xs : List ℤ) → SFits w64 y → AllByRecursion (SFits w64) xs → AllByRecursion (λ v. SFits w64 (f v y)) xs
fit_joined f is y [] k h = tt
fit_joined f is y (x ∷ xs) k h = (is.fits x y h.0 k, fit_joined f is y xs k h.1)
