-- Lanes of signed numbers: the smaller and the greater of two.
use Rattle.std.proofs.Common.{◌≡◌, ℕ, ◌-◌, ◌^◌, Bool, true, false, ℤ, List, [], ◌∷◌, map, refl, ap, ◌∙◌, arith}
use Rattle.std.specs.Int.{int_min, int_max}
use Rattle.std.specs.List.{AllByRecursion}
use Rattle.std.proofs.lemmas.Int.{ints, to_z-of_z}
use mathlib.Core.Bool.{cond}
use lib.Lanes.{zip2, sel_l, top}
use lib.Signed.{lt_z}
use mir.Syntax.{w64}
use mir.Val.{SFits, to_z, of_z}
use Rattle.lane_kernels.proofs.Caps.{reread}

abbrev pub lower : ℕ → ℕ → ℕ
lower = borrow.Rule.Simd.Lanes.act2 (mir.Syntax.mask (mir.Syntax.lt mir.Syntax.signed)) (borrow.Table.Row.s_int w64) (borrow.Table.Row.s_int w64) (borrow.Table.Row.s_int w64)

-- a lane is picked by the highest bit of all ones or zero
picked : (b : Bool) (x y : ℤ) → to_z w64 (cond (top 63 (cond b (2 ^ 64 - 1) 0)) (of_z w64 x) (of_z w64 y)) ≡ to_z w64 (of_z w64 (cond b x y))
picked true x y = refl
picked false x y = refl

smaller : (x y : ℤ) → cond (lt_z x y) x y ≡ int_min x y
smaller x y = grind (arith, ints)

fits_min : (x y : ℤ) → SFits w64 x → SFits w64 y → SFits w64 (int_min x y)
fits_min x y f g = grind (arith, ints)

pub lane_min : (x y : ℤ) → SFits w64 x → SFits w64 y → to_z w64 (cond (top 63 (lower (of_z w64 x) (of_z w64 y))) (of_z w64 x) (of_z w64 y)) ≡ int_min x y
lane_min x y f g =
    let exact : cond (lt_z (reread x) (reread y)) x y ≡ int_min x y = ap (λ v. cond (lt_z v (reread y)) x y) (to_z-of_z w64 x f) ∙ ap (λ v. cond (lt_z x v) x y) (to_z-of_z w64 y g) ∙ smaller x y in
    picked (lt_z (reread x) (reread y)) x y ∙ ap reread exact ∙ to_z-of_z w64 (int_min x y) (fits_min x y f g)

abbrev pub bits : List ℤ → List ℕ
bits xs = map (of_z w64) xs

pub min_lanes : (xs ys : List ℤ) → AllByRecursion (SFits w64) xs → AllByRecursion (SFits w64) ys → map (to_z w64) (sel_l (map (top 63) (zip2 lower (bits xs) (bits ys))) (bits xs) (bits ys)) ≡ zip2 int_min xs ys
min_lanes [] ys f g = refl
min_lanes (x ∷ xs) [] f g = refl
min_lanes (x ∷ xs) (y ∷ ys) f g =
    ap (λ v. v ∷ map (to_z w64) (sel_l (map (top 63) (zip2 lower (bits xs) (bits ys))) (bits xs) (bits ys))) (lane_min x y f.0 g.0)
    ∙ ap (λ vs. int_min x y ∷ vs) (min_lanes xs ys f.1 g.1)

greater : (x y : ℤ) → cond (lt_z x y) y x ≡ int_max x y
greater x y = grind (arith, ints)

fits_max : (x y : ℤ) → SFits w64 x → SFits w64 y → SFits w64 (int_max x y)
fits_max x y f g = grind (arith, ints)

picked_back : (b : Bool) (x y : ℤ) → to_z w64 (cond (top 63 (cond b (2 ^ 64 - 1) 0)) (of_z w64 y) (of_z w64 x)) ≡ to_z w64 (of_z w64 (cond b y x))
picked_back true x y = refl
picked_back false x y = refl

pub lane_max : (x y : ℤ) → SFits w64 x → SFits w64 y → to_z w64 (cond (top 63 (lower (of_z w64 x) (of_z w64 y))) (of_z w64 y) (of_z w64 x)) ≡ int_max x y
lane_max x y f g =
    let exact : cond (lt_z (reread x) (reread y)) y x ≡ int_max x y = ap (λ v. cond (lt_z v (reread y)) y x) (to_z-of_z w64 x f) ∙ ap (λ v. cond (lt_z x v) y x) (to_z-of_z w64 y g) ∙ greater x y in
    picked_back (lt_z (reread x) (reread y)) x y ∙ ap reread exact ∙ to_z-of_z w64 (int_max x y) (fits_max x y f g)

pub max_lanes : (xs ys : List ℤ) → AllByRecursion (SFits w64) xs → AllByRecursion (SFits w64) ys → map (to_z w64) (sel_l (map (top 63) (zip2 lower (bits xs) (bits ys))) (bits ys) (bits xs)) ≡ zip2 int_max xs ys
max_lanes [] ys f g = refl
max_lanes (x ∷ xs) [] f g = refl
max_lanes (x ∷ xs) (y ∷ ys) f g =
    ap (λ v. v ∷ map (to_z w64) (sel_l (map (top 63) (zip2 lower (bits xs) (bits ys))) (bits ys) (bits xs))) (lane_max x y f.0 g.0)
    ∙ ap (λ vs. int_max x y ∷ vs) (max_lanes xs ys f.1 g.1)
