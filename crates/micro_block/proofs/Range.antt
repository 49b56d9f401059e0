-- The least and the greatest of a list, by the kernels' words.
use Rattle.std.proofs.Common.{◌≡◌, ℕ, zero, suc, ◌<◌, ℤ, pos, ◌≤ℤ◌, List, [], ◌∷◌, length, get_or, refl, sym, ap, subst, ◌∙◌, arith}
use Rattle.std.specs.Prelude.{All, Contains, fold}
use Rattle.std.specs.Int.{int_min, int_max}
use Rattle.std.proofs.lemmas.Int.{ints, clamps, to_z-of_z}
use Rattle.std.proofs.lemmas.List.Elements.{All-head, All-tail}
use Rattle.lane_kernels.specs.Kernels.{IsLeast, IsGreatest, IsSmall}
use Rattle.bit_stuff.specs.Simple.{greatest_number}
use Rattle.micro_block.specs.ChosenBlock.{least_value, quantised_values}
use Rattle.micro_block.specs.Near.{quantised}
use Rattle.micro_block.proofs.Written.{least_below}
use mir.Syntax.{w64}
use mir.Val.{to_z, of_z}
use Rattle.raster_cells.specs.PixelType.{InRange}
use Rattle.raster_cells.specs.declared.kind.PixelType.{PixelType}
use Rattle.raster_cells.specs.declared.kind.PixelType.TheVariants.{I8, U8, I16, U16, I32, U32}
use Rattle.micro_block.proofs.Fast.{greatest_quantised}

same_default : (xs : List ℤ) (k : ℕ) (d e : ℤ) → k < length xs → get_or xs k d ≡ get_or xs k e
same_default [] k d e h = absurd (omega (arith, h))
same_default (x ∷ xs) zero d e h = refl
same_default (x ∷ xs) (suc k) d e h = same_default xs k d e (omega (arith, h))

min_above : (m a : ℤ) (vs : List ℤ) → m ≤ℤ a → All (λ v. m ≤ℤ v) vs → m ≤ℤ fold int_min a vs
min_above m a [] h hs = h
min_above m a (v ∷ vs) h hs = let hv = All-head (λ v. m ≤ℤ v) v vs hs in min_above m (int_min a v) vs (omega (arith, ints, clamps, h, hv)) (All-tail (λ v. m ≤ℤ v) v vs hs)

max_below : (m a : ℤ) (vs : List ℤ) → a ≤ℤ m → All (λ v. v ≤ℤ m) vs → fold int_max a vs ≤ℤ m
max_below m a [] h hs = h
max_below m a (v ∷ vs) h hs = let hv = All-head (λ v. v ≤ℤ m) v vs hs in max_below m (int_max a v) vs (omega (arith, ints, clamps, h, hv)) (All-tail (λ v. v ≤ℤ m) v vs hs)

max_above : (a : ℤ) (vs : List ℤ) (k : ℕ) → k < length (a ∷ vs) → get_or (a ∷ vs) k (pos 0) ≤ℤ fold int_max a vs
max_above a [] zero h = omega (arith, ints)
max_above a [] (suc k) h = absurd (omega (arith, h))
max_above a (v ∷ vs) zero h = let r = max_above (int_max a v) vs zero (omega arith) in omega (arith, ints, clamps, r)
max_above a (v ∷ vs) (suc zero) h = let r = max_above (int_max a v) vs zero (omega arith) in omega (arith, ints, clamps, r)
max_above a (v ∷ vs) (suc (suc k)) h = max_above (int_max a v) vs (suc k) (omega (arith, h))

pub least_is : (vs : List ℤ) (m : ℤ) → IsLeast vs m → least_value vs ≡ m
least_is [] m (at, all) = absurd (let low = at.1 in omega (arith, low))
least_is (v ∷ vs) m (at, all) =
    let a = least_below (v ∷ vs) at.0 at.1 in
    let e : get_or (v ∷ vs) at.0 (pos 0) ≡ m = same_default (v ∷ vs) at.0 (pos 0) m at.1 ∙ at.2 in
    let b = min_above m v vs (All-head (λ u. m ≤ℤ u) v vs all) (All-tail (λ u. m ≤ℤ u) v vs all) in
    omega (arith, ints, a, e, b)

pub most_is : (step : ℕ) (vs : List ℤ) (m g : ℤ) → 0 < step → IsLeast vs m → IsGreatest vs g → quantised step m g ≡ greatest_number (quantised_values step vs)
most_is step [] m g some least (at, all) = absurd (let low = at.1 in omega (arith, low))
most_is step (v ∷ vs) m g some least (at, all) =
    let a = max_above v vs at.0 at.1 in
    let e : get_or (v ∷ vs) at.0 (pos 0) ≡ g = same_default (v ∷ vs) at.0 (pos 0) g at.1 ∙ at.2 in
    let b = max_below g v vs (All-head (λ u. u ≤ℤ g) v vs all) (All-tail (λ u. u ≤ℤ g) v vs all) in
    let greatest : fold int_max v vs ≡ g = omega (arith, ints, a, e, b) in
    let is = least_is (v ∷ vs) m least in
    ap (λ u. quantised step u g) (sym is) ∙ ap (quantised step (least_value (v ∷ vs))) (sym greatest)
    ∙ sym (greatest_quantised step (least_value (v ∷ vs)) v vs some (λ i low. least_below (v ∷ vs) i low))

pub in_list : (P : ℤ → Type 0) (vs : List ℤ) (m : ℤ) → Contains vs m → All P vs → P m
in_list P vs m at all = subst P at.2 (all at.0 m at.1)

-- as the code reads them again
pub reread : (kind : PixelType) (z : ℤ) → InRange kind z → to_z w64 (of_z w64 z) ≡ z
reread I8 z h = to_z-of_z w64 z (omega (arith, ints, h))
reread U8 z h = to_z-of_z w64 z (omega (arith, ints, h))
reread I16 z h = to_z-of_z w64 z (omega (arith, ints, h))
reread U16 z h = to_z-of_z w64 z (omega (arith, ints, h))
reread I32 z h = to_z-of_z w64 z (omega (arith, ints, h))
reread U32 z h = to_z-of_z w64 z (omega (arith, ints, h))

pub small : (kind : PixelType) (z : ℤ) → InRange kind z → IsSmall z
small I8 z h = omega (arith, ints, h)
small U8 z h = omega (arith, ints, h)
small I16 z h = omega (arith, ints, h)
small U16 z h = omega (arith, ints, h)
small I32 z h = omega (arith, ints, h)
small U32 z h = omega (arith, ints, h)
