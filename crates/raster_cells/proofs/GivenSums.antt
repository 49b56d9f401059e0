-- Sums of an offset and numbers of steps that are put into a raster.
use Rattle.std.proofs.Common.{[], ℤ, pos, ◌-ℤ◌, ◌≤ℤ◌, arith, ℕ, ◌+◌, ◌-◌, ◌*◌, ◌∙◌, ◌+ℤ◌, List, ◌∷◌, min, ◌≡◌, length, replicate, refl, zero, suc, take, drop, map, ap, ◌<◌, get_or}
use Rattle.std.proofs.lemmas.Int.{ints, to_z-of_z}
use Rattle.std.specs.Prelude.{All}
use Rattle.std.proofs.lemmas.List.Elements.{All-nil, All-cons}
use Rattle.std.proofs.lemmas.List.{get_or-map, length-map}
use mir.Syntax.{w64}
use mir.Val.{to_z, of_z}
use Rattle.lane_kernels.specs.Within.{sums_within}
use Rattle.raster_cells.specs.declared.kind.PixelType.{PixelType}
use Rattle.raster_cells.specs.declared.kind.PixelType.TheVariants.{I8, U8, I16, U16, I32, U32}
use Rattle.raster_cells.specs.PixelType.{InRange}
use Rattle.raster_cells.specs.inside.OfAType.{IsOfAType}

-- two values of a type are less than 2 ^ 32 apart
pub near_each_other : (kind : PixelType) (a b : ℤ) → InRange kind a → InRange kind b → (b -ℤ a) ≤ℤ pos 4294967295
near_each_other I8 a b h k = omega (arith, ints, h.0, k.1)
near_each_other U8 a b h k = omega (arith, ints, h.0, k.1)
near_each_other I16 a b h k = omega (arith, ints, h.0, k.1)
near_each_other U16 a b h k = omega (arith, ints, h.0, k.1)
near_each_other I32 a b h k = omega (arith, ints, h.0, k.1)
near_each_other U32 a b h k = omega (arith, ints, h.0, k.1)

-- the sums lie between the offset and the top
pub sums_fit : (kind : PixelType) (qs : List ℕ) (offset : ℤ) (step gap : ℕ) → InRange kind offset → InRange kind (offset +ℤ pos gap) → All (InRange kind) (sums_within qs offset step gap)
sums_fit kind [] offset step gap h k = All-nil (InRange kind)
sums_fit kind (q ∷ qs) offset step gap h k =
    All-cons (InRange kind) (offset +ℤ pos (min (q * step) gap)) (sums_within qs offset step gap)
    (omega (arith, ints, h.0), omega (arith, ints, k.1)) (sums_fit kind qs offset step gap h k)

-- where no step leads on, each sum is the offset
pub sums_flat : (qs : List ℕ) (offset : ℤ) (step : ℕ) → sums_within qs offset step 0 ≡ replicate (length qs) offset
sums_flat [] offset step = refl
sums_flat (q ∷ qs) offset step =
    let first : offset +ℤ pos (min (q * step) 0) ≡ offset = omega (arith, ints) in
    let rest = sums_flat qs offset step in
    (λ i. first i ∷ rest i)

-- ---- some of them

pub map_cut : (f : ℕ → ℤ) (qs : List ℕ) (n count : ℕ) → map f (take count (drop n qs)) ≡ take count (drop n (map f qs))
map_cut f [] zero zero = refl
map_cut f [] zero (suc count) = refl
map_cut f [] (suc n) zero = refl
map_cut f [] (suc n) (suc count) = refl
map_cut f (q ∷ qs) (suc n) count = map_cut f qs n count
map_cut f (q ∷ qs) zero zero = refl
map_cut f (q ∷ qs) zero (suc count) = ap (λ vs. f q ∷ vs) (map_cut f qs zero count)

pub sums_cut : (qs : List ℕ) (offset : ℤ) (step gap n count : ℕ) → sums_within (take count (drop n qs)) offset step gap ≡ take count (drop n (sums_within qs offset step gap))
sums_cut qs offset step gap n count = map_cut (λ q. offset +ℤ pos (min (q * step) gap)) qs n count

pub sums_of_run : (qs : List ℕ) (offset : ℤ) (step gap n count : ℕ) → sums_within (take (n + count - n) (drop n qs)) offset step gap ≡ take count (drop n (sums_within qs offset step gap))
sums_of_run qs offset step gap n count =
    let many : n + count - n ≡ count = omega arith in
    ap (λ m. sums_within (take m (drop n qs)) offset step gap) many ∙ sums_cut qs offset step gap n count

pub sum_at : (qs : List ℕ) (offset : ℤ) (step gap i : ℕ) → i < length qs → get_or (sums_within qs offset step gap) i (pos 0) ≡ offset +ℤ pos (min (get_or qs i 0 * step) gap)
sum_at qs offset step gap i less = get_or-map (λ q. offset +ℤ pos (min (q * step) gap)) qs i 0 (pos 0) less

pub length-sums : (qs : List ℕ) (offset : ℤ) (step gap : ℕ) → length (sums_within qs offset step gap) ≡ length qs
length-sums qs offset step gap = length-map qs (λ q. offset +ℤ pos (min (q * step) gap))

pub of_type_bits : (z : ℤ) → IsOfAType z → to_z w64 (of_z w64 z) ≡ z
of_type_bits z h = to_z-of_z w64 z (omega (arith, ints, h.0, h.1))
