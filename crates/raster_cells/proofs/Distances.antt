-- Values as distances above the least of their type.
use Rattle.std.proofs.Common.{[], ◌≡◌, to_z, of_z, ◌-ℤ◌, arith, ◌<◌, ◌^◌, ◌≤ℤ◌, pos, ℕ, ◌+ℤ◌, map, List, ◌∷◌, refl, ap, ◌∙◌}
use Rattle.std.specs.Prelude.{ℤ, unsigned_abs, All}
use Rattle.std.proofs.lemmas.Int.{ints}
use Rattle.std.proofs.lemmas.List.Elements.{All-map, All-weaker, All-head, All-tail}
use mir.Syntax.{w64}
use Rattle.raster_cells.specs.declared.kind.PixelType.{PixelType}
use Rattle.raster_cells.specs.declared.kind.PixelType.TheVariants.{I8, U8, I16, U16, I32, U32}
use Rattle.raster_cells.specs.PixelType.{InRange, type_least}
use Rattle.raster_cells.specs.Distance.{value_above, distance_of, ValuesHaveDistances, IsDistance, DistancesStand}

-- ---- how a program tells the distance

-- the difference as a number of 64 bits
pub difference_is : (kind : PixelType) (v m : ℤ) → InRange kind v → m ≡ type_least kind → to_z w64 (of_z w64 (to_z w64 (of_z w64 v) -ℤ to_z w64 (of_z w64 m))) ≡ v -ℤ type_least kind
difference_is I8 v m h e = omega (arith, ints)
difference_is U8 v m h e = omega (arith, ints)
difference_is I16 v m h e = omega (arith, ints)
difference_is U16 v m h e = omega (arith, ints)
difference_is I32 v m h e = omega (arith, ints)
difference_is U32 v m h e = omega (arith, ints)

-- it is not below 0, and one of 32 bits
pub difference_fits : (kind : PixelType) (v : ℤ) → InRange kind v → (n : ℤ) → n ≡ v -ℤ type_least kind → (pos 0 ≤ℤ n) × (unsigned_abs n < 2 ^ 32)
difference_fits I8 v h n e = (omega (arith, ints), omega (arith, ints))
difference_fits U8 v h n e = (omega (arith, ints), omega (arith, ints))
difference_fits I16 v h n e = (omega (arith, ints), omega (arith, ints))
difference_fits U16 v h n e = (omega (arith, ints), omega (arith, ints))
difference_fits I32 v h n e = (omega (arith, ints), omega (arith, ints))
difference_fits U32 v h n e = (omega (arith, ints), omega (arith, ints))

-- ---- and back

-- the sum of the least and a distance as a number of 64 bits
pub sum_is : (kind : PixelType) (m z : ℤ) (n : ℕ) → m ≡ type_least kind → z ≡ pos n → n < 2 ^ 32 → to_z w64 (of_z w64 (to_z w64 (of_z w64 m) +ℤ to_z w64 (of_z w64 z))) ≡ value_above kind n
sum_is I8 m z n e is h = omega (arith, ints)
sum_is U8 m z n e is h = omega (arith, ints)
sum_is I16 m z n e is h = omega (arith, ints)
sum_is U16 m z n e is h = omega (arith, ints)
sum_is I32 m z n e is h = omega (arith, ints)
sum_is U32 m z n e is h = omega (arith, ints)

pub value_back : (kind : PixelType) (v : ℤ) → InRange kind v → value_above kind (distance_of kind v) ≡ v
value_back I8 v h = omega (arith, ints)
value_back U8 v h = omega (arith, ints)
value_back I16 v h = omega (arith, ints)
value_back U16 v h = omega (arith, ints)
value_back I32 v h = omega (arith, ints)
value_back U32 v h = omega (arith, ints)

pub small : ValuesHaveDistances
small I8 v h = omega (arith, ints)
small U8 v h = omega (arith, ints)
small I16 v h = omega (arith, ints)
small U16 v h = omega (arith, ints)
small I32 v h = omega (arith, ints)
small U32 v h = omega (arith, ints)

-- so are those of a list
pub all_small : (kind : PixelType) (vs : List ℤ) → All (InRange kind) vs → All (IsDistance kind) (map (distance_of kind) vs)
all_small kind vs h = All-map (IsDistance kind) (distance_of kind) vs (All-weaker (InRange kind) (λ v. IsDistance kind (distance_of kind v)) (small kind) vs h)

pub stand : DistancesStand
stand kind [] h = refl
stand kind (v ∷ vs) h =
    ap (λ w. w ∷ map (value_above kind) (map (distance_of kind) vs)) (value_back kind v (All-head (InRange kind) v vs h))
    ∙ ap (λ ws. v ∷ ws) (stand kind vs (All-tail (InRange kind) v vs h))
