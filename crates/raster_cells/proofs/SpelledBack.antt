-- A value comes back of its bytes.
use Rattle.std.proofs.Common.{◌≡◌, ℕ, ◌<◌, true, cond, ap, arith, ◌+◌, ◌-◌, suc, false, ◌∙◌, refl, ◌^◌, List, ◌++◌}
use Rattle.std.specs.Prelude.{pos, ◌-ℤ◌, nat_lt, negsuc, ℤ}
use Rattle.std.proofs.lemmas.Bool.Decides.{nat_tests}
use Rattle.std.proofs.lemmas.Int.{ints}
use Rattle.byteorder.specs.Endian.{little_number}
use Rattle.byteorder.specs.Numbers.{little_number-reads_back}
use Rattle.raster_cells.specs.declared.kind.PixelType.{PixelType}
use Rattle.raster_cells.specs.declared.kind.PixelType.TheVariants.{I8, U8, I16, U16, I32, U32}
use Rattle.raster_cells.specs.PixelType.{bytes_of, InRange, value_of, complement_of, value_bytes}

kept_pos : (half whole m : ℕ) → m < half → cond (nat_lt m half) (pos m) (pos m -ℤ pos whole) ≡ pos m
kept_pos half whole m below = ap (λ b. cond b (pos m) (pos m -ℤ pos whole)) (let t : nat_lt m half ≡ true = grind (arith, nat_tests) in t)

kept_neg : (half whole m : ℕ) → half + half ≡ whole → m < half → cond (nat_lt (whole - suc m) half) (pos (whole - suc m)) (pos (whole - suc m) -ℤ pos whole) ≡ negsuc m
kept_neg half whole m twice below =
    ap (λ b. cond b (pos (whole - suc m)) (pos (whole - suc m) -ℤ pos whole)) (let t : nat_lt (whole - suc m) half ≡ false = grind (arith, nat_tests) in t)
    ∙ (let t : pos (whole - suc m) -ℤ pos whole ≡ negsuc m = omega (arith, ints) in t)

value_back : (kind : PixelType) (v : ℤ) → InRange kind v → value_of kind (complement_of (bytes_of kind) v) ≡ v
value_back I8 (pos m) h = kept_pos 128 256 m (omega (arith, ints))
value_back I8 (negsuc m) h = kept_neg 128 256 m refl (omega (arith, ints))
value_back U8 (pos m) h = refl
value_back U8 (negsuc m) h = absurd (let no : ⊥ = omega (arith, ints) in no)
value_back I16 (pos m) h = kept_pos 32768 65536 m (omega (arith, ints))
value_back I16 (negsuc m) h = kept_neg 32768 65536 m refl (omega (arith, ints))
value_back U16 (pos m) h = refl
value_back U16 (negsuc m) h = absurd (let no : ⊥ = omega (arith, ints) in no)
value_back I32 (pos m) h = kept_pos 2147483648 4294967296 m (omega (arith, ints))
value_back I32 (negsuc m) h = kept_neg 2147483648 4294967296 m refl (omega (arith, ints))
value_back U32 (pos m) h = refl
value_back U32 (negsuc m) h = absurd (let no : ⊥ = omega (arith, ints) in no)

value_fits : (kind : PixelType) (v : ℤ) → InRange kind v → complement_of (bytes_of kind) v < 256 ^ bytes_of kind
value_fits I8 (pos m) h = omega (arith, ints)
value_fits I8 (negsuc m) h = omega (arith, ints)
value_fits U8 (pos m) h = omega (arith, ints)
value_fits U8 (negsuc m) h = omega (arith, ints)
value_fits I16 (pos m) h = omega (arith, ints)
value_fits I16 (negsuc m) h = omega (arith, ints)
value_fits U16 (pos m) h = omega (arith, ints)
value_fits U16 (negsuc m) h = omega (arith, ints)
value_fits I32 (pos m) h = omega (arith, ints)
value_fits I32 (negsuc m) h = omega (arith, ints)
value_fits U32 (pos m) h = omega (arith, ints)
value_fits U32 (negsuc m) h = omega (arith, ints)

-- the bytes of a value stand for it
pub spelled_back : (kind : PixelType) (v : ℤ) (rest : List ℕ) → InRange kind v → value_of kind (little_number (bytes_of kind) (value_bytes kind v ++ rest)) ≡ v
spelled_back kind v rest h = ap (value_of kind) (little_number-reads_back (bytes_of kind) (complement_of (bytes_of kind) v) rest (value_fits kind v h)) ∙ value_back kind v h
