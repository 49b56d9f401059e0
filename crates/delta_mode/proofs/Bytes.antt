-- The bytes of values of one byte, and their symbols.
use Rattle.std.proofs.Common.{◌≡◌, ℕ, ℤ, pos, negsuc, ◌+ℤ◌, ◌+◌, ◌-◌, ◌*◌, ◌%◌, ◌≤◌, suc, List, [], ◌∷◌, ◌++◌, map, refl, sym, ap, ◌∙◌, subst, arith}
use Rattle.std.specs.Prelude.{All}
use Rattle.std.proofs.lemmas.Int.{ints}
use Rattle.std.proofs.lemmas.List.Concat.{flat_map-cons}
use Rattle.std.proofs.lemmas.List.Elements.{All-head, All-tail}
use Rattle.raster_cells.specs.declared.kind.PixelType.{PixelType}
use Rattle.raster_cells.specs.declared.kind.PixelType.TheVariants.{I8, U8}
use Rattle.raster_cells.specs.PixelType.{InRange, bytes_of, value_bytes, complement_of}
use Rattle.raster_cells.specs.Values.{values_bytes}
use Rattle.delta_mode.specs.Symbols.{IsByteType, symbol_of}
use Rattle.delta_mode.proofs.Numbers.{by_byte, symbol-is}

-- the symbol of an i8 value is its byte with 128 added, modulo 256
i8_symbol : (v : ℤ) → InRange I8 v → (complement_of 1 v % 256 + 128) % 256 ≡ symbol_of I8 v
i8_symbol (pos m) h =
    let e : (pos m +ℤ pos 128) +ℤ pos (2 * 256) ≡ pos (m + 640) = omega (arith, ints) in
    (let n : (m % 256 + 128) % 256 ≡ (m + 640) % 256 = omega arith in n) ∙ sym (symbol-is I8 (pos m) (m + 640) e)
i8_symbol (negsuc m) h =
    let low : m ≤ 127 = omega (arith, ints, h.0) in
    let e : (negsuc m +ℤ pos 128) +ℤ pos (2 * 256) ≡ pos (639 - m) = omega (arith, ints, low) in
    (let n : ((256 - suc m) % 256 + 128) % 256 ≡ (639 - m) % 256 = omega (arith, low) in n) ∙ sym (symbol-is I8 (negsuc m) (639 - m) e)

u8_symbol : (v : ℤ) → InRange U8 v → complement_of 1 v % 256 ≡ symbol_of U8 v
u8_symbol (pos m) h =
    let e : (pos m +ℤ pos 0) +ℤ pos (2 * 256) ≡ pos (m + 512) = omega (arith, ints) in
    (let n : m % 256 ≡ (m + 512) % 256 = omega arith in n) ∙ sym (symbol-is U8 (pos m) (m + 512) e)
u8_symbol (negsuc m) h = absurd (omega (arith, ints, h.0))

-- one byte stands for a value
i8_byte : (v : ℤ) → value_bytes I8 v ≡ complement_of 1 v % 256 ∷ []
i8_byte v = refl

u8_byte : (v : ℤ) → value_bytes U8 v ≡ complement_of 1 v % 256 ∷ []
u8_byte v = refl

pub i8_symbols : (vs : List ℤ) → All (InRange I8) vs → map (λ b. (b + 128) % 256) (values_bytes I8 vs) ≡ map (symbol_of I8) vs
i8_symbols [] h = refl
i8_symbols (v ∷ vs) h =
    ap (map (λ b. (b + 128) % 256)) (flat_map-cons (value_bytes I8) v vs ∙ ap (λ (bs : List ℕ). bs ++ values_bytes I8 vs) (i8_byte v))
    ∙ (λ i. i8_symbol v (All-head (InRange I8) v vs h) i ∷ i8_symbols vs (All-tail (InRange I8) v vs h) i)

pub u8_symbols : (vs : List ℤ) → All (InRange U8) vs → values_bytes U8 vs ≡ map (symbol_of U8) vs
u8_symbols [] h = refl
u8_symbols (v ∷ vs) h =
    flat_map-cons (value_bytes U8) v vs ∙ ap (λ (bs : List ℕ). bs ++ values_bytes U8 vs) (u8_byte v)
    ∙ (λ i. u8_symbol v (All-head (InRange U8) v vs h) i ∷ u8_symbols vs (All-tail (InRange U8) v vs h) i)

pub plain_signed : (kind : PixelType) (vs : List ℤ) → kind ≡ I8 → All (InRange kind) vs → map (λ b. (b + 128) % 256) (values_bytes kind vs) ≡ map (symbol_of kind) vs
plain_signed kind vs e = subst (λ (k : PixelType). All (InRange k) vs → map (λ b. (b + 128) % 256) (values_bytes k vs) ≡ map (symbol_of k) vs) (sym e) (i8_symbols vs)

pub plain_unsigned : (kind : PixelType) (vs : List ℤ) → IsByteType kind → (kind ≡ I8 → ⊥) → All (InRange kind) vs → values_bytes kind vs ≡ map (symbol_of kind) vs
plain_unsigned kind vs byte not_i8 h =
    by_byte (λ k. (k ≡ I8 → ⊥) → All (InRange k) vs → values_bytes k vs ≡ map (symbol_of k) vs) (λ no h. absurd (no refl)) (λ no. u8_symbols vs) kind byte not_i8 h

-- as many bytes as values
pub one_each : (kind : PixelType) (n m : ℕ) → IsByteType kind → n ≡ m → n ≡ m * bytes_of kind
one_each kind n m byte e = subst (λ b. n ≡ m * b) (sym byte) (omega (arith, e))
