-- Numbers of 64 bits that stand for values of bytes, and lists of them.
use Rattle.std.proofs.Common.{◌≡◌, ◌≢◌, ℕ, ℤ, pos, negsuc, ◌+ℤ◌, ◌-ℤ◌, ◌≤ℤ◌, ◌+◌, ◌*◌, ◌%◌, ◌<◌, ◌≤◌, List, length, set, refl, sym, ap, ◌∙◌, subst, arith, inl, inr, below_more}
use Rattle.std.specs.Prelude.{unsigned_abs}
use Rattle.std.specs.Int.{int_rem_euclid}
use Rattle.std.proofs.lemmas.Bool.{cases_lt}
use Rattle.std.proofs.lemmas.Int.{ints, to_z-of_z, int_rem_euclid_is}
use Rattle.std.proofs.lemmas.List.{get_or-set_same, get_or-set_other, get_or_past}
use mir.Syntax.{w64}
use mir.Val.{to_z, of_z}
use Rattle.raster_cells.specs.declared.kind.PixelType.{PixelType}
use Rattle.raster_cells.specs.PixelType.{InRange}
use Rattle.delta_mode.specs.Symbols.{IsByteType, bias, symbol_of}
use Rattle.delta_mode.specs.inside.Pieces.{biased, IsSmall, value_of_place}
use Rattle.delta_mode.proofs.Marks.{zero_in_range}
use Rattle.delta_mode.proofs.Numbers.{by_byte, low_bias}

-- a small number keeps its bits
pub kept : (z : ℤ) → negsuc 1023 ≤ℤ z → z ≤ℤ pos 1023 → to_z w64 (of_z w64 z) ≡ z
kept z low high = to_z-of_z w64 z (omega (arith, ints, low, high))

pub small : (kind : PixelType) (z : ℤ) → IsByteType kind → InRange kind z → IsSmall z
small kind z byte = by_byte (λ k. InRange k z → IsSmall z) (λ h. (omega (arith, ints, h.0), omega (arith, ints, h.1))) (λ h. (omega (arith, ints, h.0), omega (arith, ints, h.1))) kind byte

pub stays : (z : ℤ) → IsSmall z → to_z w64 (of_z w64 z) ≡ z
stays z h = kept z (omega (arith, ints, h.0)) (omega (arith, ints, h.1))

pub same : (kind : PixelType) (z : ℤ) → IsByteType kind → InRange kind z → to_z w64 (of_z w64 z) ≡ z
same kind z byte h = stays z (small kind z byte h)

pub small_bits : (kind : PixelType) (z : ℤ) → IsByteType kind → InRange kind z → IsSmall (to_z w64 (of_z w64 z))
small_bits kind z byte h = subst IsSmall (sym (same kind z byte h)) (small kind z byte h)

pub small_bias : (kind : PixelType) → IsSmall (pos (bias kind))
small_bias kind = (omega (arith, ints), omega (arith, ints, low_bias kind))

pub symbol-by : (kind : PixelType) (z : ℤ) → symbol_of kind z ≡ biased (pos (bias kind)) z
unfolding symbol_of
symbol-by kind z = refl

-- ---- one value by its symbol

pub value_symbol : (b p x : ℤ) (s : ℕ) → s < 256 → IsSmall b → IsSmall p → x ≡ int_rem_euclid (pos s +ℤ p) (pos 256) → biased b ((x -ℤ b) -ℤ p) ≡ s
value_symbol b p x s lt hb hp e =
    let m = unsigned_abs ((pos s +ℤ p) +ℤ pos (2 * 256)) in
    let is_m : (pos s +ℤ p) +ℤ pos (2 * 256) ≡ pos m = omega (arith, ints, hp.0, hp.1, lt) in
    let is_x : x ≡ pos (m % 256) = e ∙ int_rem_euclid_is (pos s +ℤ p) (pos 256) 256 2 m (omega arith) refl is_m in
    let n = unsigned_abs ((((x -ℤ b) -ℤ p) +ℤ b) +ℤ pos (2 * 256)) in
    let is_n : (((x -ℤ b) -ℤ p) +ℤ b) +ℤ pos (2 * 256) ≡ pos n = omega (arith, ints, is_x, hp.0, hp.1, hb.0, hb.1) in
    ap unsigned_abs (int_rem_euclid_is (((x -ℤ b) -ℤ p) +ℤ b) (pos 256) 256 2 n (omega arith) refl is_n)
    ∙ (let f : n % 256 ≡ s = omega (arith, ints, is_m, is_x, is_n, lt) in f)

-- ---- lists of values

pub fits_more : (kind : PixelType) (out : List ℤ) (i : ℕ) (v : ℤ) → i < length out → ((k : ℕ) → k < i → InRange kind (value_of_place out k)) → InRange kind v
    → (k : ℕ) → k < i + 1 → InRange kind (value_of_place (set out i v) k)
fits_more kind out i v room before here = below_more (λ k. InRange kind (value_of_place (set out i v) k)) i
    (λ k lt. let ne : k ≢ i = omega (arith, lt) in subst (InRange kind) (sym (get_or-set_other out i k v (pos 0) ne)) (before k lt))
    (subst (InRange kind) (sym (get_or-set_same out i v (pos 0) room)) here)

pub all_fit : (kind : PixelType) (out : List ℤ) (n : ℕ) → length out ≤ n → ((k : ℕ) → k < n → InRange kind (value_of_place out k)) → (k : ℕ) → InRange kind (value_of_place out k)
all_fit kind out n le each k = elim (cases_lt k n) [
  | inl lt ↦ each k lt
  | inr ge ↦ subst (InRange kind) (sym (get_or_past out k (pos 0) (omega (arith, le, ge)))) (zero_in_range kind)
]
