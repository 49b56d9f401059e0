-- A whole number by its sign and its absolute value.
use Rattle.std.proofs.Common.{◌≡◌, ℕ, ◌+◌, ◌-◌, ◌*◌, ◌^◌, ◌<◌, ◌≤◌, zero, suc, refl, sym, ap, ◌∙◌, subst, arith, ⊎_elim, inl, inr, ◌↔◌, Option, Some, None}
use Rattle.std.specs.Prelude.{ℤ, pos, negsuc, ◌*ℤ◌, neg_ℤ, unsigned_abs, IsNone}
use Rattle.std.proofs.lemmas.Int.{unsigned_abs-mul}
use Rattle.std.proofs.lemmas.Nat.{pow_pos}
use Rattle.std.proofs.Math.Nat.{mul-le-mul_right}
use Rattle.double_bits.specs.Halves.{HalfDouble, IsTwiceZero, IsTwiceNormal, signed, sign, exponent, fraction}
use Rattle.double_bits.specs.inside.Magnitude.{IsMagnitude, IsZeroMagnitude, IsNormalMagnitude}

pub abs-signed : (s a : ℕ) → unsigned_abs (signed s a) ≡ a
abs-signed zero a = refl
abs-signed (suc s) zero = refl
abs-signed (suc s) (suc a) = refl

signed-mul : (s a n : ℕ) → signed s a *ℤ pos n ≡ signed s (a * n)
signed-mul zero a n = refl
signed-mul (suc s) zero n = let e : 0 * n ≡ 0 = omega arith in ap pos e ∙ sym (ap (λ k. neg_ℤ (pos k)) e)
signed-mul (suc s) (suc a) n = refl

signed-zero : (s : ℕ) → signed s 0 ≡ pos 0
signed-zero zero = refl
signed-zero (suc s) = refl

-- a number whose multiple has a sign has that sign
sign_of : (s n m : ℕ) (h : ℤ) → 0 < n → 0 < m → h *ℤ pos n ≡ signed s m → h ≡ signed s (unsigned_abs h)
sign_of zero n m (pos a) some more e = refl
sign_of zero n m (negsuc a) some more e =
    let up : 1 * n ≤ suc a * n = mul-le-mul_right n (omega arith) in
    let k : suc a * n ≡ suc (suc a * n - 1) = omega (arith, up) in
    let bad : negsuc (suc a * n - 1) ≡ pos m = ap (λ j. neg_ℤ (pos j)) (sym k) ∙ e in
    cc
sign_of (suc s) n m (pos a) some more e =
    let k : m ≡ suc (m - 1) = omega arith in
    let bad : pos (a * n) ≡ negsuc (m - 1) = e ∙ ap (λ j. neg_ℤ (pos j)) k in
    cc
sign_of (suc s) n m (negsuc a) some more e = refl

pub half_from : (bits a : ℕ) → IsMagnitude (exponent bits) (fraction bits) a → HalfDouble bits (signed (sign bits) a)
half_from bits a known =
    ⊎_elim
    (λ (z : IsZeroMagnitude (exponent bits) (fraction bits) a). inl (record {
      no_exponent = z.0;
      no_fraction = z.1;
      value = ap (signed (sign bits)) z.2 ∙ signed-zero (sign bits);
    }))
    (λ (h : IsNormalMagnitude (exponent bits) (fraction bits) a). inr (record {
      exponent_above = h.0;
      exponent_below = h.1;
      value = signed-mul (sign bits) a (2 ^ 1074) ∙ ap (signed (sign bits)) h.2;
      small = subst (λ n. n < 2 ^ 34) (sym (abs-signed (sign bits) a)) h.3;
    }))
    known

pub half_to : (bits : ℕ) (h : ℤ) → HalfDouble bits h → (a : ℕ) × IsMagnitude (exponent bits) (fraction bits) a × (h ≡ signed (sign bits) a)
half_to bits h known =
    ⊎_elim
    (λ (z : IsTwiceZero bits h). (0, inl (z.no_exponent, z.no_fraction, refl), z.value ∙ sym (signed-zero (sign bits))))
    (λ (d : IsTwiceNormal bits h).
    let m = (2 ^ 52 + fraction bits) * 2 ^ exponent bits in
    let up : 1 * 2 ^ exponent bits ≤ m = mul-le-mul_right (2 ^ exponent bits) (omega arith) in
    let product : unsigned_abs h * 2 ^ 1074 ≡ m = sym (unsigned_abs-mul h (pos (2 ^ 1074))) ∙ ap unsigned_abs d.value ∙ abs-signed (sign bits) m in
    (unsigned_abs h, inr (d.exponent_above, d.exponent_below, product, d.small), sign_of (sign bits) (2 ^ 1074) m h (pow_pos 1074) (omega (arith, up, pow_pos (exponent bits))) d.value))
    known

-- what the magnitude says of the number
pub none_half : (bits : ℕ) → ((a : ℕ) → (◌≡◌ {A = Option ℕ} None (Some a)) ↔ IsMagnitude (exponent bits) (fraction bits) a) → (h : ℤ) → HalfDouble bits h → ⊥
none_half bits exact h known =
    let found = half_to bits h known in
    let bad : ◌≡◌ {A = Option ℕ} None (Some found.0) = (exact found.0).1 found.1 in
    cc

pub some_half : (bits a : ℕ) → ((b : ℕ) → (◌≡◌ {A = Option ℕ} (Some a) (Some b)) ↔ IsMagnitude (exponent bits) (fraction bits) b) → (h : ℤ) → HalfDouble bits h ↔ (signed (sign bits) a ≡ h)
some_half bits a exact h = (
  λ known.
      let found = half_to bits h known in
      let got : ◌≡◌ {A = Option ℕ} (Some a) (Some found.0) = (exact found.0).1 found.1 in
      let same : a ≡ found.0 = cc in
      ap (signed (sign bits)) same ∙ sym found.2,
  λ is. subst (HalfDouble bits) is (half_from bits a ((exact a).0 refl)),
)

-- the answer `Some v` where v is the signed magnitude
pub is_some_half : (bits a : ℕ) → ((b : ℕ) → (◌≡◌ {A = Option ℕ} (Some a) (Some b)) ↔ IsMagnitude (exponent bits) (fraction bits) b) → (v : ℤ) → v ≡ signed (sign bits) a → (h : ℤ) → (◌≡◌ {A = Option ℤ} (Some v) (Some h)) ↔ HalfDouble bits h
is_some_half bits a exact v e h = (
  λ is. let same : v ≡ h = cc in (some_half bits a exact h).1 (sym e ∙ same),
  λ known. ap Some (e ∙ (some_half bits a exact h).0 known),
)

pub is_none_half : (r : Option ℤ) → r ≡ None → IsNone r
is_none_half r e = subst IsNone (sym e) refl

-- where some h is there, it is false that none is
pub not_none_half : (bits a : ℕ) → ((b : ℕ) → (◌≡◌ {A = Option ℕ} (Some a) (Some b)) ↔ IsMagnitude (exponent bits) (fraction bits) b) → ((h : ℤ) → HalfDouble bits h → ⊥) → ⊥
not_none_half bits a exact none = none (signed (sign bits) a) (half_from bits a ((exact a).0 refl))
