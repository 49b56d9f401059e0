-- The bits that are written for a number: they are those of a double of half its value, and the only ones.
use Rattle.std.proofs.Common.{◌≡◌, ℕ, ◌+◌, ◌-◌, ◌*◌, ◌/◌, ◌%◌, ◌^◌, ◌<◌, ◌≤◌, zero, suc, refl, sym, ap, ◌∙◌, subst, arith, ⊎_elim, ◌⊎◌, inl, inr}
use Rattle.std.specs.Prelude.{ℤ, pos, negsuc, unsigned_abs, true, false}
use Rattle.std.specs.Int.Signed.{lt_z}
use Rattle.std.proofs.lemmas.Nat.{pow-add, pow_pos, leading_top}
use Rattle.std.proofs.lemmas.Int.{ints}
use Rattle.std.proofs.lemmas.Bool.{cases_eq, cases_lt, cases_order}
use Rattle.std.proofs.Math.Nat.{pow-le-pow_right, mul-le-mul_right, mul-mod_left, eq_of_mul-eq-mul_right}
use Rattle.double_bits.specs.Bits.{top_bit, magnitude_bits, half_bits}
use Rattle.double_bits.specs.Halves.{HalfDouble, signed, sign, exponent, fraction}
use Rattle.double_bits.specs.inside.Magnitude.{IsMagnitude}
use Rattle.double_bits.proofs.Powers.{widened, no_magnitude, magnitude_gives, gives_magnitude, quotient_only, quotient_small}
use Rattle.double_bits.proofs.Signs.{abs-signed, half_from, half_to}

-- ---- the highest bit

pub record IsTop (a j : ℕ) : Type 0 where
  pub low : 2 ^ j ≤ a
  pub high : a < 2 ^ suc j
  pub small : j ≤ 33

pub is_top : (a : ℕ) → 0 < a → a < 2 ^ 34 → IsTop a (top_bit a)
is_top a some below =
    let top = leading_top 64 a some (omega arith) in
    let j = top.0 in
    let is : top_bit a ≡ j = omega (arith, top.1) in
    let small : j ≤ 33 = ⊎_elim
    (λ (few : j < 34). (let t : j ≤ 33 = omega arith in t))
    (λ (many : 34 ≤ j). absurd (let up : 2 ^ 34 ≤ 2 ^ j = pow-le-pow_right (omega arith) many in omega (arith, up, top.2)))
    (cases_lt j 34) in
    subst (IsTop a) (sym is) (record { low = top.2; high = top.3; small = small })

-- the fraction of a number whose highest bit is at j
record HasFraction (a j f : ℕ) : Type 0 where
  pub whole : a * 2 ^ (52 - j) ≡ 2 ^ 52 + f
  pub below : f < 2 ^ 52

has_fraction : (a j : ℕ) → IsTop a j → HasFraction a j (a * 2 ^ (52 - j) - 2 ^ 52)
has_fraction a j top =
    let split : 2 ^ 52 ≡ 2 ^ j * 2 ^ (52 - j) = ap (λ k. 2 ^ k) (let k : 52 ≡ j + (52 - j) = omega (arith, top.small) in k) ∙ pow-add 2 j (52 - j) in
    let more : 2 ^ 53 ≡ 2 ^ suc j * 2 ^ (52 - j) = ap (λ k. 2 ^ k) (let k : 53 ≡ suc j + (52 - j) = omega (arith, top.small) in k) ∙ pow-add 2 (suc j) (52 - j) in
    let low : 2 ^ j * 2 ^ (52 - j) ≤ a * 2 ^ (52 - j) = mul-le-mul_right (2 ^ (52 - j)) top.low in
    let high : (a + 1) * 2 ^ (52 - j) ≤ 2 ^ suc j * 2 ^ (52 - j) = mul-le-mul_right (2 ^ (52 - j)) (omega (arith, top.high)) in
    let some = pow_pos (52 - j) in
    record { whole = omega (arith, split, low); below = omega (arith, more, high, split, low, some) }

-- what the code's shift of a number does, whose highest bit it finds at t
pub record IsShifted (a t : ℕ) : Type 0 where
  pub top : t ≤ 33
  pub kept : a * 2 ^ (52 - t) % 2 ^ 64 ≡ a * 2 ^ (52 - t)
  pub low : 2 ^ 52 ≤ a * 2 ^ (52 - t)
  pub high : a * 2 ^ (52 - t) < 2 ^ 53
  pub bits : magnitude_bits a ≡ (1022 + t) * 2 ^ 52 + (a * 2 ^ (52 - t) - 2 ^ 52)

pub is_shifted : (a t : ℕ) → (a ≡ 0 → ⊥) → a < 2 ^ 34 → t ≡ top_bit a → IsShifted a t
is_shifted zero t some below at = absurd (some refl)
is_shifted (suc n) t some below at =
    let top = is_top (suc n) (omega arith) below in
    let part = has_fraction (suc n) (top_bit (suc n)) top in
    subst (IsShifted (suc n)) (sym at) (record {
      top = top.small;
      kept = omega (arith, part.whole, part.below);
      low = omega (arith, part.whole);
      high = omega (arith, part.whole, part.below);
      bits = refl;
    })

-- ---- the parts of the bits

pub record HasParts (bits s x f : ℕ) : Type 0 where
  pub sign : sign bits ≡ s
  pub exponent : exponent bits ≡ x
  pub fraction : fraction bits ≡ f

has_parts : (s x f : ℕ) → s < 2 → x < 2048 → f < 2 ^ 52 → HasParts (s * 2 ^ 63 + (x * 2 ^ 52 + f)) s x f
has_parts s x f one wide below = record { sign = omega arith; exponent = omega arith; fraction = omega arith }

parts_join : (bits : ℕ) → bits < 2 ^ 64 → bits ≡ sign bits * 2 ^ 63 + (exponent bits * 2 ^ 52 + fraction bits)
parts_join bits below = omega arith

-- ---- the bits that are written

-- for an absolute value: below the sign bit, and its parts are those of this value
pub record IsWritten (a : ℕ) : Type 0 where
  pub below : magnitude_bits a < 2 ^ 63
  pub positive : sign (magnitude_bits a) ≡ 0
  pub negative : sign (2 ^ 63 + magnitude_bits a) ≡ 1
  pub is : IsMagnitude (exponent (magnitude_bits a)) (fraction (magnitude_bits a)) a
  pub is_too : IsMagnitude (exponent (2 ^ 63 + magnitude_bits a)) (fraction (2 ^ 63 + magnitude_bits a)) a

written_of : (a x f : ℕ) → magnitude_bits a ≡ x * 2 ^ 52 + f → x < 2047 → f < 2 ^ 52 → IsMagnitude x f a → IsWritten a
written_of a x f e wide below is =
    let plus = has_parts 0 x f (omega arith) (omega arith) below in
    let minus = has_parts 1 x f (omega arith) (omega arith) below in
    let p : magnitude_bits a ≡ 0 * 2 ^ 63 + (x * 2 ^ 52 + f) = omega (arith, e) in
    let m : 2 ^ 63 + magnitude_bits a ≡ 1 * 2 ^ 63 + (x * 2 ^ 52 + f) = omega (arith, e) in
    record {
      below = omega (arith, e);
      positive = ap sign p ∙ plus.sign;
      negative = ap sign m ∙ minus.sign;
      is = subst (λ y. IsMagnitude y (fraction (magnitude_bits a)) a) (sym (ap exponent p ∙ plus.exponent)) (subst (λ g. IsMagnitude x g a) (sym (ap fraction p ∙ plus.fraction)) is);
      is_too = subst (λ y. IsMagnitude y (fraction (2 ^ 63 + magnitude_bits a)) a) (sym (ap exponent m ∙ minus.exponent)) (subst (λ g. IsMagnitude x g a) (sym (ap fraction m ∙ minus.fraction)) is);
    }

pub is_written : (a : ℕ) → a < 2 ^ 34 → IsWritten a
is_written zero below = written_of 0 0 0 (omega arith) (omega arith) (omega arith) (inl (refl, refl, refl))
is_written (suc n) below =
    let top = is_top (suc n) (omega arith) below in
    let j = top_bit (suc n) in
    let part = has_fraction (suc n) j top in
    let f = suc n * 2 ^ (52 - j) - 2 ^ 52 in
    let shift : 1074 - (1022 + j) ≡ 52 - j = omega arith in
    let product : suc n * 2 ^ (1074 - (1022 + j)) ≡ 2 ^ 52 + f = ap (λ k. suc n * 2 ^ k) shift ∙ part.whole in
    written_of (suc n) (1022 + j) f refl (omega (arith, top.small)) part.below
    (inr (omega arith, omega (arith, top.small), widened 1074 (1022 + j) (2 ^ 52 + f) (suc n) (omega (arith, top.small)) product, below))

pub half_stands : (h : ℤ) → unsigned_abs h < 2 ^ 34 → HalfDouble (half_bits h) h
unfolding half_bits
half_stands (pos a) below =
    let w = is_written a below in
    subst (HalfDouble (magnitude_bits a)) (ap (λ s. signed s a) w.positive) (half_from (magnitude_bits a) a w.is)
half_stands (negsuc n) below =
    let w = is_written (suc n) below in
    subst (HalfDouble (2 ^ 63 + magnitude_bits (suc n))) (ap (λ s. signed s (suc n)) w.negative) (half_from (2 ^ 63 + magnitude_bits (suc n)) (suc n) w.is_too)

pub half_fits : (h : ℤ) → unsigned_abs h < 2 ^ 34 → half_bits h < 2 ^ 64
unfolding half_bits
half_fits (pos a) below = let w = is_written a below in omega (arith, w.below)
half_fits (negsuc n) below = let w = is_written (suc n) below in omega (arith, w.below)

pub half_zero : half_bits (pos 0) ≡ 0
unfolding half_bits
half_zero = refl

-- ---- no other bits

pub record SameParts (x f y g : ℕ) : Type 0 where
  pub exponent : x ≡ y
  pub fraction : f ≡ g

no_less : (x f y g : ℕ) → f < 2 ^ 52 → x < y → (2 ^ 52 + f) * 2 ^ x ≡ (2 ^ 52 + g) * 2 ^ y → ⊥
no_less x f y g below less e =
    let wide : 2 ^ (x + 1) ≤ 2 ^ y = pow-le-pow_right (omega arith) (omega arith) in
    let up : 2 ^ 52 * 2 ^ y ≤ (2 ^ 52 + g) * 2 ^ y = mul-le-mul_right (2 ^ y) (omega arith) in
    let down : (2 ^ 52 + f + 1) * 2 ^ x ≤ 2 ^ 53 * 2 ^ x = mul-le-mul_right (2 ^ x) (omega arith) in
    omega (arith, wide, up, down, e, pow-add 2 x 1, pow_pos x)

same_parts : (x f y g : ℕ) → f < 2 ^ 52 → g < 2 ^ 52 → (2 ^ 52 + f) * 2 ^ x ≡ (2 ^ 52 + g) * 2 ^ y → SameParts x f y g
same_parts x f y g below also e = ⊎_elim
    (λ (same : x ≡ y).
    let product : (2 ^ 52 + f) * 2 ^ x ≡ (2 ^ 52 + g) * 2 ^ x = e ∙ ap (λ k. (2 ^ 52 + g) * 2 ^ k) (sym same) in
    let sum : 2 ^ 52 + f ≡ 2 ^ 52 + g = eq_of_mul-eq-mul_right (2 ^ x) (pow_pos x) (2 ^ 52 + f) (2 ^ 52 + g) product in
    (let r : SameParts x f y g = record { exponent = same; fraction = omega (arith, sum) } in r))
    (λ (other : (x < y) ⊎ (y < x)). ⊎_elim
    (λ (less : x < y). absurd (no_less x f y g below less e))
    (λ (less : y < x). absurd (no_less y g x f also less (sym e)))
    other)
    (cases_order x y)

one_double : (x f y g a : ℕ) → 0 < a → f < 2 ^ 52 → g < 2 ^ 52 → IsMagnitude x f a → IsMagnitude y g a → SameParts x f y g
one_double x f y g a some below also (inl u) v = absurd (omega (arith, u.2))
one_double x f y g a some below also (inr u) (inl v) = absurd (omega (arith, v.2))
one_double x f y g a some below also (inr u) (inr v) = same_parts x f y g below also (sym u.2 ∙ v.2)

sign_once : (s t a : ℕ) → s < 2 → t < 2 → 0 < a → signed s a ≡ signed t a → s ≡ t
sign_once zero zero a one too some e = refl
sign_once zero (suc zero) (suc a) one too some e = cc
sign_once (suc zero) zero (suc a) one too some e = cc
sign_once (suc zero) (suc zero) a one too some e = refl
sign_once s t a one too some e = omega arith

pub other_bits : (bits again : ℕ) (h : ℤ) → bits < 2 ^ 64 → again < 2 ^ 64 → 0 < unsigned_abs h → HalfDouble bits h → HalfDouble again h → bits ≡ again
other_bits bits again h below also some first second =
    let u = half_to bits h first in
    let v = half_to again h second in
    let a : u.0 ≡ v.0 = sym (abs-signed (sign bits) u.0) ∙ ap unsigned_abs (sym u.2 ∙ v.2) ∙ abs-signed (sign again) v.0 in
    let positive : 0 < u.0 = omega (arith, some, ap unsigned_abs u.2, abs-signed (sign bits) u.0) in
    let parts = one_double (exponent bits) (fraction bits) (exponent again) (fraction again) u.0 positive (omega arith) (omega arith) u.1 (subst (IsMagnitude (exponent again) (fraction again)) (sym a) v.1) in
    let signs : sign bits ≡ sign again = sign_once (sign bits) (sign again) u.0 (omega arith) (omega arith) positive (sym u.2 ∙ v.2 ∙ ap (signed (sign again)) (sym a)) in
    parts_join bits below ∙ (λ i. signs i * 2 ^ 63 + (parts.exponent i * 2 ^ 52 + parts.fraction i)) ∙ sym (parts_join again also)

not_zero : (h : ℤ) → (h ≡ pos 0 → ⊥) → 0 < unsigned_abs h
not_zero (pos zero) some = absurd (some refl)
not_zero (pos (suc n)) some = omega arith
not_zero (negsuc n) some = omega arith

pub half_small : (bits : ℕ) (h : ℤ) → HalfDouble bits h → unsigned_abs h < 2 ^ 34
half_small bits h (inl z) = subst (λ k. unsigned_abs k < 2 ^ 34) (sym z.value) (omega arith)
half_small bits h (inr d) = d.small

pub other_double : (bits : ℕ) (h : ℤ) → bits < 2 ^ 64 → (h ≡ pos 0 → ⊥) → HalfDouble bits h → bits ≡ half_bits h
other_double bits h below some is =
    let small = half_small bits h is in
    other_bits bits (half_bits h) h below (half_fits h small) (not_zero h some) is (half_stands h small)

-- ---- bits have a number or none

within : (x f : ℕ) → f < 2 ^ 52 → 0 < x → 1022 ≤ x → x ≤ 1055 → (m : ℕ) → m ≡ (2 ^ 52 + f) / 2 ^ (1074 - x) → (m * 2 ^ (1074 - x) ≡ 2 ^ 52 + f) ⊎ (m * 2 ^ (1074 - x) ≡ 2 ^ 52 + f → ⊥)
    → ((a : ℕ) × IsMagnitude x f a) ⊎ ((a : ℕ) → IsMagnitude x f a → ⊥)
within x f below some low high m is (inl whole) =
    inl (m, gives_magnitude x f m some high (subst (λ k. k < 2 ^ 34) (sym is) (quotient_small (2 ^ 52 + f) (1074 - x) (omega arith) (omega arith))) whole)
within x f below some low high m is (inr broken) = inr (λ a h.
    let back = magnitude_gives x f a some high h in
    let same : (2 ^ 52 + f) / 2 ^ (1074 - x) ≡ a = quotient_only (2 ^ 52 + f) (1074 - x) a (omega (arith, back, pow_pos (1074 - x), ap (λ n. n % 2 ^ (1074 - x)) back, mul-mod_left a (2 ^ (1074 - x)))) back in
    broken (ap (λ k. k * 2 ^ (1074 - x)) (is ∙ same) ∙ back))

magnitude_or_none : (x f : ℕ) → f < 2 ^ 52 → ((a : ℕ) × IsMagnitude x f a) ⊎ ((a : ℕ) → IsMagnitude x f a → ⊥)
magnitude_or_none zero zero below = inl (0, inl (refl, refl, refl))
magnitude_or_none zero (suc f) below = inr (λ a h. no_zero f a h)
  where
    no_zero : (f a : ℕ) → IsMagnitude 0 (suc f) a → ⊥
    no_zero f a (inl z) = omega (arith, z.1)
    no_zero f a (inr n) = omega (arith, n.0)
magnitude_or_none (suc x) f below = ⊎_elim
    (λ (low : suc x < 1022). (let r : ((a : ℕ) × IsMagnitude (suc x) f a) ⊎ ((a : ℕ) → IsMagnitude (suc x) f a → ⊥) = inr (λ a h. no_magnitude (suc x) f a (omega arith) below (inl low) h) in r))
    (λ (some : 1022 ≤ suc x). ⊎_elim
    (λ (high : 1055 < suc x). (let r : ((a : ℕ) × IsMagnitude (suc x) f a) ⊎ ((a : ℕ) → IsMagnitude (suc x) f a → ⊥) = inr (λ a h. no_magnitude (suc x) f a (omega arith) below (inr high) h) in r))
    (λ (few : suc x ≤ 1055). within (suc x) f below (omega arith) some few ((2 ^ 52 + f) / 2 ^ (1074 - suc x)) refl (cases_eq ((2 ^ 52 + f) / 2 ^ (1074 - suc x) * 2 ^ (1074 - suc x)) (2 ^ 52 + f)))
    (cases_lt 1055 (suc x)))
    (cases_lt (suc x) 1022)

half_of : (bits : ℕ) → ((a : ℕ) × IsMagnitude (exponent bits) (fraction bits) a) ⊎ ((a : ℕ) → IsMagnitude (exponent bits) (fraction bits) a → ⊥) → ((h : ℤ) × HalfDouble bits h) ⊎ ((h : ℤ) → HalfDouble bits h → ⊥)
half_of bits (inl some) = inl (signed (sign bits) some.0, half_from bits some.0 some.1)
half_of bits (inr none) = inr (λ h is. let found = half_to bits h is in none found.0 found.1)

pub half_or_none : (bits : ℕ) → ((h : ℤ) × HalfDouble bits h) ⊎ ((h : ℤ) → HalfDouble bits h → ⊥)
half_or_none bits = half_of bits (magnitude_or_none (exponent bits) (fraction bits) (omega arith))

-- ---- a number by its sign, as the code tests it

pub minus_bits : (h : ℤ) (m : ℕ) → lt_z h (pos 0) ≡ true → m ≡ magnitude_bits (unsigned_abs h) → 2 ^ 63 + m ≡ half_bits h
unfolding half_bits
minus_bits (pos n) m less is = absurd (omega (arith, ints, less))
minus_bits (negsuc n) m less is = ap (λ k. 2 ^ 63 + k) is

pub plus_bits : (h : ℤ) (m : ℕ) → lt_z h (pos 0) ≡ false → m ≡ magnitude_bits (unsigned_abs h) → m ≡ half_bits h
unfolding half_bits
plus_bits (pos n) m less is = is
plus_bits (negsuc n) m less is = absurd (omega (arith, ints, less))
