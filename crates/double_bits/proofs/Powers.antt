-- Products with powers of two.
use Rattle.std.proofs.Common.{◌≡◌, ℕ, ◌+◌, ◌-◌, ◌*◌, ◌/◌, ◌%◌, ◌^◌, ◌<◌, ◌≤◌, zero, suc, sym, ap, ◌∙◌, arith, ⊎_elim, ◌⊎◌, inr}
use Rattle.std.proofs.lemmas.Nat.{pow-add, pow_pos, div_below}
use Rattle.std.proofs.Math.Nat.{pow-le-pow_right, mul-le-mul_right, mul-le-mul_left, mul_assoc, eq_of_mul-eq-mul_right, mul-mod_left}
use Rattle.double_bits.specs.inside.Magnitude.{IsMagnitude, IsZeroMagnitude, IsNormalMagnitude}

-- x is too small for any whole number but 0
pub too_small : (n x m a : ℕ) → x + 53 ≤ n → m < 2 ^ 53 → 0 < m → a * 2 ^ n ≡ m * 2 ^ x → ⊥
too_small n x m zero h low some e =
    let up : 1 * 2 ^ x ≤ m * 2 ^ x = mul-le-mul_right (2 ^ x) (omega arith) in
    omega (arith, up, e, pow_pos x)
too_small n x m (suc a) h low some e =
    let wide : 2 ^ (x + 53) ≤ 2 ^ n = pow-le-pow_right (omega arith) h in
    let one : 1 * 2 ^ n ≤ suc a * 2 ^ n = mul-le-mul_right (2 ^ n) (omega arith) in
    let up : (m + 1) * 2 ^ x ≤ 2 ^ 53 * 2 ^ x = mul-le-mul_right (2 ^ x) (omega arith) in
    omega (arith, wide, one, up, e, pow-add 2 x 53, pow_pos x)

-- x is too great for a number below 2 ^ 34
pub too_great : (n x m a : ℕ) → n ≤ x + 18 → 2 ^ 52 ≤ m → a < 2 ^ 34 → a * 2 ^ n ≡ m * 2 ^ x → ⊥
too_great n x m a h low below e =
    let wide : 2 ^ (34 + n) ≤ 2 ^ (52 + x) = pow-le-pow_right (omega arith) (omega arith) in
    let up : 2 ^ 52 * 2 ^ x ≤ m * 2 ^ x = mul-le-mul_right (2 ^ x) low in
    let down : (a + 1) * 2 ^ n ≤ 2 ^ 34 * 2 ^ n = mul-le-mul_right (2 ^ n) (omega arith) in
    omega (arith, wide, up, down, e, pow-add 2 34 n, pow-add 2 52 x, pow_pos n)

-- a power on both sides
pub cancelled : (n x m a : ℕ) → x ≤ n → a * 2 ^ n ≡ m * 2 ^ x → a * 2 ^ (n - x) ≡ m
cancelled n x m a h e =
    let split : 2 ^ n ≡ 2 ^ (n - x) * 2 ^ x = ap (λ k. 2 ^ k) (let k : n ≡ n - x + x = omega arith in k) ∙ pow-add 2 (n - x) x in
    eq_of_mul-eq-mul_right (2 ^ x) (pow_pos x) _ _ (mul_assoc a (2 ^ (n - x)) (2 ^ x) ∙ ap (λ k. a * k) (sym split) ∙ e)

pub widened : (n x m a : ℕ) → x ≤ n → a * 2 ^ (n - x) ≡ m → a * 2 ^ n ≡ m * 2 ^ x
widened n x m a h e =
    let split : 2 ^ n ≡ 2 ^ (n - x) * 2 ^ x = ap (λ k. 2 ^ k) (let k : n ≡ n - x + x = omega arith in k) ∙ pow-add 2 (n - x) x in
    ap (λ k. a * k) split ∙ sym (mul_assoc a (2 ^ (n - x)) (2 ^ x)) ∙ ap (λ k. k * 2 ^ x) e

-- an exponent outside 1022 to 1055 has no whole number below 2 ^ 34
pub no_magnitude : (x f a : ℕ) → 0 < x → f < 2 ^ 52 → (x < 1022) ⊎ (1055 < x) → IsMagnitude x f a → ⊥
no_magnitude x f a some wide out known =
    ⊎_elim
    (λ (z : IsZeroMagnitude x f a). absurd (omega (arith, z.0)))
    (λ (h : IsNormalMagnitude x f a).
    ⊎_elim
    (λ (low : x < 1022). too_small 1074 x (2 ^ 52 + f) a (omega arith) (omega arith) (omega arith) h.2)
    (λ (high : 1055 < x). too_great 1074 x (2 ^ 52 + f) a (omega arith) (omega arith) h.3 h.2)
    out)
    known

-- within the range a number is one exactly where it gives the fraction back
pub magnitude_gives : (x f a : ℕ) → 0 < x → x ≤ 1055 → IsMagnitude x f a → a * 2 ^ (1074 - x) ≡ 2 ^ 52 + f
magnitude_gives x f a some high known =
    ⊎_elim
    (λ (z : IsZeroMagnitude x f a). absurd (omega (arith, z.0)))
    (λ (h : IsNormalMagnitude x f a). cancelled 1074 x (2 ^ 52 + f) a (omega arith) h.2)
    known

pub gives_magnitude : (x f a : ℕ) → 0 < x → x ≤ 1055 → a < 2 ^ 34 → a * 2 ^ (1074 - x) ≡ 2 ^ 52 + f → IsMagnitude x f a
gives_magnitude x f a some high below e = inr (some, omega arith, widened 1074 x (2 ^ 52 + f) a (omega arith) e, below)

-- a shift to the right and back loses nothing exactly where the power divides the number
pub unshifted : (m k : ℕ) → m < 2 ^ 53 → m / 2 ^ k * 2 ^ k % 2 ^ 64 ≡ m → m / 2 ^ k * 2 ^ k ≡ m
unshifted m k below e = omega (arith, pow_pos k, e)

pub quotient_only : (m k a : ℕ) → m / 2 ^ k * 2 ^ k ≡ m → a * 2 ^ k ≡ m → m / 2 ^ k ≡ a
quotient_only m k a back is = eq_of_mul-eq-mul_right (2 ^ k) (pow_pos k) (m / 2 ^ k) a (back ∙ sym is)

pub kept : (m k a : ℕ) → m < 2 ^ 53 → a * 2 ^ k ≡ m → m / 2 ^ k * 2 ^ k % 2 ^ 64 ≡ m
kept m k a below is = omega (arith, pow_pos k, is, ap (λ n. n % 2 ^ k) is, mul-mod_left a (2 ^ k))

-- the quotient of a fraction's number is below 2 ^ 34
pub quotient_small : (m k : ℕ) → 19 ≤ k → m < 2 ^ 53 → m / 2 ^ k < 2 ^ 34
quotient_small m k wide below = div_below m (2 ^ k) (2 ^ 34) (pow_pos k) (
    let up : 2 ^ 19 ≤ 2 ^ k = pow-le-pow_right (omega arith) wide in
    let more : 2 ^ 34 * 2 ^ 19 ≤ 2 ^ 34 * 2 ^ k = mul-le-mul_left (2 ^ 34) up in
    omega (arith, more))
