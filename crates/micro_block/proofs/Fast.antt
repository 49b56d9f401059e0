-- What a fast body computes is what the definitions say.
use Rattle.std.proofs.Common.{◌≡◌, ℕ, suc, ◌+◌, ◌-◌, ◌*◌, ◌/◌, ◌^◌, ◌<◌, ◌≤◌, ℤ, pos, ◌-ℤ◌, ◌≤ℤ◌, max, List, [], ◌∷◌, length, get_or, map, sym, ap, ◌∙◌, arith}
use Rattle.std.specs.Prelude.{unsigned_abs, fold, ◌↔◌}
use Rattle.std.specs.Int.{int_max}
use Rattle.std.proofs.lemmas.Int.{ints, clamps, by_lt_z}
use Rattle.std.proofs.lemmas.Nat.{le-div, div_below, mul-lt, pow-add}
use Rattle.std.proofs.Math.Nat.{mul-div-mul_left, lt-div-mul-add, div-mul-le_self, mul-le-mul_right, lt_of_mul-lt-mul_right, le_of_mul-le-mul_right}
use Rattle.bit_stuff.specs.Simple.{greatest_number}
use Rattle.micro_block.specs.Near.{quantised}

-- ---- one division

pub half : (x y : ℕ) → 2 * x / (2 * y) ≡ x / y
half x y = mul-div-mul_left x y (omega arith)

-- the quotient is the one number between the bounds
quotient_is : (x s a : ℕ) → a * s ≤ x → x < a * s + s → 0 < s → x / s ≡ a
quotient_is x s a low high some =
    let below = le-div a x s some low in
    let above : x / s < a + 1 = div_below x s (a + 1) some (let t : (a + 1) * s ≡ a * s + s = omega arith in omega (arith, high, t)) in
    omega (arith, below, above)

pub step_one : (m v : ℤ) → quantised 1 m v ≡ unsigned_abs (v -ℤ m)
step_one m v = let d = unsigned_abs (v -ℤ m) in omega arith

-- ---- the greatest

div_rises : (x y s : ℕ) → 0 < s → x ≤ y → x / s ≤ y / s
div_rises x y s some h = let low = div-mul-le_self x s in le-div (x / s) y s some (omega (arith, low, h))

pub quantised_rises : (step : ℕ) (m v w : ℤ) → 0 < step → m ≤ℤ v → v ≤ℤ w → quantised step m v ≤ quantised step m w
quantised_rises step m v w some low high = div_rises (2 * unsigned_abs (v -ℤ m) + step) (2 * unsigned_abs (w -ℤ m) + step) (2 * step) (omega (arith, some)) (omega (arith, ints))

-- the quantised greatest is the greatest quantised
max_of : (step : ℕ) (m a v : ℤ) → 0 < step → m ≤ℤ a → m ≤ℤ v → quantised step m (int_max a v) ≡ max (quantised step m a) (quantised step m v)
max_of step m a v some ha hv =
    by_lt_z a v
    (λ lt. let h : a ≤ℤ v = omega (arith, ints) in let e : int_max a v ≡ v = omega (arith, ints, clamps) in let r = quantised_rises step m a v some ha h in ap (quantised step m) e ∙ (let t : quantised step m v ≡ max (quantised step m a) (quantised step m v) = omega (arith, r) in t))
    (λ h. let e : int_max a v ≡ a = omega (arith, ints, clamps) in let r = quantised_rises step m v a some hv h in ap (quantised step m) e ∙ (let t : quantised step m a ≡ max (quantised step m a) (quantised step m v) = omega (arith, r) in t))

greatest_from : (step : ℕ) (m a : ℤ) (vs : List ℤ) → 0 < step → m ≤ℤ a → ((i : ℕ) → i < length vs → m ≤ℤ get_or vs i (pos 0))
    → quantised step m (fold int_max a vs) ≡ max (quantised step m a) (greatest_number (map (quantised step m) vs))
greatest_from step m a [] some h each = omega arith
greatest_from step m a (v ∷ vs) some h each =
    let hv = each 0 (omega arith) in
    greatest_from step m (int_max a v) vs some (omega (arith, ints, clamps, h)) (λ i b. each (suc i) (omega (arith, b)))
    ∙ ap (λ n. max n (greatest_number (map (quantised step m) vs))) (max_of step m a v some h hv)
    ∙ (let t : max (max (quantised step m a) (quantised step m v)) (greatest_number (map (quantised step m) vs)) ≡ max (quantised step m a) (max (quantised step m v) (greatest_number (map (quantised step m) vs))) = omega arith in t)

pub greatest_quantised : (step : ℕ) (m v : ℤ) (vs : List ℤ) → 0 < step → ((i : ℕ) → i < length (v ∷ vs) → m ≤ℤ get_or (v ∷ vs) i (pos 0))
    → greatest_number (map (quantised step m) (v ∷ vs)) ≡ quantised step m (fold int_max v vs)
greatest_quantised step m v vs some each = sym (greatest_from step m v vs some (each 0 (omega arith)) (λ i b. each (suc i) (omega (arith, b))))

-- ---- a product in place of a division

-- mul is a little more than 2 ^ k / s, so little that it makes no difference up to x
pub by_product : (x s mul power e : ℕ) → 0 < s → 0 < power → mul * s ≡ power + e → x * e < power → x * mul / power ≡ x / s
by_product x s mul power e some pow is small =
    let a = x / s in
    let low : a * s ≤ x = div-mul-le_self x s in
    let high : x < a * s + s = lt-div-mul-add some in
    let whole : x * mul * s ≡ x * power + x * e = assoc x mul s ∙ ap (λ n. x * n) is ∙ spread x power e in
    let below : a * s * power ≤ x * power = mul-le-mul_right power low in
    let above : (x + 1) * power ≤ (a * s + s) * power = mul-le-mul_right power (omega (arith, high)) in
    let one : (x + 1) * power ≡ x * power + power = omega arith in
    let down : a * power ≤ x * mul = le_of_mul-le-mul_right (let t : a * power * s ≡ a * s * power = turn a power s in omega (arith, t, below, whole)) some in
    let up : x * mul < a * power + power = lt_of_mul-lt-mul_right s (let t : (a * power + power) * s ≡ (a * s + s) * power = turn_more a power s in omega (arith, t, above, one, whole, small)) in
    quotient_is (x * mul) power a down up pow
  where
    assoc : (p q r : ℕ) → p * q * r ≡ p * (q * r)
    assoc p q r = omega arith

    spread : (p q r : ℕ) → p * (q + r) ≡ p * q + p * r
    spread p q r = omega arith

    turn : (p q r : ℕ) → p * q * r ≡ p * r * q
    turn p q r = omega arith

    turn_more : (p q r : ℕ) → (p * q + q) * r ≡ (p * r + r) * q
    turn_more p q r = omega arith

-- for a step below 2 ^ l: the product is with 2 ^ (31 + l) / s, rounded up
pub by_product_at : (x s l : ℕ) → 0 < s → s ≤ 2 ^ l → x < 2 ^ 31 → x * ((2 ^ (31 + l) + s - 1) / s) / 2 ^ (31 + l) ≡ x / s
by_product_at x s l some fits small =
    let power = 2 ^ (31 + l) in
    let mul = (power + s - 1) / s in
    let split : power ≡ 2 ^ 31 * 2 ^ l = pow-add 2 31 l in
    let low : mul * s ≤ power + s - 1 = div-mul-le_self (power + s - 1) s in
    let high : power + s - 1 < mul * s + s = lt-div-mul-add some in
    let is : mul * s ≡ power + (mul * s - power) = omega (arith, high, some) in
    let e : mul * s - power < 2 ^ l = omega (arith, low, fits, some) in
    let product : x * (mul * s - power) < 2 ^ 31 * 2 ^ l = mul-lt x (mul * s - power) (2 ^ 31) (2 ^ l) small e in
    by_product x s mul power (mul * s - power) some (omega (arith, split, product)) is (omega (arith, split, product))

-- ---- the bound of the table form

-- for a number of index digits: the table of d entries is shorter exactly up to a bound. Rest is what else the table form takes.
pub entries_fit : (d b rest s : ℕ) → 0 < b → (rest + (d * b + 7) / 8 < s) ↔ ((rest < s) × (d ≤ 8 * (s - 1 - rest) / b))
entries_fit d b rest s some = (there, back)
  where
    there : rest + (d * b + 7) / 8 < s → (rest < s) × (d ≤ 8 * (s - 1 - rest) / b)
    there h = (omega (arith, h), le-div d (8 * (s - 1 - rest)) b some (omega (arith, h)))

    back : (rest < s) × (d ≤ 8 * (s - 1 - rest) / b) → rest + (d * b + 7) / 8 < s
    back h = let down = div-mul-le_self (8 * (s - 1 - rest)) b in let up = mul-le-mul_right b h.1 in let low = h.0 in omega (arith, down, up, low)
