-- The binary digits of a number, and the greatest of some values.
use Rattle.std.proofs.Common.{◌≡◌, ℕ, zero, suc, ◌+◌, ◌*◌, ◌/◌, ◌^◌, ◌<◌, ◌≤◌, List, [], ◌∷◌, ◌++◌, length, get_or, take, max, refl, ap, ◌∙◌, arith}
use Rattle.std.proofs.lemmas.Int.Digits.{length-digits_of_step, length-digits_of-le}
use Rattle.std.proofs.lemmas.List.{take_more}
use Rattle.std.proofs.lemmas.List.Elements.{All-from_get_or}
use Rattle.std.proofs.lemmas.Nat.{pow-add, pow_pos}
use Rattle.std.proofs.Math.Nat.{pow-suc}
use Rattle.std.specs.Prelude.{All}
use lib.Count.{count_leading_zeros}
use Rattle.bit_stuff.specs.Simple.{binary_digits, greatest_number, width_of}

pub digits-zero : binary_digits 0 ≡ 0
unfolding binary_digits
digits-zero = refl

pub digits_step : (n : ℕ) → 0 < n → binary_digits n ≡ binary_digits (n / 2) + 1
unfolding binary_digits
digits_step n h = length-digits_of_step 2 n (omega arith) h

-- a number below 2 ^ k has at most k digits
pub digits-le : (k n : ℕ) → n < 2 ^ k → binary_digits n ≤ k
unfolding binary_digits
digits-le k n h = length-digits_of-le 2 k n (omega arith) h

-- the zeros above the digits
pub leading_digits : (k n : ℕ) → n < 2 ^ k → count_leading_zeros k n + binary_digits n ≡ k
unfolding count_leading_zeros
leading_digits zero n h = let none : n ≡ 0 = omega arith in rw none (omega (arith, digits-zero))
leading_digits (suc k) zero h = omega (arith, digits-zero)
leading_digits (suc k) (suc n) h =
    let half : suc n / 2 < 2 ^ k = omega (arith, pow-suc 2 k) in
    omega (arith, leading_digits k (suc n / 2) half, digits_step (suc n) (omega arith))

pow_more2 : (k : ℕ) → 2 ^ (k + 1) ≡ 2 ^ k * 2
pow_more2 k = pow-add 2 k 1

-- as many bits as it has digits hold a number
pub digits_hold_below : (k n : ℕ) → n < 2 ^ k → n < 2 ^ binary_digits n
digits_hold_below zero n h = let none : n ≡ 0 = omega arith in rw (none, digits-zero) (omega arith)
digits_hold_below (suc k) zero h = rw digits-zero (omega arith)
digits_hold_below (suc k) (suc n) h =
    let half : suc n / 2 < 2 ^ k = omega (arith, pow-suc 2 k) in
    let rest : suc n / 2 < 2 ^ binary_digits (suc n / 2) = digits_hold_below k (suc n / 2) half in
    let more : 2 ^ binary_digits (suc n) ≡ 2 ^ binary_digits (suc n / 2) * 2 = ap (λ (d : ℕ). 2 ^ d) (digits_step (suc n) (omega arith)) ∙ pow_more2 (binary_digits (suc n / 2)) in
    omega (arith, rest, more)

pub greatest_push : (xs : List ℕ) (x : ℕ) → greatest_number (xs ++ x ∷ []) ≡ max (greatest_number xs) x
greatest_push [] x = omega arith
greatest_push (y ∷ xs) x = omega (arith, greatest_push xs x)

pub greatest_take : (xs : List ℕ) (i : ℕ) → i < length xs → greatest_number (take (i + 1) xs) ≡ max (greatest_number (take i xs)) (get_or xs i 0)
greatest_take xs i h = ap greatest_number (take_more xs i 0 h) ∙ greatest_push (take i xs) (get_or xs i 0)

-- no value is above the greatest
pub greatest_above : (xs : List ℕ) (i : ℕ) → get_or xs i 0 ≤ greatest_number xs
greatest_above [] i = omega arith
greatest_above (x ∷ xs) zero = omega arith
greatest_above (x ∷ xs) (suc i) = omega (arith, greatest_above xs i)

-- the greatest is below what all values are below
pub greatest-lt : (n : ℕ) (xs : List ℕ) → 0 < n → ((i : ℕ) → i < length xs → get_or xs i 0 < n) → greatest_number xs < n
greatest-lt n [] some h = some
greatest-lt n (x ∷ xs) some h = omega (arith, h 0 (omega arith), greatest-lt n xs some (λ i lt. h (suc i) (omega arith)))

-- a width of k bits is enough for values of k bits
pub width_of-le : (k : ℕ) (values : List ℕ) → All (λ v. v < 2 ^ k) values → width_of values ≤ k
width_of-le k values h = digits-le k (greatest_number values) (greatest-lt (2 ^ k) values (pow_pos k) (λ i lt. h i 0 lt))

-- the chosen width holds each value
pub below_width : (k : ℕ) (values : List ℕ) → All (λ v. v < 2 ^ k) values → All (λ v. v < 2 ^ width_of values) values
below_width k values h =
    let whole : greatest_number values < 2 ^ width_of values = digits_hold_below k (greatest_number values) (greatest-lt (2 ^ k) values (pow_pos k) (λ i lt. h i 0 lt)) in
    All-from_get_or (λ v. v < 2 ^ width_of values) values 0 (λ i lt. omega (arith, greatest_above values i))
