-- Numbers of decimal digits.
use Rattle.std.proofs.Common.{◌≡◌, ℕ, ℤ, pos, neg_ℤ, zero, suc, false, ◌+◌, ◌*◌, ◌^◌, ◌<◌, ◌≤◌, List, [], ◌∷◌, length, take, get_or, All, sym, ap, ◌∙◌, subst, arith, inl, inr, ◌↔◌, Option, Some, None}
use Rattle.std.proofs.lemmas.List.{places}
use Rattle.std.proofs.lemmas.List.Elements.{All-head, All-tail}
use Rattle.std.proofs.lemmas.Str.{digit_value_digit}
use Rattle.std.proofs.lemmas.Int.Digits.{digits_value_more, digits_value-lt}
use Rattle.std.proofs.Math.Nat.{pow-le-pow_right}
use Rattle.std.specs.Char.{digit_value}
use Rattle.std.specs.Str.Parse.{AllDigits, digits_value}
use Rattle.std.specs.Prelude.{◌==◌, unsigned_abs}
use Rattle.outside_io.specs.program.Word.{IsDigit}
use Rattle.ascii_grid.specs.Head.{AreDigits, IsInteger}

pub digit_is : (c : ℕ) → IsDigit c → digit_value c + 48 ≡ c
digit_is c is = digit_value_digit c is

pub all_digits : (ds : List ℕ) → All IsDigit ds → AllDigits 10 ds
all_digits [] all = tt
all_digits (d ∷ ds) all =
    let digit : IsDigit d = All-head IsDigit d ds all in
    (let small : digit_value d < 10 = omega (arith, digit_is d digit, digit) in small, all_digits ds (All-tail IsDigit d ds all))

-- so many digits stand for less than the power of ten
pub digits_below : (ds : List ℕ) (k : ℕ) → length ds ≤ k → All IsDigit ds → digits_value 10 ds < 10 ^ k
digits_below ds k few all =
    let below : digits_value 10 ds < 10 ^ length ds = digits_value-lt 10 ds (all_digits ds all) in
    let power : 10 ^ length ds ≤ 10 ^ k = pow-le-pow_right (omega arith) few in
    omega (arith, below, power)

pub digits_few : (ds : List ℕ) (i : ℕ) → i ≤ 9 → All IsDigit (take i ds) → digits_value 10 (take i ds) < 1000000000
digits_few ds i few all = digits_below (take i ds) 9 (grind (arith, places)) all

pub digits_more : (ds : List ℕ) (i : ℕ) → i < length ds → IsDigit (get_or ds i 0) → digits_value 10 (take (i + 1) ds) + 48 ≡ digits_value 10 (take i ds) * 10 + get_or ds i 0
digits_more ds i inside digit = omega (arith, digits_value_more 10 ds i inside, digit_is (get_or ds i 0) digit)

pub one_digits : (bytes : List ℕ) (m n : ℕ) → AreDigits bytes m → AreDigits bytes n → m ≡ n
one_digits bytes m n a b = sym a.value ∙ b.value

pub minus_no_digits : (bytes rest : List ℕ) (n : ℕ) → bytes ≡ 45 ∷ rest → AreDigits bytes n → ⊥
minus_no_digits bytes rest n is digits =
    let first : IsDigit 45 = All-head IsDigit 45 rest (subst (All IsDigit) is digits.digits) in
    omega (arith, first)

tail_is : (a b : ℕ) (xs ys : List ℕ) → a ∷ xs ≡ b ∷ ys → xs ≡ ys
tail_is a b xs ys e = cc

-- bytes stand for one number
pub one_integer : (bytes : List ℕ) (y z : ℤ) → IsInteger bytes y → IsInteger bytes z → y ≡ z
one_integer bytes y z (m, inl a) (n, inl b) = a.1 ∙ ap pos (one_digits bytes m n a.0 b.0) ∙ sym b.1
one_integer bytes y z (m, inl a) (n, inr b) = absurd (minus_no_digits bytes b.0 m b.1.0 a.0)
one_integer bytes y z (m, inr a) (n, inl b) = absurd (minus_no_digits bytes a.0 n a.1.0 b.0)
one_integer bytes y z (m, inr a) (n, inr b) =
    let same : a.0 ≡ b.0 = tail_is 45 45 a.0 b.0 (sym a.1.0 ∙ b.1.0) in
    a.1.1.1 ∙ ap (λ (k : ℕ). neg_ℤ (pos k)) (one_digits b.0 m n (subst (λ (u : List ℕ). AreDigits u m) same a.1.1.0) b.1.1.0) ∙ sym b.1.1.1

-- it has ten digits at most
pub integer_small : (bytes : List ℕ) (z : ℤ) → IsInteger bytes z → unsigned_abs z < 10000000000
integer_small bytes z (n, inl a) =
    let below = digits_below bytes 10 a.0.few a.0.digits in
    let less : n < 10000000000 = omega (arith, below, a.0.value) in
    subst (λ (y : ℤ). unsigned_abs y < 10000000000) (sym a.1) less
integer_small bytes z (n, inr a) =
    let below = digits_below a.0 10 a.1.1.0.few a.1.1.0.digits in
    let less : n < 10000000000 = omega (arith, below, a.1.1.0.value) in
    subst (λ (y : ℤ). unsigned_abs y < 10000000000) (sym a.1.1.1) (negated n less)
  where
    negated : (m : ℕ) → m < 10000000000 → unsigned_abs (neg_ℤ (pos m)) < 10000000000
    negated zero h = omega arith
    negated (suc m) h = h

-- they are few
pub integer_few : (bytes : List ℕ) (z : ℤ) → IsInteger bytes z → length bytes ≤ 11
integer_few bytes z (n, inl a) = omega (arith, a.0.few)
integer_few bytes z (n, inr a) = let size : length bytes ≡ suc (length a.0) = ap length a.1.0 in omega (arith, size, a.1.1.0.few)

pub same_some : (a b : ℤ) → ◌≡◌ {A = Option ℤ} (Some a) (Some b) → a ≡ b
same_some a b e = cc

pub no_some : (b : ℤ) → ◌≡◌ {A = Option ℤ} None (Some b) → ⊥
no_some b e = cc

-- what reading digits, and a number, answers
pub integer_above : (bytes : List ℕ) (n : ℕ) (r : ℤ) → AreDigits bytes n → r ≡ pos n → (z : ℤ) → (◌≡◌ {A = Option ℤ} (Some r) (Some z)) ↔ IsInteger bytes z
integer_above bytes n r digits is z =
    let here : IsInteger bytes r = (n, inl (digits, is)) in
    (λ e. subst (IsInteger bytes) (same_some r z e) here, λ i. ap Some (one_integer bytes r z here i))

pub integer_below : (bytes rest : List ℕ) (n : ℕ) (r : ℤ) → bytes ≡ 45 ∷ rest → AreDigits rest n → r ≡ neg_ℤ (pos n) → (z : ℤ) → (◌≡◌ {A = Option ℤ} (Some r) (Some z)) ↔ IsInteger bytes z
integer_below bytes rest n r minus digits is z =
    let here : IsInteger bytes r = (n, inr (rest, (minus, (digits, is)))) in
    (λ e. subst (IsInteger bytes) (same_some r z e) here, λ i. ap Some (one_integer bytes r z here i))

pub no_integer_above : (bytes : List ℕ) → ((rest : List ℕ) → bytes ≡ 45 ∷ rest → ⊥) → ((n : ℕ) → AreDigits bytes n → ⊥) → (z : ℤ) → (◌≡◌ {A = Option ℤ} None (Some z)) ↔ IsInteger bytes z
no_integer_above bytes plain none z = (λ e. absurd (no_some z e), λ i. absurd (by i))
  where
    by : IsInteger bytes z → ⊥
    by (n, inl a) = none n a.0
    by (n, inr a) = plain a.0 a.1.0

pub no_integer_below : (bytes rest : List ℕ) → bytes ≡ 45 ∷ rest → ((n : ℕ) → AreDigits rest n → ⊥) → (z : ℤ) → (◌≡◌ {A = Option ℤ} None (Some z)) ↔ IsInteger bytes z
no_integer_below bytes rest minus none z = (λ e. absurd (no_some z e), λ i. absurd (by i))
  where
    by : IsInteger bytes z → ⊥
    by (n, inl a) = minus_no_digits bytes rest n minus a.0
    by (n, inr a) = none n (subst (λ (u : List ℕ). AreDigits u n) (tail_is 45 45 a.0 rest (sym a.1.0 ∙ minus)) a.1.1.0)

pub not_empty : (n : ℕ) → false ≡ (n == 0) → 0 < n
not_empty zero e = absurd (let no : ⊥ = cc in no)
not_empty (suc n) e = omega arith

pub no_number : (n : ℕ) → ◌≡◌ {A = Option ℕ} None (Some n) → ⊥
no_number n e = cc
