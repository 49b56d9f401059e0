-- Hexadecimal digits, and the names that have them.
use Rattle.std.proofs.Common.{◌≡◌, ◌≢◌, inl, inr, ℕ, ◌+◌, ◌-◌, ◌*◌, ◌/◌, ◌%◌, ◌^◌, ◌<◌, ◌≤◌, ◌⊎◌, nat_lt, List, [], ◌∷◌, ◌++◌, length, get_or, drop, All, refl, sym, ap, subst, ◌∙◌, arith, length-append, if◌then◌else◌, Bool, true, false}
use Rattle.std.specs.Prelude.{codes, slice_index}
use Rattle.std.proofs.lemmas.Bool.Decides.{nat_tests}
use Rattle.std.proofs.lemmas.List.{append_assoc}
use Rattle.std.proofs.lemmas.List.Elements.{All-append, All-cons, All-head, All-nil, All-tail}
use Rattle.std.proofs.lemmas.Nat.{pow-add}
use Rattle.std.proofs.Math.Nat.{pow-suc, mul-le-mul_right}
use Rattle.level_cache.specs.Names.{IsHexDigit, IsName, digit_value, hex_value}
use Rattle.level_cache.specs.Places.{Corner}
use Rattle.level_cache.specs.inside.Digits.{AddsDigits, AddsHex}

-- ---- values

pow_one_more : (k : ℕ) → 16 ^ (k + 1) ≡ 16 * 16 ^ k
pow_one_more k = omega (arith, pow-add 16 k 1)

-- one more digit behind the others
hex_value-push : (ds : List ℕ) (c : ℕ) → hex_value (ds ++ c ∷ []) ≡ 16 * hex_value ds + digit_value c
hex_value-push [] c = omega arith
hex_value-push (d ∷ ds) c =
    let behind : length (ds ++ c ∷ []) ≡ length ds + 1 = length-append ds (c ∷ []) in
    let power : 16 ^ length (ds ++ c ∷ []) ≡ 16 * 16 ^ length ds = ap (λ k. 16 ^ k) behind ∙ pow_one_more (length ds) in
    rw power (grind (arith, hex_value-push ds c))

-- a digit counts at most 15
small : (c : ℕ) → IsHexDigit c → digit_value c ≤ 15
small c (inl is) = (let low : nat_lt c 58 ≡ true = grind (arith, nat_tests, is) in subst (λ (t : Bool). (if t then c - 48 else c - 87) ≤ 15) (sym low) (omega (arith, is)))
small c (inr is) = (let high : nat_lt c 58 ≡ false = grind (arith, nat_tests, is) in subst (λ (t : Bool). (if t then c - 48 else c - 87) ≤ 15) (sym high) (omega (arith, is)))

-- k digits stand for less than 16 ^ k
below : (ds : List ℕ) → All IsHexDigit ds → hex_value ds < 16 ^ length ds
below [] all = omega arith
below (d ∷ ds) all =
    let less : hex_value ds < 16 ^ length ds = below ds (All-tail IsHexDigit d ds all) in
    let digit : digit_value d ≤ 15 = small d (All-head IsHexDigit d ds all) in
    let power : 16 ^ length (d ∷ ds) ≡ 16 ^ length ds * 16 = pow-suc 16 (length ds) in
    let place : digit_value d * 16 ^ length ds ≤ 15 * 16 ^ length ds = mul-le-mul_right (16 ^ length ds) digit in
    omega (arith, less, power, place)

-- no zero stands in front of a number that has as many digits as it needs
no_zero : (ds : List ℕ) (n : ℕ) → All IsHexDigit ds → 0 < length ds → hex_value ds ≡ n → 16 ^ (length ds - 1) ≤ n → slice_index ds 0 ≢ 48
no_zero [] n all some value least is = absurd (omega (arith, some))
no_zero (d ∷ ds) n all some value least is =
    let zero : d ≡ 48 = is in
    let less : hex_value ds < 16 ^ length ds = below ds (All-tail IsHexDigit d ds all) in
    let rest : 0 * 16 ^ length ds + hex_value ds ≡ n = subst (λ (x : ℕ). hex_value (x ∷ ds) ≡ n) zero value in
    let long : length (d ∷ ds) - 1 ≡ length ds = omega arith in
    let most : 16 ^ length ds ≤ n = subst (λ (k : ℕ). 16 ^ k ≤ n) long least in
    absurd (omega (arith, less, rest, most))

-- ---- digits behind a name

pub one_digit : (n count c : ℕ) (old new : List ℕ) → count ≡ 1 → n < 16 ^ count → IsHexDigit c → digit_value c ≡ n % 16 → new ≡ old ++ (c ∷ []) → AddsDigits n count old new
one_digit n count c old new one fits is value added = record {
  digits = c ∷ [];
  each = All-cons IsHexDigit c [] is (All-nil IsHexDigit);
  many = sym one;
  value = (let v = value in let low : n < 16 ^ 1 = subst (λ (k : ℕ). n < 16 ^ k) one fits in omega (arith, v, low));
  added = added;
}

pub more_digits : (n count c : ℕ) (old mid new : List ℕ) → AddsDigits (n / 16) (count - 1) old mid → 1 < count → IsHexDigit c → digit_value c ≡ n % 16 → new ≡ mid ++ (c ∷ []) → AddsDigits n count old new
more_digits n count c old mid new adds more is value added = record {
  digits = adds.digits ++ (c ∷ []);
  each = All-append IsHexDigit adds.digits (c ∷ []) adds.each (All-cons IsHexDigit c [] is (All-nil IsHexDigit));
  many = (let long = length-append adds.digits (c ∷ []) in let many = adds.many in omega (arith, long, many, more));
  value = (let pushed = hex_value-push adds.digits c in let was = adds.value in let v = value in omega (arith, pushed, was, v));
  added = added ∙ ap (λ l. l ++ (c ∷ [])) adds.added ∙ append_assoc old adds.digits (c ∷ []);
}

pub hex_added : (n count : ℕ) (old new : List ℕ) → AddsDigits n count old new → 4 ≤ count → (4 < count → 16 ^ (count - 1) ≤ n) → AddsHex n old new
hex_added n count old new adds least leading = record {
  digits = adds.digits;
  is = record {
    each = adds.each;
    least = (let many = adds.many in omega (arith, many, least));
    leading = λ more.
        let many = adds.many in
        no_zero adds.digits n adds.each (omega (arith, more)) adds.value (subst (λ (k : ℕ). 16 ^ (k - 1) ≤ n) (sym many) (leading (omega (arith, many, more))));
    value = adds.value;
  };
  added = adds.added;
}

-- ---- two names

cut_at : (m : ℕ) (hs ks r s : List ℕ) → (IsHexDigit m → ⊥) → All IsHexDigit hs → All IsHexDigit ks → hs ++ (m ∷ r) ≡ ks ++ (m ∷ s) → (hs ≡ ks) × (r ≡ s)
cut_at m [] [] r s not hex kex same = (refl, ap (drop 1) same)
cut_at m [] (k ∷ ks) r s not hex kex same = absurd (not (let e : m ≡ k = ap (λ l. get_or l 0 0) same in subst IsHexDigit (sym e) (All-head IsHexDigit k ks kex)))
cut_at m (h ∷ hs) [] r s not hex kex same = absurd (not (let e : h ≡ m = ap (λ l. get_or l 0 0) same in subst IsHexDigit e (All-head IsHexDigit h hs hex)))
cut_at m (h ∷ hs) (k ∷ ks) r s not hex kex same =
    let e : h ≡ k = ap (λ l. get_or l 0 0) same in
    let rest = cut_at m hs ks r s not (All-tail IsHexDigit h hs hex) (All-tail IsHexDigit k ks kex) (ap (drop 1) same) in
    (λ i. e i ∷ rest.0 i, rest.1)

no_digit : (m : ℕ) → (m < 48) ⊎ ((57 < m) × (m < 97)) → IsHexDigit m → ⊥
no_digit m (inl low) (inl is) = omega (arith, low, is)
no_digit m (inl low) (inr is) = omega (arith, low, is)
no_digit m (inr mid) (inl is) = omega (arith, mid, is)
no_digit m (inr mid) (inr is) = omega (arith, mid, is)

pub one_base : (one two : Corner) (name : List ℕ) → IsName one name → IsName two name → one ≡ two
one_base one two name is so =
    let rows = cut_at 67 is.row so.row (is.col ++ codes ".bundle") (so.col ++ codes ".bundle") (no_digit 67 (inr (omega arith, omega arith))) is.row_is.each so.row_is.each (ap (drop 1) (sym is.name_is ∙ so.name_is)) in
    let cols = cut_at 46 is.col so.col (codes "bundle") (codes "bundle") (no_digit 46 (inl (omega arith))) is.col_is.each so.col_is.each rows.1 in
    let r : one.row ≡ two.row = sym is.row_is.value ∙ ap hex_value rows.0 ∙ so.row_is.value in
    let c : one.col ≡ two.col = sym is.col_is.value ∙ ap hex_value cols.0 ∙ so.col_is.value in
    λ i. record { row = r i; col = c i }
