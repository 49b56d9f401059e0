-- The sum of decimal digits by their places.
use Rattle.std.proofs.Common.{◌≡◌, ℕ, ◌+◌, ◌-◌, ◌*◌, ◌^◌, ◌<◌, ◌≤◌, List, [], ◌∷◌, ◌++◌, length, take, get_or, All, sym, ap, ◌∙◌, arith, length-append, add-one}
use Rattle.std.proofs.lemmas.List.{places}
use Rattle.std.proofs.lemmas.List.Elements.{All-head, All-tail}
use Rattle.std.proofs.lemmas.Nat.{pow-add}
use Rattle.std.proofs.Math.Nat.{pow-suc, pow-le-pow_right, mul-le-mul_right}
use Rattle.std.proofs.Math.Seq.{take-suc}
use Rattle.outside_io.specs.program.Word.{IsDigit, IsNumber, decimal_value}

pow_one_more : (k : ℕ) → 10 ^ (k + 1) ≡ 10 * 10 ^ k
pow_one_more k = omega (arith, pow-add 10 k 1)

-- one more digit behind the others
pub decimal_value-push : (ds : List ℕ) (c : ℕ) → decimal_value (ds ++ c ∷ []) ≡ 10 * decimal_value ds + (c - 48)
decimal_value-push [] c = omega arith
decimal_value-push (d ∷ ds) c =
    let behind : length (ds ++ c ∷ []) ≡ length ds + 1 = length-append ds (c ∷ []) in
    let power : 10 ^ length (ds ++ c ∷ []) ≡ 10 * 10 ^ length ds = ap (λ k. 10 ^ k) behind ∙ pow_one_more (length ds) in
    rw power (grind (arith, decimal_value-push ds c))

-- k digits stand for less than 10 ^ k
pub decimal_value_below : (ds : List ℕ) → All IsDigit ds → decimal_value ds < 10 ^ length ds
decimal_value_below [] all = omega arith
decimal_value_below (d ∷ ds) all =
    let less : decimal_value ds < 10 ^ length ds = decimal_value_below ds (All-tail IsDigit d ds all) in
    let digit : IsDigit d = All-head IsDigit d ds all in
    let power : 10 ^ length (d ∷ ds) ≡ 10 ^ length ds * 10 = pow-suc 10 (length ds) in
    let place : (d - 48) * 10 ^ length ds ≤ 9 * 10 ^ length ds = mul-le-mul_right (10 ^ length ds) (omega (arith, digit)) in
    omega (arith, less, power, place)

-- nine digits at most stand for less than 10 ^ 9
pub decimal_value_small : (ds : List ℕ) (i : ℕ) → i ≤ 9 → All IsDigit (take i ds) → decimal_value (take i ds) < 1000000000
decimal_value_small ds i few all =
    let short : length (take i ds) ≤ 9 = grind (arith, places) in
    let below : decimal_value (take i ds) < 10 ^ length (take i ds) = decimal_value_below (take i ds) all in
    let power : 10 ^ length (take i ds) ≤ 10 ^ 9 = pow-le-pow_right (omega arith) short in
    omega (arith, below, power)

-- one more digit of a longer word
pub decimal_value_more : (ds : List ℕ) (i : ℕ) → i < length ds → decimal_value (take (i + 1) ds) ≡ 10 * decimal_value (take i ds) + (get_or ds i 0 - 48)
decimal_value_more ds i inside =
    let next : take (i + 1) ds ≡ take i ds ++ get_or ds i 0 ∷ [] = rw add-one (take-suc ds i 0 inside) in
    ap decimal_value next ∙ decimal_value-push (take i ds) (get_or ds i 0)

-- a word stands for one number at most
pub one_number : (word : List ℕ) (m n : ℕ) → IsNumber word m → IsNumber word n → m ≡ n
one_number word m n first second = sym first.value ∙ second.value

-- a number of a word is below 10 ^ 10
pub IsNumber_below : (word : List ℕ) (n : ℕ) → IsNumber word n → n < 10000000000
IsNumber_below word n number =
    let power : 10 ^ length word ≤ 10 ^ 10 = pow-le-pow_right (omega arith) number.at_most_ten in
    omega (arith, decimal_value_below word number.digits, power, number.value)
