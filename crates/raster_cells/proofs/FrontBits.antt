-- How many bits in front of a number of so many are alike.
use Rattle.std.proofs.Common.{ℕ, ◌^◌, ◌<◌, ◌≤◌, arith, ◌≡◌, ◌-◌, ◌%◌, false, ap, ◌*◌, suc, ⊎_elim, ◌+◌, true, subst, ◌/◌, ◌∙◌, ◌≢◌, sym}
use Rattle.std.proofs.Math.Nat.{pow-le-pow_right, div-eq_of_lt, pow-succ', div-eq_of_lt-le}
use Rattle.std.specs.Prelude.{nat_eq, bit_and, min}
use Rattle.std.proofs.lemmas.Nat.{leading_length, and_le_r, pow_pos}
use Rattle.std.proofs.lemmas.Bool.{cases_lt}
use Rattle.std.specs.Int.{bit_at}
use Rattle.std.proofs.lemmas.Nat.Bits.{bit_at_and, bit_at_not, bit_at_ones, bit_at-lt}
use Rattle.std.proofs.lemmas.Bool.Decides.{nat_tests}
use lib.Count.{count_leading_zeros}
use mir.Syntax.{w32}
use Rattle.raster_cells.specs.Words.{word_bit}
use Rattle.raster_cells.proofs.MarkWords.{full}

fits : (word count : ℕ) → count ≤ 32 → word < 2 ^ count → word < 2 ^ 32
fits word count few below = let up : 2 ^ count ≤ 2 ^ 32 = pow-le-pow_right (omega arith) few in omega (arith, up, below)

-- ---- zeros

-- the bits before the first 1
pub word_zeros : (word count q : ℕ) → count ≤ 32 → word < 2 ^ count → q < count_leading_zeros 32 word - (32 - count) → word_bit count word q ≡ false
word_zeros word count q few below lt =
    let top = leading_length 32 word (fits word count few below) in
    let within : top.0 ≤ count - 1 - q = omega (arith, top.1, lt, few) in
    let longer : 2 ^ top.0 ≤ 2 ^ (count - 1 - q) = pow-le-pow_right (omega arith) within in
    let under : word < 2 ^ (count - 1 - q) = omega (arith, top.2, longer) in
    ap (λ n. nat_eq (n % 2) 1) (div-eq_of_lt under)

-- those in front of the number are zeros
pub spare_zeros : (word count : ℕ) → count ≤ 32 → word < 2 ^ count → 32 - count ≤ count_leading_zeros 32 word
spare_zeros word count few below =
    let top = leading_length 32 word (fits word count few below) in
    let double : 2 ^ suc count ≡ 2 * 2 ^ count = pow-succ' 2 count in
    ⊎_elim
    (λ (less : count_leading_zeros 32 word < 32 - count).
    let longer : 2 ^ suc count ≤ 2 ^ top.0 = pow-le-pow_right (omega arith) (omega (arith, top.1, less)) in
    absurd (let no : ⊥ = omega (arith, longer, double, top.3, below) in no))
    (λ (past : 32 - count ≤ count_leading_zeros 32 word). past)
    (cases_lt (count_leading_zeros 32 word) (32 - count))

-- the bit behind the zeros
pub word_one : (word count q : ℕ) → count ≤ 32 → word < 2 ^ count → q ≡ count_leading_zeros 32 word - (32 - count) → q < count → word_bit count word q ≡ true
word_one word count q few below is within =
    let top = leading_length 32 word (fits word count few below) in
    let spare = spare_zeros word count few below in
    let place : top.0 ≡ suc (count - 1 - q) = omega (arith, top.1, is, within, spare, few) in
    let under : word < 2 ^ suc (count - 1 - q) = subst (λ n. word < 2 ^ n) place top.2 in
    let over : 2 ^ suc (count - 1 - q) ≤ 2 * word + 1 = subst (λ n. 2 ^ n ≤ 2 * word + 1) place top.3 in
    let double : 2 ^ suc (count - 1 - q) ≡ 2 * 2 ^ (count - 1 - q) = pow-succ' 2 (count - 1 - q) in
    let least : 1 * 2 ^ (count - 1 - q) ≤ word = omega (arith, over, double) in
    let most : word < 2 * 2 ^ (count - 1 - q) = omega (arith, under, double) in
    ap (λ n. nat_eq (n % 2) 1) (div-eq_of_lt-le (2 ^ (count - 1 - q)) least most)

-- ---- ones: the zeros of the other number

-- the number with each of its bits turned
abbrev pub turned : ℕ → ℕ → ℕ
turned count word = bit_and (4294967295 - word) (4294967295 / 2 ^ (32 - count))

pub turned_below : (count word : ℕ) → count ≤ 32 → turned count word < 2 ^ count
turned_below count word few = omega (arith, and_le_r (4294967295 - word) (4294967295 / 2 ^ (32 - count)), full count few, pow_pos count)

turned_bit : (count word q : ℕ) → count ≤ 32 → word < 2 ^ count → q < count → bit_at (turned count word) (count - 1 - q) ≡ 1 - bit_at word (count - 1 - q)
turned_bit count word q few below less =
    let j = count - 1 - q in
    let ones = 4294967295 / 2 ^ (32 - count) in
    let one : bit_at ones j ≡ 1 = ap (λ m. bit_at m j) (full count few) ∙ bit_at_ones count j (omega arith) in
    let other : bit_at (4294967295 - word) j ≡ 1 - bit_at word j = bit_at_not w32 word j (omega (arith, fits word count few below)) (omega (arith, few, less)) in
    let kept : min (bit_at (4294967295 - word) j) (bit_at ones j) ≡ 1 - bit_at word j = omega (arith, one, other) in
    bit_at_and (4294967295 - word) ones j ∙ kept

-- where a turned bit is 0, the bit is 1
pub zero_turned : (count word q : ℕ) → count ≤ 32 → word < 2 ^ count → q < count → word_bit count (turned count word) q ≡ false → word_bit count word q ≡ true
zero_turned count word q few below less off =
    let j = count - 1 - q in
    let no : bit_at (turned count word) j ≢ 1 = λ e. absurd (let t : nat_eq (bit_at (turned count word) j) 1 ≡ true = ap (λ n. nat_eq n 1) e in let bad : true ≡ false = sym t ∙ off in cc) in
    let set : bit_at word j ≡ 1 = omega (arith, turned_bit count word q few below less, no, bit_at-lt word j) in
    ap (λ n. nat_eq n 1) set

-- and where it is 1, the bit is 0
pub one_turned : (count word q : ℕ) → count ≤ 32 → word < 2 ^ count → q < count → word_bit count (turned count word) q ≡ true → word_bit count word q ≡ false
one_turned count word q few below less on =
    let j = count - 1 - q in
    let yes : bit_at (turned count word) j ≡ 1 = grind (arith, nat_tests, on) in
    let none : bit_at word j ≡ 0 = omega (arith, turned_bit count word q few below less, yes, bit_at-lt word j) in
    ap (λ n. nat_eq n 1) none
