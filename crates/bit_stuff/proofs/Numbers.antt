-- The number that bytes make.
use Rattle.std.proofs.Common.{◌≡◌, ℕ, zero, suc, ◌+◌, ◌-◌, ◌*◌, ◌/◌, ◌%◌, ◌^◌, ◌<◌, ◌≤◌, List, [], ◌∷◌, ◌++◌, length, take, drop, slice_index, refl, sym, ap, ◌∙◌, arith, inl, inr}
use Rattle.std.proofs.lemmas.Nat.{pow-add, field_of, shr-shr, shr_high, mod_low}
use Rattle.std.proofs.lemmas.List.{nil_from_length, take_rest, length-drop, take-append-drop, length-take, length-take-le, get_or-take, get_or-drop, get_or_past}
use Rattle.std.proofs.Math.Pow.{mod-mod-pow}
use Rattle.std.proofs.Math.Nat.{mod-lt}
use Rattle.std.proofs.lemmas.Bool.{cases_lt}
use Rattle.std.specs.Int.{byte_at, bytes_low_first}
use Rattle.byteorder.specs.Endian.{little_from, little_number, little_bytes}
use Rattle.byteorder.specs.Numbers.{little_from-cons, little_from-lt, little_from-take, little_from-append, length-bytes_low_first, little_number-reads_back}
use Rattle.byteorder.proofs.Bytes.{pow256}
use Rattle.bit_stuff.specs.Stuffed.{number_of_bytes}

pub number-nil : number_of_bytes [] ≡ 0
unfolding number_of_bytes
number-nil = refl

pub number-cons : (x : ℕ) (xs : List ℕ) → number_of_bytes (x ∷ xs) ≡ x + 256 * number_of_bytes xs
unfolding number_of_bytes
number-cons x xs = ap (λ (n : ℕ). x + 256 * n) (little_from-cons 0 (length xs) x xs)

pub number-append : (xs ys : List ℕ) → number_of_bytes (xs ++ ys) ≡ number_of_bytes xs + 2 ^ (8 * length xs) * number_of_bytes ys
number-append [] ys = omega (arith, number-nil)
number-append (x ∷ xs) ys =
    let longer : 8 * suc (length xs) ≡ 8 * length xs + 8 = omega arith in
    let power : 2 ^ (8 * suc (length xs)) ≡ 2 ^ (8 * length xs) * 256 = ap (λ (k : ℕ). 2 ^ k) longer ∙ pow-add 2 (8 * length xs) 8 in
    rw (number-cons x (xs ++ ys), number-append xs ys, number-cons x xs, power) (omega arith)

-- bytes are numbers below 256
pub number-lt : (xs : List ℕ) → ((i : ℕ) → slice_index xs i < 256) → number_of_bytes xs < 2 ^ (8 * length xs)
unfolding number_of_bytes
number-lt xs bytes = rw (← pow256 (length xs)) (little_from-lt 0 (length xs) xs bytes)

pub bytes_take : (k : ℕ) (xs : List ℕ) → ((i : ℕ) → slice_index xs i < 256) → (i : ℕ) → slice_index (take k xs) i < 256
bytes_take k xs bytes i = elim (cases_lt i k) [
  | inl below ↦ rw (get_or-take k xs i 0 below) (bytes i)
  | inr past ↦ rw (get_or_past (take k xs) i 0 (omega (arith, length-take k xs))) (omega arith)
]

pub bytes_drop : (k : ℕ) (xs : List ℕ) → ((i : ℕ) → slice_index xs i < 256) → (i : ℕ) → slice_index (drop k xs) i < 256
bytes_drop k xs bytes i = rw (get_or-drop k xs i 0) (bytes (k + i))

-- the parts of a cut
pub number_split : (k : ℕ) (xs : List ℕ) → k ≤ length xs → number_of_bytes xs ≡ number_of_bytes (take k xs) + 2 ^ (8 * k) * number_of_bytes (drop k xs)
number_split k xs h =
    ap number_of_bytes (sym (take-append-drop k xs)) ∙ number-append (take k xs) (drop k xs)
    ∙ ap (λ (n : ℕ). number_of_bytes (take k xs) + 2 ^ (8 * n) * number_of_bytes (drop k xs)) (length-take-le k xs h)

pub number_take-lt : (k : ℕ) (xs : List ℕ) → k ≤ length xs → ((i : ℕ) → slice_index xs i < 256) → number_of_bytes (take k xs) < 2 ^ (8 * k)
number_take-lt k xs h bytes =
    let low : number_of_bytes (take k xs) < 2 ^ (8 * length (take k xs)) = number-lt (take k xs) (bytes_take k xs bytes) in
    rw (length-take-le k xs h) at low

pub number-drop : (k : ℕ) (xs : List ℕ) → k ≤ length xs → ((i : ℕ) → slice_index xs i < 256) → number_of_bytes (drop k xs) ≡ number_of_bytes xs / 2 ^ (8 * k)
number-drop k xs h bytes =
    let turned : number_of_bytes xs ≡ number_of_bytes (drop k xs) * 2 ^ (8 * k) + number_of_bytes (take k xs) = omega (arith, number_split k xs h) in
    sym (ap (λ (n : ℕ). n / 2 ^ (8 * k)) turned ∙ shr_high (number_of_bytes (drop k xs)) (8 * k) (number_of_bytes (take k xs)) (number_take-lt k xs h bytes))

pub number-take : (k : ℕ) (xs : List ℕ) → k ≤ length xs → ((i : ℕ) → slice_index xs i < 256) → number_of_bytes (take k xs) ≡ number_of_bytes xs % 2 ^ (8 * k)
number-take k xs h bytes =
    let turned : number_of_bytes xs ≡ number_of_bytes (drop k xs) * 2 ^ (8 * k) + number_of_bytes (take k xs) = omega (arith, number_split k xs h) in
    sym (ap (λ (n : ℕ). n % 2 ^ (8 * k)) turned ∙ mod_low (number_of_bytes (drop k xs)) (8 * k) (number_of_bytes (take k xs)) (number_take-lt k xs h bytes))

-- the number that the first k bytes make
pub number_front : (k : ℕ) (xs : List ℕ) → k ≤ length xs → little_number k xs ≡ number_of_bytes (take k xs)
unfolding number_of_bytes
number_front k xs h =
    sym (ap (λ (n : ℕ). little_from 0 n (take k xs)) (length-take-le k xs h) ∙ little_from-take 0 k k xs (omega arith))

pub number_all : (k : ℕ) (xs : List ℕ) → k ≡ length xs → little_number k xs ≡ number_of_bytes xs
unfolding number_of_bytes
number_all k xs e = ap (λ (n : ℕ). little_from 0 n xs) e

-- the bytes of a number
pub length-little_bytes : (n x : ℕ) → length (little_bytes n x) ≡ n
length-little_bytes n x = length-bytes_low_first 0 n x

-- a byte of a number is below 256
byte_at-lt : (k x : ℕ) → byte_at k x < 256
byte_at-lt zero x = mod-lt x (omega arith)
byte_at-lt (suc k) x = mod-lt (x / 256 ^ suc k) (omega arith)

bytes_low_first-lt : (j n x i : ℕ) → slice_index (bytes_low_first j n x) i < 256
bytes_low_first-lt j zero x i = omega arith
bytes_low_first-lt j (suc n) x zero = byte_at-lt j x
bytes_low_first-lt j (suc n) x (suc i) = bytes_low_first-lt (suc j) n x i

pub little_bytes-lt : (n x i : ℕ) → slice_index (little_bytes n x) i < 256
little_bytes-lt n x i = bytes_low_first-lt 0 n x i

pub number-little_bytes : (n x : ℕ) → x < 2 ^ (8 * n) → number_of_bytes (little_bytes n x) ≡ x
unfolding number_of_bytes
number-little_bytes n x h =
    let fits : x < 256 ^ n = rw (pow256 n) h in
    ap (λ (k : ℕ). little_from 0 k (little_bytes n x)) (length-little_bytes n x)
    ∙ sym (little_from-append n (little_bytes n x) [] (omega (arith, length-little_bytes n x)))
    ∙ little_number-reads_back n x [] fits

-- bytes of one length that make one number are the same
pub same_from_number : (xs ys : List ℕ) → length xs ≡ length ys → ((i : ℕ) → slice_index xs i < 256) → ((i : ℕ) → slice_index ys i < 256)
    → number_of_bytes xs ≡ number_of_bytes ys → xs ≡ ys
same_from_number [] [] e p q n = refl
same_from_number [] (y ∷ ys) e p q n = absurd (omega arith)
same_from_number (x ∷ xs) [] e p q n = absurd (omega arith)
same_from_number (x ∷ xs) (y ∷ ys) e p q n =
    let whole : x + 256 * number_of_bytes xs ≡ y + 256 * number_of_bytes ys = sym (number-cons x xs) ∙ n ∙ number-cons y ys in
    let first : x ≡ y = omega (arith, whole, p 0, q 0) in
    let rest : number_of_bytes xs ≡ number_of_bytes ys = omega (arith, whole, p 0, q 0) in
    let tail : xs ≡ ys = same_from_number xs ys (omega arith) (λ i. p (suc i)) (λ i. q (suc i)) rest in
    cc

-- bytes are those of their number
pub bytes_of_number : (xs : List ℕ) → ((i : ℕ) → slice_index xs i < 256) → xs ≡ little_bytes (length xs) (number_of_bytes xs)
bytes_of_number xs bytes =
    same_from_number xs (little_bytes (length xs) (number_of_bytes xs)) (sym (length-little_bytes (length xs) (number_of_bytes xs)))
    bytes (little_bytes-lt (length xs) (number_of_bytes xs)) (sym (number-little_bytes (length xs) (number_of_bytes xs) (number-lt xs bytes)))

-- the word of eight bytes from `at` on
pub word_from : (xs : List ℕ) (at : ℕ) → at + 8 ≤ length xs → ((i : ℕ) → slice_index xs i < 256)
    → little_number 8 (take (length xs - at) (drop at xs)) ≡ number_of_bytes xs / 2 ^ (8 * at) % 2 ^ 64
word_from xs at h bytes =
    let room : 8 ≤ length (drop at xs) = omega (arith, length-drop at xs) in
    ap (little_number 8) (take_rest xs at) ∙ number_front 8 (drop at xs) room ∙ number-take 8 (drop at xs) room (bytes_drop at xs bytes)
    ∙ ap (λ (n : ℕ). n % 2 ^ 64) (number-drop at xs (omega arith) bytes)

pub number_none : (xs : List ℕ) → length xs ≡ 0 → number_of_bytes xs ≡ 0
number_none xs e = ap number_of_bytes (nil_from_length xs e) ∙ number-nil

-- a field of w bits that begins s bits above byte `at` lies in the window of 64 bits there
pub window_field : (n at s w : ℕ) → s + w ≤ 64 → n / 2 ^ (8 * at) % 2 ^ 64 / 2 ^ s % 2 ^ w ≡ n / 2 ^ (8 * at + s) % 2 ^ w
window_field n at s w h =
    let high : 64 ≡ 64 - s + s = omega arith in
    let low : 64 - s ≡ 64 - s - w + w = omega arith in
    ap (λ (k : ℕ). n / 2 ^ (8 * at) % 2 ^ k / 2 ^ s % 2 ^ w) high
    ∙ ap (λ (m : ℕ). m % 2 ^ w) (field_of (n / 2 ^ (8 * at)) (64 - s) s)
    ∙ ap (λ (k : ℕ). n / 2 ^ (8 * at) / 2 ^ s % 2 ^ k % 2 ^ w) low
    ∙ mod-mod-pow (n / 2 ^ (8 * at) / 2 ^ s) (64 - s - w) w
    ∙ ap (λ (m : ℕ). m % 2 ^ w) (shr-shr n (8 * at) s)
