-- The bits of words, and windows into them.
use Rattle.std.proofs.Common.{◌≡◌, ℕ, zero, suc, ◌+◌, ◌-◌, ◌*◌, ◌/◌, ◌%◌, ◌^◌, ◌<◌, ◌≤◌, nat_eq, Bool, List, [], ◌∷◌, ◌++◌, length, take, drop, refl, sym, ap, ◌∙◌, inl, inr, arith}
use Rattle.std.proofs.lemmas.List.{length-append, length-take-le, length-drop, take_at, take-take, take_all, take-append-le, drop-append-le, drop-drop, drop_at, drop_all, append_assoc, append-nil, take_rest, drop-take}
use Rattle.std.proofs.lemmas.Nat.{pow_pos, shr-shr, shr_high, mod_low, mod-pow-add, field_of}
use Rattle.std.proofs.lemmas.Bool.{cases_lt}
use Rattle.byteorder.specs.Endian.{little_number}
use Rattle.byteorder.specs.Numbers.{little_from-take}
use Rattle.huff_codes.specs.Bits.{bits_of, word_bits}
use Rattle.huff_codes.specs.inside.Stored.{IsAhead}
use Rattle.huff_codes.proofs.BitLists.{bits-zero, bits-suc, length-bits, take-bits}

-- a low bit of a remainder
low_bit : (v n j : ℕ) → v % 2 ^ ((j + 1) + n) / 2 ^ n % 2 ≡ v / 2 ^ n % 2
low_bit v n j =
    let x = v / 2 ^ n in
    let split : x % 2 ^ (j + 1) ≡ (x / 2 ^ 1 % 2 ^ j) * 2 ^ 1 + x % 2 ^ 1 = mod-pow-add x j 1 in
    let two : (x / 2 ^ 1 % 2 ^ j) * 2 + x % 2 ≡ x % 2 ^ (j + 1) = sym split in
    ap (λ (y : ℕ). y % 2) (field_of v (j + 1) n) ∙ omega (arith, two)

-- bits of one number that are all bits of another's
pub bits-low : (n m v : ℕ) → n ≤ m → bits_of n (v % 2 ^ m) ≡ bits_of n v
bits-low zero m v h = bits-zero (v % 2 ^ m) ∙ sym (bits-zero v)
bits-low (suc n) m v h =
    let e : m ≡ ((m - n - 1) + 1) + n = omega arith in
    let top : v % 2 ^ m / 2 ^ n % 2 ≡ v / 2 ^ n % 2 = ap (λ (k : ℕ). v % 2 ^ k / 2 ^ n % 2) e ∙ low_bit v n (m - n - 1) in
    bits-suc n (v % 2 ^ m)
    ∙ ap (λ (x : ℕ). nat_eq x 1 ∷ bits_of n (v % 2 ^ m)) top
    ∙ ap (λ (bs : List Bool). nat_eq (v / 2 ^ n % 2) 1 ∷ bs) (bits-low n m v (omega arith))
    ∙ sym (bits-suc n v)

-- the bits of two numbers, one after the other
pub bits-append : (m n a b : ℕ) → b < 2 ^ n → bits_of m a ++ bits_of n b ≡ bits_of (m + n) (a * 2 ^ n + b)
bits-append zero n a b h =
    let e : 0 + n ≡ n = omega arith in
    ap (λ (bs : List Bool). bs ++ bits_of n b) (bits-zero a)
    ∙ ap (bits_of n) (sym (mod_low a n b h)) ∙ bits-low n n (a * 2 ^ n + b) (omega arith)
    ∙ ap (λ (k : ℕ). bits_of k (a * 2 ^ n + b)) (sym e)
bits-append (suc m) n a b h =
    let e : suc (m + n) ≡ suc m + n = omega arith in
    let turn : n + m ≡ m + n = omega arith in
    let top : a / 2 ^ m ≡ (a * 2 ^ n + b) / 2 ^ (m + n) =
    ap (λ (x : ℕ). x / 2 ^ m) (sym (shr_high a n b h)) ∙ shr-shr (a * 2 ^ n + b) n m ∙ ap (λ (k : ℕ). (a * 2 ^ n + b) / 2 ^ k) turn in
    ap (λ (bs : List Bool). bs ++ bits_of n b) (bits-suc m a)
    ∙ ap (λ (bs : List Bool). nat_eq (a / 2 ^ m % 2) 1 ∷ bs) (bits-append m n a b h)
    ∙ ap (λ (x : ℕ). nat_eq (x % 2) 1 ∷ bits_of (m + n) (a * 2 ^ n + b)) top
    ∙ sym (bits-suc (m + n) (a * 2 ^ n + b))
    ∙ ap (λ (k : ℕ). bits_of k (a * 2 ^ n + b)) e

pub drop-bits : (k n v : ℕ) → drop k (bits_of (k + n) v) ≡ bits_of n v
drop-bits zero n v = let e : 0 + n ≡ n = omega arith in rw e refl
drop-bits (suc k) n v =
    let e : suc k + n ≡ suc (k + n) = omega arith in
    ap (λ (m : ℕ). drop (suc k) (bits_of m v)) e ∙ ap (drop (suc k)) (bits-suc (k + n) v) ∙ drop-bits k n v

-- what 32 bits from place `skip` of two words are
pub across_bits : (a b skip : ℕ) → skip < 32 → b < 2 ^ 32
    → bits_of 32 ((a * 2 ^ 32 + b) / 2 ^ (32 - skip) % 2 ^ 32) ≡ take 32 (drop skip (bits_of 32 a ++ bits_of 32 b))
across_bits a b skip h lt =
    let n = a * 2 ^ 32 + b in
    let sum : skip + (64 - skip) ≡ 64 = omega arith in
    let less : (64 - skip) - 32 ≡ 32 - skip = omega arith in
    let whole : bits_of 32 a ++ bits_of 32 b ≡ bits_of (skip + (64 - skip)) n = bits-append 32 32 a b lt ∙ ap (λ (k : ℕ). bits_of k n) (sym sum) in
    bits-low 32 32 (n / 2 ^ (32 - skip)) (omega arith)
    ∙ ap (λ (k : ℕ). bits_of 32 (n / 2 ^ k)) (sym less)
    ∙ sym (take-bits 32 (64 - skip) n (omega arith))
    ∙ ap (take 32) (sym (drop-bits skip (64 - skip) n))
    ∙ ap (λ (bs : List Bool). take 32 (drop skip bs)) (sym whole)

word-more : (a b c d : ℕ) (rest : List ℕ) → word_bits (a ∷ (b ∷ (c ∷ (d ∷ rest)))) ≡ bits_of 32 (little_number 4 (a ∷ (b ∷ (c ∷ (d ∷ []))))) ++ word_bits rest
unfolding word_bits
word-more a b c d rest = refl

-- the first word, and the others
pub word_first : (bytes : List ℕ) → 4 ≤ length bytes → word_bits bytes ≡ bits_of 32 (little_number 4 bytes) ++ word_bits (drop 4 bytes)
word_first [] h = absurd (omega arith)
word_first (a ∷ []) h = absurd (omega arith)
word_first (a ∷ (b ∷ [])) h = absurd (omega arith)
word_first (a ∷ (b ∷ (c ∷ []))) h = absurd (omega arith)
word_first (a ∷ (b ∷ (c ∷ (d ∷ rest)))) h = word-more a b c d rest

pub word_none : (bytes : List ℕ) → length bytes < 4 → word_bits bytes ≡ []
unfolding word_bits
word_none [] h = refl
word_none (a ∷ []) h = refl
word_none (a ∷ (b ∷ [])) h = refl
word_none (a ∷ (b ∷ (c ∷ []))) h = refl
word_none (a ∷ (b ∷ (c ∷ (d ∷ rest)))) h = absurd (omega arith)

-- the words after the first i
pub word-drop : (i : ℕ) (bytes : List ℕ) → 4 * i ≤ length bytes → drop (32 * i) (word_bits bytes) ≡ word_bits (drop (4 * i) bytes)
word-drop zero bytes h = refl
word-drop (suc i) bytes h =
    let e : 32 * suc i ≡ 32 + 32 * i = omega arith in
    let f : 4 * suc i ≡ 4 + 4 * i = omega arith in
    let first = bits_of 32 (little_number 4 bytes) in
    ap (λ (k : ℕ). drop k (word_bits bytes)) e
    ∙ sym (drop-drop (32 * i) 32 (word_bits bytes))
    ∙ ap (λ (bs : List Bool). drop (32 * i) (drop 32 bs)) (word_first bytes (omega arith))
    ∙ ap (drop (32 * i)) (drop_at first (word_bits (drop 4 bytes)) 32 (length-bits 32 (little_number 4 bytes)))
    ∙ word-drop i (drop 4 bytes) (omega (arith, length-drop 4 bytes))
    ∙ ap word_bits (drop-drop (4 * i) 4 bytes ∙ ap (λ (k : ℕ). drop k bytes) (sym f))

pub length-words : (n : ℕ) (bytes : List ℕ) → length bytes ≤ 4 * n + 3 → length (word_bits bytes) ≡ 32 * (length bytes / 4)
length-words zero bytes h = let none : word_bits bytes ≡ [] = word_none bytes (omega arith) in rw none (omega arith)
length-words (suc n) bytes h = elim (cases_lt (length bytes) 4) [
  | inl less ↦ let none : word_bits bytes ≡ [] = word_none bytes less in rw none (omega arith)
  | inr more ↦
      omega (
        arith,
        ap length (word_first bytes more),
        length-append (bits_of 32 (little_number 4 bytes)) (word_bits (drop 4 bytes)),
        length-bits 32 (little_number 4 bytes),
        length-words n (drop 4 bytes) (omega (arith, length-drop 4 bytes)),
        length-drop 4 bytes,
      )
]

pub length-word_bits : (bytes : List ℕ) → length (word_bits bytes) ≡ 32 * (length bytes / 4)
length-word_bits bytes = length-words (length bytes) bytes (omega arith)

-- the three windows
pub window_two : (bytes : List ℕ) (skip : ℕ) (a b : ℕ) (w : ℕ) → skip < 32 → 8 ≤ length bytes → a ≡ little_number 4 bytes → b ≡ little_number 4 (drop 4 bytes) → b < 2 ^ 32
    → w ≡ (a * 2 ^ 32 + b) / 2 ^ (32 - skip) % 2 ^ 32 → IsAhead (record { word = w; count = 32 }) (drop skip (word_bits bytes))
window_two bytes skip a b w h long first second lt is = record {
  few = omega arith;
  same =
      let two : word_bits bytes ≡ (bits_of 32 a ++ bits_of 32 b) ++ word_bits (drop 4 (drop 4 bytes)) =
      word_first bytes (omega arith) ∙ ap (λ (bs : List Bool). bits_of 32 (little_number 4 bytes) ++ bs) (word_first (drop 4 bytes) (omega (arith, length-drop 4 bytes)))
      ∙ ap (λ (x : ℕ). bits_of 32 x ++ (bits_of 32 (little_number 4 (drop 4 bytes)) ++ word_bits (drop 4 (drop 4 bytes)))) (sym first)
      ∙ ap (λ (x : ℕ). bits_of 32 a ++ (bits_of 32 x ++ word_bits (drop 4 (drop 4 bytes)))) (sym second)
      ∙ sym (append_assoc (bits_of 32 a) (bits_of 32 b) (word_bits (drop 4 (drop 4 bytes)))) in
      let both = bits_of 32 a ++ bits_of 32 b in
      let size : length both ≡ 64 = omega (arith, length-append (bits_of 32 a) (bits_of 32 b), length-bits 32 a, length-bits 32 b) in
      ap (λ (bs : List Bool). take 32 (drop skip bs)) two
      ∙ ap (take 32) (drop-append-le skip both (word_bits (drop 4 (drop 4 bytes))) (omega (arith, size)))
      ∙ take-append-le 32 (drop skip both) (word_bits (drop 4 (drop 4 bytes))) (omega (arith, length-drop skip both, size))
      ∙ sym (across_bits a b skip h lt) ∙ ap (bits_of 32) (sym is) ∙ sym (take_all 32 (bits_of 32 w) (omega (arith, length-bits 32 w)));
}

pub window_one : (bytes : List ℕ) (skip : ℕ) (a : ℕ) (w : ℕ) → skip < 32 → 4 ≤ length bytes → length bytes < 8 → a ≡ little_number 4 bytes
    → w ≡ (a * 2 ^ 32 + 0) / 2 ^ (32 - skip) % 2 ^ 32 → IsAhead (record { word = w; count = 32 - skip }) (drop skip (word_bits bytes))
window_one bytes skip a w h long short first is = record {
  few = omega arith;
  same =
      let one : word_bits bytes ≡ bits_of 32 a =
      word_first bytes long ∙ ap (λ (bs : List Bool). bits_of 32 (little_number 4 bytes) ++ bs) (word_none (drop 4 bytes) (omega (arith, length-drop 4 bytes)))
      ∙ append-nil (bits_of 32 (little_number 4 bytes)) ∙ ap (bits_of 32) (sym first) in
      let left = drop skip (bits_of 32 a) in
      let size : length left ≡ 32 - skip = omega (arith, length-drop skip (bits_of 32 a), length-bits 32 a) in
      let zeros = bits_of 32 0 in
      let both : bits_of 32 w ≡ take 32 (left ++ zeros) =
      ap (bits_of 32) is ∙ across_bits a 0 skip h (pow_pos 32) ∙ ap (take 32) (drop-append-le skip (bits_of 32 a) zeros (omega (arith, length-bits 32 a))) in
      ap (λ (bs : List Bool). take 32 (drop skip bs)) one ∙ take_all 32 left (omega (arith, size))
      ∙ sym (take_at left zeros (32 - skip) size)
      ∙ sym (take-take (32 - skip) 32 (left ++ zeros) (omega arith)) ∙ ap (take (32 - skip)) (sym both);
}

pub window_none : (bytes : List ℕ) (skip w : ℕ) → length bytes < 4 → IsAhead (record { word = w; count = 0 }) (drop skip (word_bits bytes))
window_none bytes skip w short = record {
  few = omega arith;
  same = ap (λ (bs : List Bool). take 32 (drop skip bs)) (word_none bytes short) ∙ nil_taken skip;
}
  where
    nil_taken : (k : ℕ) → take 32 (drop k []) ≡ take 0 (bits_of 32 w)
    nil_taken k = ap (take 32) (drop_all {X = Bool} k [] (omega arith))

-- the bits from a place on are bits of the words from its word on
pub words_from : (bytes rest : List ℕ) (bit : ℕ) → bit ≤ 32 * (length bytes / 4) → rest ≡ take (length bytes - bit / 32 * 4) (drop (bit / 32 * 4) bytes)
    → drop (bit % 32) (word_bits rest) ≡ drop bit (word_bits bytes)
words_from bytes rest bit within e =
    let at = bit / 32 * 4 in
    let same : rest ≡ drop (4 * (bit / 32)) bytes = e ∙ take_rest bytes at ∙ ap (λ (k : ℕ). drop k bytes) (let t : at ≡ 4 * (bit / 32) = omega arith in t) in
    let sum : 32 * (bit / 32) + bit % 32 ≡ bit = omega arith in
    ap (λ (xs : List ℕ). drop (bit % 32) (word_bits xs)) same
    ∙ ap (drop (bit % 32)) (sym (word-drop (bit / 32) bytes (omega arith)))
    ∙ drop-drop (bit % 32) (32 * (bit / 32)) (word_bits bytes)
    ∙ ap (λ (k : ℕ). drop k (word_bits bytes)) sum

-- the first four bytes make the number
number-take : (n : ℕ) (bytes : List ℕ) → 4 ≤ n → little_number 4 (take n bytes) ≡ little_number 4 bytes
number-take n bytes h = little_from-take 0 4 n bytes h

take_append_more : (xs ys : List Bool) (n k : ℕ) → length xs ≡ k → take (k + n) (xs ++ ys) ≡ xs ++ take n ys
take_append_more [] ys n k e =
    let z : k ≡ 0 = omega (arith, e) in
    let f : k + n ≡ n = omega arith in
    ap (λ (m : ℕ). take m ys) f
take_append_more (x ∷ xs) ys n zero e = absurd (omega (arith, e))
take_append_more (x ∷ xs) ys n (suc k) e =
    let f : suc k + n ≡ suc (k + n) = omega arith in
    ap (λ (m : ℕ). take m (x ∷ (xs ++ ys))) f ∙ ap (λ (bs : List Bool). x ∷ bs) (take_append_more xs ys n k (omega (arith, e)))

-- the first i words
pub word-take : (i : ℕ) (bytes : List ℕ) → 4 * i ≤ length bytes → word_bits (take (4 * i) bytes) ≡ take (32 * i) (word_bits bytes)
word-take zero bytes h = word_none [] (omega arith)
word-take (suc i) bytes h =
    let e : 32 * suc i ≡ 32 + 32 * i = omega arith in
    let f : 4 * suc i ≡ 4 + 4 * i = omega arith in
    let front = take (4 + 4 * i) bytes in
    let len : length front ≡ 4 + 4 * i = length-take-le (4 + 4 * i) bytes (omega arith) in
    let low : take 4 front ≡ take 4 bytes = take-take 4 (4 + 4 * i) bytes (omega arith) in
    let number : little_number 4 front ≡ little_number 4 bytes = number-take (4 + 4 * i) bytes (omega arith) in
    let first = bits_of 32 (little_number 4 bytes) in
    let size : length first ≡ 32 = length-bits 32 (little_number 4 bytes) in
    let rest : drop 4 front ≡ take (4 * i) (drop 4 bytes) = drop-take 4 (4 * i) bytes in
    ap (λ (k : ℕ). word_bits (take k bytes)) f
    ∙ word_first front (omega (arith, len))
    ∙ ap (λ (k : ℕ). bits_of 32 k ++ word_bits (drop 4 front)) number
    ∙ ap (λ (xs : List ℕ). first ++ word_bits xs) rest
    ∙ ap (λ (bs : List Bool). first ++ bs) (word-take i (drop 4 bytes) (omega (arith, length-drop 4 bytes)))
    ∙ sym (take_append_more first (word_bits (drop 4 bytes)) (32 * i) 32 size)
    ∙ ap (take (32 + 32 * i)) (sym (word_first bytes (omega arith)))
    ∙ ap (λ (k : ℕ). take k (word_bits bytes)) (sym e)
