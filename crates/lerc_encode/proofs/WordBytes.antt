-- Words as lists of bytes: they hold their bits, and written words are these.
use Rattle.std.proofs.Common.{◌≡◌, ℕ, zero, suc, ◌+◌, ◌-◌, ◌*◌, ◌^◌, ◌<◌, ◌≤◌, Bool, true, false, List, [], ◌∷◌, ◌++◌, length, take, drop, replicate, refl, sym, ap, ◌∙◌, subst, arith, length-append, append_assoc, inl, inr}
use Rattle.std.specs.Prelude.{if◌then◌else◌}
use Rattle.std.proofs.lemmas.Bool.{cases_lt}
use Rattle.std.proofs.lemmas.List.{length-replicate, drop_all, take-append-le, take-append-drop, length-take-le, length-drop, replicate-append-replicate, take-replicate}
use Rattle.std.proofs.Math.Nat.{pow-succ'}
use Rattle.std.proofs.Math.Seq.{take-append-add}
use Rattle.byteorder.specs.Endian.{little_bytes}
use Rattle.bit_stuff.proofs.Numbers.{little_bytes-lt}
use Rattle.first_fault.specs.Parts.{AreBytes}
use Rattle.huff_codes.specs.Bits.{bits_of, word_bits}
use Rattle.huff_codes.specs.Words.{joined_codes, word_count}
use Rattle.huff_codes.specs.Written.{AreTableWords, AreWritten, IsFilled}
use Rattle.huff_codes.proofs.BitLists.{bits-zero}
use Rattle.huff_codes.proofs.Windows.{bits-append}
use Rattle.huff_codes.proofs.Filling.{word-append, word-of, length-word}
use Rattle.huff_codes.proofs.Once.{same_bytes}
use Rattle.lerc_encode.specs.Codings.{bits_number, word_in_front, filled_words}

-- ---- numbers of bits

abbrev one_if : Bool → ℕ
one_if b = if b then 1 else 0

one-low : (b : Bool) → one_if b < 2
one-low true = omega arith
one-low false = omega arith

pub number-low : (bits : List Bool) → bits_number bits < 2 ^ length bits
unfolding bits_number
number-low [] = omega arith
number-low (b ∷ bits) = subst (λ n. one_if b * 2 ^ length bits + bits_number bits < n) (sym (pow-succ' 2 (length bits))) (step b (2 ^ length bits) (bits_number bits) (number-low bits))
  where
    step : (b : Bool) (p n : ℕ) → n < p → one_if b * p + n < 2 * p
    step true p n h = omega (arith, h)
    step false p n h = omega (arith, h)

one_bit : (b : Bool) → bits_of 1 (one_if b) ≡ b ∷ []
unfolding bits_of
one_bit true = refl
one_bit false = refl

pub bits-number : (bits : List Bool) → bits_of (length bits) (bits_number bits) ≡ bits
unfolding bits_number
bits-number [] = bits-zero 0
bits-number (b ∷ bits) =
    let more : suc (length bits) ≡ 1 + length bits = omega arith in
    ap (λ n. bits_of n (one_if b * 2 ^ length bits + bits_number bits)) more
    ∙ (sym (bits-append 1 (length bits) (one_if b) (bits_number bits) (number-low bits))
    ∙ (λ i. one_bit b i ++ bits-number bits i))

-- ---- words

padded_long : (bits : List Bool) → length (word_in_front bits) ≡ 32
padded_long bits =
    let long = length-append bits (replicate 32 false) in
    let zeros : length (replicate 32 false) ≡ 32 = length-replicate 32 false in
    length-take-le 32 (bits ++ replicate 32 false) (omega (arith, long, zeros))

front_bits : (bits : List Bool) → word_bits (little_bytes 4 (bits_number (word_in_front bits))) ≡ word_in_front bits
front_bits bits =
    let long = padded_long bits in
    let low : bits_number (word_in_front bits) < 2 ^ 32 = subst (λ n. bits_number (word_in_front bits) < 2 ^ n) long (number-low (word_in_front bits)) in
    word-of (bits_number (word_in_front bits)) low ∙ ap (λ n. bits_of n (bits_number (word_in_front bits))) (sym long) ∙ bits-number (word_in_front bits)

pub words-long : (n : ℕ) (bits : List Bool) → length (filled_words n bits) ≡ 4 * n
unfolding filled_words
words-long zero bits = refl
words-long (suc n) bits =
    let w = little_bytes 4 (bits_number (word_in_front bits)) in
    let one : length w ≡ 4 = length-word (bits_number (word_in_front bits)) in
    let more = words-long n (drop 32 bits) in
    let both = length-append w (filled_words n (drop 32 bits)) in
    omega (arith, one, more, both)

-- where the bits fill the first word, and where they do not
whole_front : (n : ℕ) (bits : List Bool) → 32 ≤ length bits → word_in_front bits ++ (drop 32 bits ++ replicate (32 * n - length (drop 32 bits)) false) ≡ bits ++ replicate (32 * suc n - length bits) false
whole_front n bits h =
    let left : 32 * n - length (drop 32 bits) ≡ 32 * suc n - length bits = let d = length-drop 32 bits in omega (arith, d, h) in
    sym (append_assoc (word_in_front bits) (drop 32 bits) (replicate (32 * n - length (drop 32 bits)) false))
    ∙ ap (λ (u : List Bool). (u ++ drop 32 bits) ++ replicate (32 * n - length (drop 32 bits)) false) (take-append-le 32 bits (replicate 32 false) h)
    ∙ (λ i. take-append-drop 32 bits i ++ replicate (left i) false)

short_front : (n : ℕ) (bits : List Bool) → length bits < 32 → word_in_front bits ++ (drop 32 bits ++ replicate (32 * n - length (drop 32 bits)) false) ≡ bits ++ replicate (32 * suc n - length bits) false
short_front n bits h =
    let k = 32 - length bits in
    let sum : length bits + k ≡ 32 = omega (arith, h) in
    let front : word_in_front bits ≡ bits ++ replicate k false =
    ap (λ m. take m (bits ++ replicate 32 false)) (sym sum) ∙ take-append-add bits (replicate 32 false) k ∙ ap (λ (u : List Bool). bits ++ u) (take-replicate k 32 false (omega arith)) in
    let none : drop 32 bits ≡ [] = drop_all 32 bits (omega (arith, h)) in
    let left : k + 32 * n ≡ 32 * suc n - length bits = omega (arith, h) in
    let plain : 32 * n - length (drop 32 bits) ≡ 32 * n = let l = ap length none in omega (arith, l) in
    (λ i. front i ++ (none i ++ replicate (plain i) false))
    ∙ append_assoc bits (replicate k false) (replicate (32 * n) false)
    ∙ ap (λ (u : List Bool). bits ++ u) (replicate-append-replicate k (32 * n) false ∙ ap (λ m. replicate m false) left)

pub words-bits : (n : ℕ) (bits : List Bool) → length bits ≤ 32 * n → word_bits (filled_words n bits) ≡ bits ++ replicate (32 * n - length bits) false
unfolding filled_words word_bits
words-bits zero [] h = refl
words-bits zero (b ∷ bits) h = absurd (omega (arith, h))
words-bits (suc n) bits h =
    let w = little_bytes 4 (bits_number (word_in_front bits)) in
    let rest = drop 32 bits in
    word-append 1 w (filled_words n rest) (length-word (bits_number (word_in_front bits)))
    ∙ (λ i. front_bits bits i ++ words-bits n rest (let d = length-drop 32 bits in omega (arith, h, d)) i)
    ∙ elim (cases_lt (length bits) 32) [
      | inl less ↦ short_front n bits less
      | inr more ↦ whole_front n bits more
    ]

pub both_bytes : (xs ys : List ℕ) → AreBytes xs → AreBytes ys → AreBytes (xs ++ ys)
both_bytes [] ys hx hy i = hy i
both_bytes (x ∷ xs) ys hx hy zero = hx zero
both_bytes (x ∷ xs) ys hx hy (suc i) = both_bytes xs ys (λ j. hx (suc j)) hy i

pub front_bytes_are : (xs ys : List ℕ) → AreBytes (xs ++ ys) → AreBytes xs
front_bytes_are [] ys h i = omega arith
front_bytes_are (x ∷ xs) ys h zero = h zero
front_bytes_are (x ∷ xs) ys h (suc i) = front_bytes_are xs ys (λ j. h (suc j)) i

pub back_bytes_are : (xs ys : List ℕ) → AreBytes (xs ++ ys) → AreBytes ys
back_bytes_are [] ys h i = h i
back_bytes_are (x ∷ xs) ys h i = back_bytes_are xs ys (λ j. h (suc j)) i

pub words-bytes : (n : ℕ) (bits : List Bool) → AreBytes (filled_words n bits)
unfolding filled_words
words-bytes zero bits i = omega arith
words-bytes (suc n) bits i =
    both_bytes (little_bytes 4 (bits_number (word_in_front bits))) (filled_words n (drop 32 bits)) (little_bytes-lt 4 (bits_number (word_in_front bits))) (words-bytes n (drop 32 bits)) i

-- ---- filled words

pub words_filled : (n : ℕ) (bits : List Bool) → length bits ≤ 32 * n → IsFilled n bits (filled_words n bits)
words_filled n bits h = record { size = words-long n bits; same = words-bits n bits h }

pub filled_is : (n : ℕ) (bits : List Bool) (bytes : List ℕ) → length bits ≤ 32 * n → AreBytes bytes → IsFilled n bits bytes → bytes ≡ filled_words n bits
filled_is n bits bytes h are f =
    same_bytes n bytes (filled_words n bits) f.size (words-long n bits) are (words-bytes n bits) (f.same ∙ sym (words-bits n bits h))

pub table_words : (codes : List (List Bool)) (symbols : List ℕ) → AreTableWords codes symbols (filled_words (word_count (length (joined_codes codes symbols))) (joined_codes codes symbols))
table_words codes symbols = words_filled (word_count (length (joined_codes codes symbols))) (joined_codes codes symbols) (omega arith)

pub symbol_words : (codes : List (List Bool)) (symbols : List ℕ) → AreWritten codes symbols (filled_words (word_count (length (joined_codes codes symbols)) + 1) (joined_codes codes symbols))
symbol_words codes symbols = words_filled (word_count (length (joined_codes codes symbols)) + 1) (joined_codes codes symbols) (omega arith)
