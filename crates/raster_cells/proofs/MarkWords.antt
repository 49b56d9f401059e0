-- Marks as the bits of one number.
use Rattle.std.proofs.Common.{◌≡◌, ℕ, ◌+◌, ◌*◌, ◌^◌, zero, suc, refl, sym, ap, ◌∙◌, arith, ◌-◌, ◌/◌, ◌%◌, ◌<◌, ◌≤◌, List, get_or, subst, ⊎_elim, Bool, true, false, cond, length}
use Rattle.std.proofs.lemmas.Nat.{pow-add, and_le_r, pow_pos, shr-shr}
use Rattle.std.proofs.Math.Nat.{pow-succ'}
use Rattle.std.specs.Int.{bit_at}
use Rattle.std.proofs.lemmas.Bool.{cases_lt}
use Rattle.std.proofs.lemmas.Nat.Bits.{bit_at_cat_low, bit_at_cat_high, ones_shr, bit_at_and, bit_at-lt, bit_at_ones, bit_at_lowest, bit_at-suc, bit_at-zero}
use Rattle.std.specs.Prelude.{bit_and, nat_eq, min}
use Rattle.std.specs.Int.RustNames.{count_ones}
use Rattle.std.specs.List.{filter, range_with_len}
use mir.Val.{bool_byte}
use Rattle.byteorder.specs.Endian.{big_from, big_number}
use Rattle.byteorder.specs.Numbers.{big_from-lt}
use Rattle.raster_cells.proofs.Spelled.{AreBytes}
use Rattle.raster_cells.specs.Words.{word_bit, AreMarks}
use Rattle.raster_cells.specs.Masks.{mask_bit}
use Rattle.raster_cells.specs.Runs.{run_places}
use Rattle.raster_cells.proofs.MaskCounts.{ones_of, same_count}

-- ---- bytes as one number

pow_bytes : (n : ℕ) → 256 ^ n ≡ 2 ^ (8 * n)
pow_bytes zero = refl
pow_bytes (suc n) =
    pow-succ' 256 n ∙ ap (λ k. 256 * k) (pow_bytes n) ∙ sym (pow-add 2 8 (8 * n)) ∙ ap (λ k. 2 ^ k) (let e : 8 + 8 * n ≡ 8 * suc n = omega arith in e)

-- the bits of a number are those of its bytes, the highest first
pub big_bit : (n i q : ℕ) (bytes : List ℕ) → AreBytes bytes → q < 8 * n → bit_at (big_from i n bytes) (8 * n - 1 - q) ≡ bit_at (get_or bytes (i + q / 8) 0) (7 - q % 8)
big_bit zero i q bytes are within = absurd (omega arith)
big_bit (suc n) i q bytes are within =
    let rest = big_from (suc i) n bytes in
    let byte = get_or bytes i 0 in
    let j = 8 * suc n - 1 - q in
    let small : rest < 2 ^ (8 * n) = subst (λ k. rest < k) (pow_bytes n) (big_from-lt (suc i) n bytes are) in
    let split : big_from i (suc n) bytes ≡ byte * 2 ^ (8 * n) + rest = ap (λ k. byte * k + rest) (pow_bytes n) in
    ap (λ m. bit_at m j) split ∙ ⊎_elim
    (λ (first : q < 8).
    bit_at_cat_high byte (8 * n) rest j small (omega arith) ∙ ap (bit_at byte) (let e : j - 8 * n ≡ 7 - q % 8 = omega arith in e)
    ∙ ap (λ k. bit_at (get_or bytes k 0) (7 - q % 8)) (let e : i ≡ i + q / 8 = omega arith in e))
    (λ (later : 8 ≤ q).
    let r = q - 8 in
    bit_at_cat_low byte (8 * n) rest j (omega arith) ∙ ap (bit_at rest) (let e : j ≡ 8 * n - 1 - r = omega arith in e) ∙ big_bit n (suc i) r bytes are (omega arith)
    ∙ ap (λ k. bit_at (get_or bytes k 0) (7 - r % 8)) (let e : suc i + r / 8 ≡ i + q / 8 = omega arith in e)
    ∙ ap (λ k. bit_at (get_or bytes (i + q / 8) 0) (7 - k)) (let e : r % 8 ≡ q % 8 = omega arith in e))
    (cases_lt q 8)

-- a run of the bits of a number
pub full : (count : ℕ) → count ≤ 32 → 4294967295 / 2 ^ (32 - count) ≡ 2 ^ count - 1
full count few = ones_shr 32 (32 - count) (omega arith) ∙ ap (λ k. 2 ^ k - 1) (let e : 32 - (32 - count) ≡ count = omega arith in e)

pub cut_below : (number s count : ℕ) → count ≤ 32 → bit_and (number / 2 ^ s) (4294967295 / 2 ^ (32 - count)) < 2 ^ count
cut_below number s count few = omega (arith, and_le_r (number / 2 ^ s) (4294967295 / 2 ^ (32 - count)), full count few, pow_pos count)

pub cut_bit : (number s count q : ℕ) → count ≤ 32 → q < count → word_bit count (bit_and (number / 2 ^ s) (4294967295 / 2 ^ (32 - count))) q ≡ nat_eq (bit_at number (s + (count - 1 - q))) 1
cut_bit number s count q few less =
    let j = count - 1 - q in
    let ones = 4294967295 / 2 ^ (32 - count) in
    let one : bit_at ones j ≡ 1 = ap (λ m. bit_at m j) (full count few) ∙ bit_at_ones count j (omega arith) in
    let kept : min (bit_at (number / 2 ^ s) j) (bit_at ones j) ≡ bit_at (number / 2 ^ s) j = omega (arith, one, bit_at-lt (number / 2 ^ s) j) in
    ap (λ n. nat_eq n 1) (bit_at_and (number / 2 ^ s) ones j ∙ kept ∙ ap (λ n. n % 2) (shr-shr number s j))

-- a run of the bits of eight bytes
pub eight_bit : (bytes : List ℕ) (from count q : ℕ) → AreBytes bytes → from < 8 → count ≤ 32 → q < count
    → word_bit count (bit_and (big_number 8 bytes / 2 ^ (64 - from - count)) (4294967295 / 2 ^ (32 - count))) q ≡ mask_bit bytes (from + q)
eight_bit bytes from count q are first few less =
    let place : 64 - from - count + (count - 1 - q) ≡ 8 * 8 - 1 - (from + q) = omega arith in
    cut_bit (big_number 8 bytes) (64 - from - count) count q few less
    ∙ ap (λ n. nat_eq n 1) (ap (bit_at (big_number 8 bytes)) place ∙ big_bit 8 0 (from + q) bytes are (omega arith)
    ∙ ap (λ k. bit_at (get_or bytes k 0) (7 - (from + q) % 8)) (let e : 0 + (from + q) / 8 ≡ (from + q) / 8 = omega arith in e))

-- ---- bit by bit

-- one bit more behind the others
pub word_more : (f : ℕ → Bool) (i word bit : ℕ) → bit ≡ cond (f i) 1 0 → word < 2 ^ i → ((q : ℕ) → q < i → word_bit i word q ≡ f q)
    → (2 * word + bit < 2 ^ (i + 1)) × ((q : ℕ) → q < i + 1 → word_bit (i + 1) (2 * word + bit) q ≡ f q)
word_more f i word bit is small before =
    let double : 2 ^ (i + 1) ≡ 2 * 2 ^ i = ap (λ k. 2 ^ k) (let e : i + 1 ≡ suc i = omega arith in e) ∙ pow-succ' 2 i in
    let low : bit < 2 = subst (λ n. n < 2) (sym is) (below_two (f i)) in
    let half : (2 * word + bit) / 2 ≡ word = omega (arith, low) in (
      omega (arith, low, double, small),
      λ q less.
          ⊎_elim
          (λ (lt : q < i).
          ap (λ n. nat_eq n 1) (ap (bit_at (2 * word + bit)) (let e : i + 1 - 1 - q ≡ suc (i - 1 - q) = omega arith in e) ∙ bit_at-suc (2 * word + bit) (i - 1 - q) ∙ ap (λ m. bit_at m (i - 1 - q)) half)
          ∙ before q lt)
          (λ (ge : i ≤ q).
          let last : q ≡ i = omega arith in
          let odd : (2 * word + bit) % 2 ≡ bit = omega (arith, low) in
          ap (λ n. nat_eq n 1) (ap (bit_at (2 * word + bit)) (let e : i + 1 - 1 - q ≡ 0 = omega arith in e) ∙ bit_at_lowest (2 * word + bit) ∙ odd ∙ is) ∙ one_or_none (f i) ∙ ap f (sym last))
          (cases_lt q i),
    )
  where
    below_two : (b : Bool) → cond b 1 0 < 2
    below_two true = omega arith
    below_two false = omega arith

    one_or_none : (b : Bool) → nat_eq (cond b 1 0) 1 ≡ b
    one_or_none true = refl
    one_or_none false = refl

-- ---- what the number tells

-- the number that is laid down where a pixel is marked
bit_is : (x : ℕ) (b : Bool) → x < 2 → nat_eq x 1 ≡ b → x ≡ cond b 1 0
bit_is zero b h e = ap (λ t. cond t 1 0) e
bit_is (suc zero) b h e = ap (λ t. cond t 1 0) e
bit_is (suc (suc x)) b h e = absurd (omega arith)

pub word_mark : (marks : List Bool) (from count word q : ℕ) → AreMarks marks from count word → q < count → word / 2 ^ (count - 1 - q) % 2 ≡ cond (get_or marks (from + q) false) 1 0
word_mark marks from count word q are less = bit_is (word / 2 ^ (count - 1 - q) % 2) (get_or marks (from + q) false) (bit_at-lt word (count - 1 - q)) (are.bits q less)

pub word_count : (marks : List Bool) (from count word : ℕ) → AreMarks marks from count word → count_ones word ≡ length (run_places marks from count)
word_count marks from count word are =
    ones_of count word are.below ∙ same_count (λ i. nat_eq (word / 2 ^ (count - 1 - i) % 2) 1) (λ k. get_or marks k false) 0 from count (λ i less. are.bits (0 + i) (omega arith) ∙ ap (λ k. get_or marks (from + k) false) (let e : 0 + i ≡ i = omega arith in e))

pub word_all : (marks : List Bool) (from count word : ℕ) → count ≤ 32 → word ≡ 4294967295 / 2 ^ (32 - count) → AreMarks marks from count word → (k : ℕ) → from ≤ k → k < from + count → get_or marks k false ≡ true
word_all marks from count word few is are k low high =
    let q = k - from in
    ap (λ j. get_or marks j false) (let e : k ≡ from + q = omega arith in e) ∙ sym (are.bits q (omega arith))
    ∙ ap (λ n. nat_eq n 1) (ap (λ w. bit_at w (count - 1 - q)) (is ∙ full count few) ∙ bit_at_ones count (count - 1 - q) (omega arith))

-- and where all are marked it has no other bits
pub full_word : (marks : List Bool) (from count : ℕ) → count ≤ 32 → ((q : ℕ) → q < count → get_or marks (from + q) false ≡ true) → AreMarks marks from count (4294967295 / 2 ^ (32 - count))
full_word marks from count few all = record {
  below = omega (arith, full count few, pow_pos count);
  bits = λ q less. ap (λ n. nat_eq n 1) (ap (λ w. bit_at w (count - 1 - q)) (full count few) ∙ bit_at_ones count (count - 1 - q) (omega arith)) ∙ sym (all q less);
}

pub word_none : (marks : List Bool) (from count word : ℕ) → word ≡ 0 → AreMarks marks from count word → (k : ℕ) → from ≤ k → k < from + count → get_or marks k false ≡ false
word_none marks from count word is are k low high =
    let q = k - from in
    ap (λ j. get_or marks j false) (let e : k ≡ from + q = omega arith in e) ∙ sym (are.bits q (omega arith))
    ∙ ap (λ n. nat_eq n 1) (ap (λ w. bit_at w (count - 1 - q)) is ∙ bit_at-zero (count - 1 - q))

-- the number of a pixel tells its mark
pub word_tells : (marks : List Bool) (from count word q : ℕ) → AreMarks marks from count word → q < count → nat_eq (word / 2 ^ (count - 1 - q) % 2) 1 ≡ get_or marks (from + q) false
word_tells marks from count word q are less = are.bits q less

pub bits_count : (bytes : List ℕ) (from count word : ℕ) → word < 2 ^ count → ((q : ℕ) → q < count → word_bit count word q ≡ mask_bit bytes (from + q)) → count_ones word ≡ length (filter (mask_bit bytes) (range_with_len from count))
bits_count bytes from count word below bits =
    ones_of count word below ∙ same_count (λ i. nat_eq (word / 2 ^ (count - 1 - i) % 2) 1) (mask_bit bytes) 0 from count (λ i less. bits (0 + i) (omega arith) ∙ ap (λ k. mask_bit bytes (from + k)) (let e : 0 + i ≡ i = omega arith in e))

pub byte_is : (b : Bool) → bool_byte b ≡ cond b 1 0
byte_is true = refl
byte_is false = refl
