-- Bits that are written word by word.
use Rattle.std.proofs.Common.{◌≡◌, ℕ, zero, suc, ◌+◌, ◌-◌, ◌*◌, ◌/◌, ◌%◌, ◌^◌, ◌<◌, ◌≤◌, nat_eq, Bool, false, List, [], ◌∷◌, ◌++◌, length, take, drop, replicate, refl, sym, ap, ◌∙◌, subst, arith}
use Rattle.std.specs.Prelude.{get_or, All, slice_index}
use Rattle.std.proofs.lemmas.List.Elements.{All-from_get_or, All-get_or}
use Rattle.std.proofs.lemmas.List.{length-append, length-take-le, length-drop, take_at, take-append-drop, drop_at, append_assoc, append-nil, take_more, nil_from_length}
use Rattle.std.proofs.lemmas.Nat.{pow-add, pow_pos, shr_below}
use Rattle.std.proofs.Math.Nat.{mod-lt, mod-eq_of_lt, pow-le-pow_right}
use Rattle.byteorder.specs.Endian.{little_number, little_bytes}
use Rattle.byteorder.specs.Numbers.{little_number-reads_back, length-bytes_low_first}
use Rattle.huff_codes.specs.Bits.{bits_of, word_bits}
use Rattle.huff_codes.specs.Codes.{AreLengths, HasCode, code_at, canonical_codes}
use Rattle.huff_codes.specs.Words.{joined_codes}
use Rattle.huff_codes.specs.Written.{IsFilled}
use Rattle.huff_codes.specs.declared.codes.Code.{Code}
use Rattle.huff_codes.specs.inside.Spans.{IsLaid}
use Rattle.huff_codes.specs.inside.Stored.{code_bits, codes_held}
use Rattle.huff_codes.specs.inside.Filling.{IsPending, IsFlushed}
use Rattle.huff_codes.proofs.BitLists.{bits-zero, bits-suc, length-bits, take-bits}
use Rattle.huff_codes.proofs.Windows.{bits-append, word_first, word_none, word-drop, word-take, length-word_bits}
use Rattle.huff_codes.proofs.Held.{code_bits-is, length-code_bits, held-at}
use Rattle.huff_codes.proofs.Made.{canonical-at, length-canonical_code}
use Rattle.huff_codes.proofs.Reading.{joined_codes-nil, joined_codes-append, joined_codes-push}

-- ---- words side by side

pub word-append : (i : ℕ) (xs ys : List ℕ) → length xs ≡ 4 * i → word_bits (xs ++ ys) ≡ word_bits xs ++ word_bits ys
word-append i xs ys e =
    let bytes = xs ++ ys in
    let long : 4 * i ≤ length bytes = let all = length-append xs ys in omega (arith, all, e) in
    sym (take-append-drop (32 * i) (word_bits bytes))
    ∙ ap (λ (bs : List Bool). bs ++ drop (32 * i) (word_bits bytes)) (sym (word-take i bytes long) ∙ ap word_bits (take_at xs ys (4 * i) e))
    ∙ ap (λ (bs : List Bool). word_bits xs ++ bs) (word-drop i bytes long ∙ ap word_bits (drop_at xs ys (4 * i) e))

pub length-word : (w : ℕ) → length (little_bytes 4 w) ≡ 4
length-word w = length-bytes_low_first 0 4 w

pub word-of : (w : ℕ) → w < 2 ^ 32 → word_bits (little_bytes 4 w) ≡ bits_of 32 w
word-of w lt =
    let bytes = little_bytes 4 w in
    let number : little_number 4 bytes ≡ w = ap (little_number 4) (sym (append-nil bytes)) ∙ little_number-reads_back 4 w [] (omega (arith, lt)) in
    let none : word_bits (drop 4 bytes) ≡ [] = word_none (drop 4 bytes) (let d = length-drop 4 bytes in omega (arith, d, length-word w)) in
    word_first bytes (omega (arith, length-word w)) ∙ (λ i. bits_of 32 (number i) ++ none i) ∙ append-nil (bits_of 32 w)

pub zero_bits : (n : ℕ) → bits_of n 0 ≡ replicate n false
zero_bits zero = bits-zero 0
zero_bits (suc n) = bits-suc n 0 ∙ (λ i. nat_eq (none i) 1 ∷ zero_bits n i)
  where
    none : 0 / 2 ^ n % 2 ≡ 0
    none = let e : 0 / 2 ^ n ≡ 0 = zero_over (2 ^ n) in ap (λ x. x % 2) e
      where
        zero_over : (m : ℕ) → 0 / m ≡ 0
        zero_over m = omega arith

pub replicate-append : {X : Type 0} (a b : ℕ) (x : X) → replicate a x ++ replicate b x ≡ replicate (a + b) x
replicate-append zero b x = let e : b ≡ 0 + b = omega arith in ap (λ n. replicate n x) e
replicate-append (suc a) b x = let e : suc (a + b) ≡ suc a + b = omega arith in ap (λ xs. x ∷ xs) (replicate-append a b x) ∙ ap (λ n. replicate n x) e

-- so many bytes that are 0
zeros : ℕ → List ℕ
zeros n = replicate n 0

long_zeros : (n : ℕ) → length (zeros n) ≡ n
unfolding zeros
long_zeros zero = refl
long_zeros (suc n) = ap suc (long_zeros n)

no_more : (n : ℕ) → n ≡ 0 → length (zeros n) < 4
unfolding zeros
no_more n e = omega (arith, long_zeros n, e)

pub zero_words : (k : ℕ) → word_bits (replicate (4 * k) 0) ≡ replicate (32 * k) false
unfolding zeros
zero_words zero = word_none (zeros (4 * 0)) (no_more (4 * 0) (omega arith))
zero_words (suc k) =
    let e : 4 * suc k ≡ 4 + 4 * k = omega arith in
    let f : 32 + 32 * k ≡ 32 * suc k = omega arith in
    let one : word_bits (replicate 4 0) ≡ replicate 32 false = word-of 0 (pow_pos 32) ∙ zero_bits 32 in
    ap (λ n. word_bits (replicate n 0)) e ∙ ap word_bits (sym (replicate-append 4 (4 * k) 0)) ∙ word-append 1 (replicate 4 0) (replicate (4 * k) 0) (long_zeros 4)
    ∙ (λ i. one i ++ zero_words k i) ∙ replicate-append 32 (32 * k) false ∙ ap (λ n. replicate n false) f

-- ---- one word more

pub put_word_bits : (out new : List ℕ) (i at w : ℕ) → at ≡ 4 * i → at + 4 ≤ length out → w < 2 ^ 32 → take (at + 4) new ≡ take at out ++ little_bytes 4 w
    → word_bits (take (at + 4) new) ≡ word_bits (take at out) ++ bits_of 32 w
put_word_bits out new i at w whole room lt is =
    ap word_bits is ∙ word-append i (take at out) (little_bytes 4 w) (length-take-le at out (omega (arith, room)) ∙ whole) ∙ ap (λ (bs : List Bool). word_bits (take at out) ++ bs) (word-of w lt)

-- ---- one code more

-- the bits of a code as a number of so many bits
pub code_low : (c : Code) → IsLaid c → c.bits / 2 ^ (32 - c.length) < 2 ^ c.length
code_low c h = shr_below c.bits c.length (32 - c.length) (let e : c.length + (32 - c.length) ≡ 32 = (let low = h.low in omega (arith, low)) in subst (λ n. c.bits < 2 ^ n) (sym e) h.fits)

pub code_number_bits : (c : Code) → IsLaid c → code_bits c ≡ bits_of c.length (c.bits / 2 ^ (32 - c.length))
code_number_bits c h = code_bits-is c ∙ take-bits c.length 32 c.bits h.low

below_pow : (held count l c : ℕ) → held < 2 ^ count → c < 2 ^ l → held * 2 ^ l + c < 2 ^ (count + l)
below_pow held count l c a b = let e = pow-add 2 count l in below (2 ^ count) (2 ^ l) (2 ^ (count + l)) held c a b e
  where
    below : (m n mn held c : ℕ) → held < m → c < n → mn ≡ m * n → held * n + c < mn
    below m n mn held c a b e = grind arith

pub pushed_low : (held count : ℕ) (c : Code) → IsLaid c → held < 2 ^ count → held * 2 ^ c.length + c.bits / 2 ^ (32 - c.length) < 2 ^ (count + c.length)
pushed_low held count c h low = below_pow held count c.length (c.bits / 2 ^ (32 - c.length)) low (code_low c h)

pushed_bits : (bits : List Bool) (out : List ℕ) (held count at : ℕ) (c : Code) → IsLaid c → IsPending bits out held count at
    → bits ++ code_bits c ≡ word_bits (take at out) ++ bits_of (count + c.length) (held * 2 ^ c.length + c.bits / 2 ^ (32 - c.length))
pushed_bits bits out held count at c laid h =
    let n = c.bits / 2 ^ (32 - c.length) in
    (λ i. h.same i ++ code_number_bits c laid i) ∙ append_assoc (word_bits (take at out)) (bits_of count held) (bits_of c.length n)
    ∙ ap (λ (bs : List Bool). word_bits (take at out) ++ bs) (bits-append count c.length held n (code_low c laid))

pub pending_more : (bits : List Bool) (out : List ℕ) (held count at : ℕ) (c : Code) (held2 count2 : ℕ) → IsLaid c → IsPending bits out held count at → count2 ≡ count + c.length → count2 < 32
    → held2 ≡ held * 2 ^ c.length + c.bits / 2 ^ (32 - c.length) → IsPending (bits ++ code_bits c) out held2 count2 at
pending_more bits out held count at c held2 count2 laid h ec few eh = record {
  words = h.words;
  whole = h.whole;
  within = h.within;
  few = few;
  low = subst (λ x. x < 2 ^ count2) (sym eh) (subst (λ n. held * 2 ^ c.length + c.bits / 2 ^ (32 - c.length) < 2 ^ n) (sym ec) (pushed_low held count c laid h.low));
  same = pushed_bits bits out held count at c laid h ∙ (λ i. word_bits (take at out) ++ bits_of (sym ec i) (sym eh i));
}

-- and where a word is full
pub pending_word : (bits : List Bool) (out new : List ℕ) (held count at : ℕ) (c : Code) (whole rest w held2 : ℕ) → IsLaid c → IsPending bits out held count at → whole ≡ held * 2 ^ c.length + c.bits / 2 ^ (32 - c.length)
    → count + c.length ≡ 32 + rest → at + 4 ≤ length out → w ≡ whole / 2 ^ rest → held2 ≡ whole % 2 ^ rest → rest < 32 → length new ≡ length out → take (at + 4) new ≡ take at out ++ little_bytes 4 w
    → IsPending (bits ++ code_bits c) new held2 rest (at + 4)
pending_word bits out new held count at c whole rest w held2 laid h eh ec room ew e2 few long is =
    let low : whole < 2 ^ (32 + rest) = subst (λ n. whole < 2 ^ n) ec (subst (λ x. x < 2 ^ (count + c.length)) (sym eh) (pushed_low held count c laid h.low)) in
    let fits : w < 2 ^ 32 = subst (λ x. x < 2 ^ 32) (sym ew) (shr_below whole 32 rest low) in
    let small : whole % 2 ^ rest < 2 ^ rest = mod-lt whole (pow_pos rest) in
    let split : bits_of (32 + rest) whole ≡ bits_of 32 (whole / 2 ^ rest) ++ bits_of rest (whole % 2 ^ rest) =
    ap (bits_of (32 + rest)) (parts whole (2 ^ rest)) ∙ sym (bits-append 32 rest (whole / 2 ^ rest) (whole % 2 ^ rest) small) in
    record {
      words = h.words + 1;
      whole = (let e = h.whole in omega (arith, e));
      within = omega (arith, long, room);
      few = few;
      low = subst (λ x. x < 2 ^ rest) (sym e2) small;
      same = pushed_bits bits out held count at c laid h
          ∙ (λ i. word_bits (take at out) ++ bits_of (ec i) (sym eh i))
          ∙ ap (λ (bs : List Bool). word_bits (take at out) ++ bs) split
          ∙ sym (append_assoc (word_bits (take at out)) (bits_of 32 (whole / 2 ^ rest)) (bits_of rest (whole % 2 ^ rest)))
          ∙ ap (λ (bs : List Bool). bs ++ bits_of rest (whole % 2 ^ rest)) (ap (λ x. word_bits (take at out) ++ bits_of 32 x) (sym ew) ∙ sym (put_word_bits out new h.words at w h.whole room fits is))
          ∙ ap (λ x. word_bits (take (at + 4) new) ++ bits_of rest x) (sym e2);
    }
  where
    parts : (x m : ℕ) → x ≡ x / m * m + x % m
    parts x m = omega arith

-- ---- the end

pending_size : (bits : List Bool) (out : List ℕ) (held count at : ℕ) → IsPending bits out held count at → length bits ≡ 8 * at + count
pending_size bits out held count at h =
    let a = length-append (word_bits (take at out)) (bits_of count held) in
    let b = length-word_bits (take at out) in
    let c = length-take-le at out h.within in
    let whole = h.whole in
    omega (arith, ap length h.same, a, b, c, whole, length-bits count held)

pub flushed_none : (bits : List Bool) (out : List ℕ) (held count at : ℕ) → count ≡ 0 → IsPending bits out held count at → IsFlushed bits out at
flushed_none bits out held count at none_ h =
    let size = pending_size bits out held count at h in
    let e : 8 * at - length bits ≡ 0 = omega (arith, size, none_) in
    record {
      words = h.words;
      whole = h.whole;
      within = h.within;
      holds = omega (arith, size, none_);
      same = sym (h.same ∙ ap (λ n. word_bits (take at out) ++ bits_of n held) none_ ∙ ap (λ (bs : List Bool). word_bits (take at out) ++ bs) (bits-zero held) ∙ append-nil (word_bits (take at out)))
          ∙ sym (append-nil bits) ∙ ap (λ n. bits ++ replicate n false) (sym e);
    }

pub flushed_word : (bits : List Bool) (out new : List ℕ) (held count at w : ℕ) → IsPending bits out held count at → at + 4 ≤ length out → w ≡ held * 2 ^ (32 - count) → length new ≡ length out → take (at + 4) new ≡ take at out ++ little_bytes 4 w
    → IsFlushed bits new (at + 4)
flushed_word bits out new held count at w h room ew long is =
    let size = pending_size bits out held count at h in
    let few = h.few in
    let sum : count + (32 - count) ≡ 32 = omega (arith, few) in
    let plain : held * 2 ^ (32 - count) + 0 ≡ w = (let e : held * 2 ^ (32 - count) + 0 ≡ held * 2 ^ (32 - count) = omega arith in e) ∙ sym ew in
    let fits : w < 2 ^ 32 = subst (λ n. w < 2 ^ n) sum (subst (λ x. x < 2 ^ (count + (32 - count))) plain (below_pow held count (32 - count) 0 h.low (pow_pos (32 - count)))) in
    let left : 8 * (at + 4) - length bits ≡ 32 - count = omega (arith, size) in
    let word : bits_of 32 w ≡ bits_of count held ++ replicate (32 - count) false =
    (λ i. bits_of (sym sum i) (sym plain i)) ∙ sym (bits-append count (32 - count) held 0 (pow_pos (32 - count))) ∙ ap (λ (bs : List Bool). bits_of count held ++ bs) (zero_bits (32 - count)) in
    record {
      words = h.words + 1;
      whole = (let e = h.whole in omega (arith, e));
      within = omega (arith, long, room);
      holds = omega (arith, size, few);
      same = put_word_bits out new h.words at w h.whole room fits is ∙ ap (λ (bs : List Bool). word_bits (take at out) ++ bs) word
          ∙ sym (append_assoc (word_bits (take at out)) (bits_of count held) (replicate (32 - count) false))
          ∙ ap (λ (bs : List Bool). bs ++ replicate (32 - count) false) (sym h.same) ∙ ap (λ n. bits ++ replicate n false) (sym left);
    }

-- zeros behind the words
pub filled : (bits : List Bool) (out new : List ℕ) (at k : ℕ) → IsFlushed bits out at → length out ≡ 4 * k → new ≡ take at out ++ replicate (length out - at) 0 → IsFilled k bits new
unfolding zeros
filled bits out new at k h words is =
    let whole = h.whole in
    let within = h.within in
    let holds = h.holds in
    let m = k - h.words in
    let rest : length out - at ≡ 4 * m = omega (arith, words, whole) in
    let front = length-take-le at out h.within in
    let blank : length (replicate (length out - at) 0) ≡ length out - at = long_zeros (length out - at) in
    let all = length-append (take at out) (replicate (length out - at) 0) in
    let count : 8 * at - length bits + 32 * m ≡ 32 * k - length bits = omega (arith, whole, within, words, holds) in
    record {
      size = ap length is ∙ (let e : length (take at out ++ replicate (length out - at) 0) ≡ 4 * k = omega (arith, all, front, blank, words, within) in e);
      same = ap word_bits is ∙ word-append h.words (take at out) (replicate (length out - at) 0) (front ∙ whole)
          ∙ (λ i. h.same i ++ (ap (λ n. word_bits (replicate n 0)) rest ∙ zero_words m) i)
          ∙ append_assoc bits (replicate (8 * at - length bits) false) (replicate (32 * m) false)
          ∙ ap (λ (bs : List Bool). bits ++ bs) (replicate-append (8 * at - length bits) (32 * m) false ∙ ap (λ n. replicate n false) count);
    }

-- ---- shifts that lose nothing

pub shifted : (held l m : ℕ) → held < 2 ^ m → m + l ≤ 63 → held * 2 ^ l % 18446744073709551616 ≡ held * 2 ^ l
shifted held l m low few =
    let e = pow-add 2 m l in
    let mono : 2 ^ (m + l) ≤ 2 ^ 63 = pow-le-pow_right (omega arith) few in
    let below : held * 2 ^ l < 2 ^ (m + l) = let b = below_pow held m l 0 low (pow_pos l) in omega (arith, b) in
    mod-eq_of_lt (omega (arith, below, mono))

joined_low : (held count : ℕ) (c : Code) → IsLaid c → held < 2 ^ count → count < 32 → held * 2 ^ c.length + c.bits / 2 ^ (32 - c.length) < 18446744073709551616
joined_low held count c h low few =
    let below = pushed_low held count c h low in
    let short = h.low in
    let le : count + c.length ≤ 64 = omega (arith, few, short) in
    let mono : 2 ^ (count + c.length) ≤ 2 ^ 64 = pow-le-pow_right (omega arith) le in
    omega (arith, below, mono)

pub joined_value : (held count b : ℕ) (c : Code) → IsLaid c → held < 2 ^ count → count < 32 → b ≡ c.bits
    → held * 2 ^ c.length % 18446744073709551616 + b / 2 ^ (32 - c.length) ≡ held * 2 ^ c.length + c.bits / 2 ^ (32 - c.length)
joined_value held count b c h low few e =
    let short = h.low in
    λ i. shifted held c.length count low (omega (arith, few, short)) i + e i / 2 ^ (32 - c.length)

pub joined_fits : (held count b : ℕ) (c : Code) → IsLaid c → held < 2 ^ count → count < 32 → b ≡ c.bits → held * 2 ^ c.length % 18446744073709551616 + b / 2 ^ (32 - c.length) < 18446744073709551616
joined_fits held count b c h low few e = subst (λ x. x < 18446744073709551616) (sym (joined_value held count b c h low few e)) (joined_low held count c h low few)

pub topmost_fits : (held count : ℕ) → held < 2 ^ count → count < 32 → held * 2 ^ (32 - count) < 4294967296
topmost_fits held count low few =
    let sum : count + (32 - count) ≡ 32 = omega (arith, few) in
    let below : held * 2 ^ (32 - count) + 0 < 2 ^ (count + (32 - count)) = below_pow held count (32 - count) 0 low (pow_pos (32 - count)) in
    let word : held * 2 ^ (32 - count) + 0 < 2 ^ 32 = subst (λ n. held * 2 ^ (32 - count) + 0 < 2 ^ n) sum below in
    omega (arith, word)

-- ---- the codes of symbols

pub joined_take : (codes : List (List Bool)) (symbols : List ℕ) (k : ℕ) → k < length symbols
    → joined_codes codes (take (k + 1) symbols) ≡ joined_codes codes (take k symbols) ++ code_at codes (get_or symbols k 0)
joined_take codes symbols k lt = ap (joined_codes codes) (take_more symbols k 0 lt) ∙ joined_codes-push codes (take k symbols) (get_or symbols k 0)

pub joined_within : (codes : List (List Bool)) (symbols : List ℕ) (k : ℕ) → length (joined_codes codes (take k symbols)) ≤ length (joined_codes codes symbols)
joined_within codes symbols k =
    let whole = ap (joined_codes codes) (sym (take-append-drop k symbols)) ∙ joined_codes-append codes (take k symbols) (drop k symbols) in
    let size = length-append (joined_codes codes (take k symbols)) (joined_codes codes (drop k symbols)) in
    omega (arith, ap length whole, size)

pub pending_nothing : (out : List ℕ) → IsPending [] out 0 0 0
pending_nothing out = record {
  words = 0;
  whole = refl;
  within = omega arith;
  few = omega arith;
  low = pow_pos 0;
  same = sym ((λ i. word_none (take 0 out) (omega arith) i ++ bits-zero 0 i));
}

pub pending_first : (codes : List (List Bool)) (out : List ℕ) (held count at : ℕ) → IsPending [] out held count at → IsPending (joined_codes codes []) out held count at
pending_first codes out held count at h = subst (λ (bits : List Bool). IsPending bits out held count at) (sym (joined_codes-nil codes)) h

pub pending_none : (codes : List (List Bool)) (out : List ℕ) → IsPending (joined_codes codes []) out 0 0 0
pending_none codes out = pending_first codes out 0 0 0 (pending_nothing out)

pub pending_bits : (bits : List Bool) (out : List ℕ) (held count at : ℕ) → IsPending bits out held count at → 8 * at + count ≡ length bits
pending_bits bits out held count at h = sym (pending_size bits out held count at h)

-- a code more fits where all do
pub code_fits : (cs : List Code) (symbols : List ℕ) (k s : ℕ) (d : Code) → s ≡ get_or symbols k 0 → s < 256 → length cs ≡ 256 → All IsLaid cs → k < length symbols
    → length (joined_codes (codes_held cs) (take k symbols)) + (get_or cs s d).length ≤ length (joined_codes (codes_held cs) symbols)
code_fits cs symbols k s d is lt size laid k_lt =
    let codes = codes_held cs in
    let c = get_or cs s d in
    let low = (laid s d (omega (arith, lt, size))).low in
    let bits : code_at codes (get_or symbols k 0) ≡ code_bits c = ap (code_at codes) (sym is) ∙ held-at cs s d (omega (arith, lt, size)) in
    let more = length-append (joined_codes codes (take k symbols)) (code_at codes (get_or symbols k 0)) in
    omega (arith, ap length (joined_take codes symbols k k_lt), more, ap length bits, length-code_bits c low, joined_within codes symbols (k + 1))

pub joined_held : (cs : List Code) (symbols : List ℕ) (k s : ℕ) (d : Code) → s ≡ get_or symbols k 0 → s < 256 → length cs ≡ 256 → k < length symbols
    → joined_codes (codes_held cs) (take k symbols) ++ code_bits (get_or cs s d) ≡ joined_codes (codes_held cs) (take (k + 1) symbols)
joined_held cs symbols k s d is lt size k_lt =
    let codes = codes_held cs in
    ap (λ (bs : List Bool). joined_codes codes (take k symbols) ++ bs) (sym (held-at cs s d (omega (arith, lt, size))) ∙ ap (code_at codes) is) ∙ sym (joined_take codes symbols k k_lt)

pub cleared : (out : List ℕ) (at : ℕ) → at ≤ length out
    → take at out ++ (replicate (length (take (length out - at) (drop at out))) 0 ++ drop (length out - at) (drop at out)) ≡ take at out ++ replicate (length out - at) 0
cleared out at within =
    let rest = length-drop at out in
    let size = length-take-le (length out - at) (drop at out) (omega (arith, rest)) in
    let none : drop (length out - at) (drop at out) ≡ [] = nil_from_length (drop (length out - at) (drop at out)) (let d = length-drop (length out - at) (drop at out) in omega (arith, d, rest)) in
    ap (λ (xs : List ℕ). take at out ++ xs) ((λ i. replicate (size i) 0 ++ none i) ∙ append-nil (replicate (length out - at) 0))

-- ---- canonical codes

pub canonical_long : (lengths : List ℕ) (s : ℕ) → AreLengths lengths → s < 256 → length (code_at (canonical_codes lengths) s) ≡ slice_index lengths s
canonical_long lengths s h lt = ap length (canonical-at lengths s lt) ∙ length-canonical_code lengths s (h.low s lt)

pub all_coded : (lengths symbols : List ℕ) → AreLengths lengths → ((i : ℕ) → get_or symbols i 0 < 256) → All (λ s. 0 < slice_index lengths s) symbols → All (HasCode (canonical_codes lengths)) symbols
all_coded lengths symbols h low coded = All-from_get_or (HasCode (canonical_codes lengths)) symbols 0 (λ i lt.
    let some = All-get_or (λ s. 0 < slice_index lengths s) symbols i 0 lt coded in
    omega (arith, canonical_long lengths (get_or symbols i 0) h (low i), some))

pub bits_more : (lengths symbols : List ℕ) (k bits l : ℕ) → AreLengths lengths → k < length symbols → get_or symbols k 0 < 256 → bits ≡ length (joined_codes (canonical_codes lengths) (take k symbols))
    → l ≡ slice_index lengths (get_or symbols k 0) → bits + l ≡ length (joined_codes (canonical_codes lengths) (take (k + 1) symbols))
bits_more lengths symbols k bits l h lt low is el =
    let codes = canonical_codes lengths in
    let more = length-append (joined_codes codes (take k symbols)) (code_at codes (get_or symbols k 0)) in
    omega (arith, ap length (joined_take codes symbols k lt), more, canonical_long lengths (get_or symbols k 0) h low, is, el)
