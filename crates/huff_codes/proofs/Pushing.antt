-- Codes that are written as numbers, and words that are written before they are whole.
use Rattle.std.proofs.Common.{◌≡◌, ℕ, ◌+◌, ◌-◌, ◌*◌, ◌/◌, ◌%◌, ◌^◌, ◌<◌, ◌≤◌, Bool, List, ◌++◌, length, take, get_or, sym, ap, ◌∙◌, subst, inl, inr, arith}
use Rattle.std.proofs.lemmas.Bool.{cases_lt}
use Rattle.std.proofs.lemmas.List.{append_assoc, get_or_default, length-append, length-take-le, take-take, take_at}
use Rattle.std.proofs.lemmas.Nat.{pow-add, pow_pos, mod-pow-add, field_of, shl-shr, shr_high, mod_low}
use Rattle.std.proofs.Math.Nat.{mod-lt, mul-mod_left, pow-le-pow_right}
use Rattle.byteorder.specs.Endian.{little_bytes}
use Rattle.huff_codes.specs.Bits.{bits_of, word_bits}
use Rattle.huff_codes.specs.Codes.{code_at}
use Rattle.huff_codes.specs.Words.{joined_codes}
use Rattle.huff_codes.specs.declared.words.word_pairs.CodeNumber.{CodeNumber}
use Rattle.huff_codes.specs.inside.Filling.{IsPending, IsLoose, IsNumbered, no_number}
use Rattle.huff_codes.proofs.BitLists.{length-bits}
use Rattle.huff_codes.proofs.Windows.{bits-append}
use Rattle.huff_codes.proofs.Filling.{joined_take, joined_within, pending_bits, put_word_bits, shifted}

-- ---- numbers

-- what is shifted out at 64 bits is lost
pub shift_keeps : (h l : ℕ) → l ≤ 64 → h * 2 ^ l % 18446744073709551616 ≡ h % 2 ^ (64 - l) * 2 ^ l
shift_keeps h l low =
    let sum : (64 - l) + l ≡ 64 = omega (arith, low) in
    ap (λ n. h * 2 ^ l % 2 ^ n) (sym sum) ∙ mod-pow-add (h * 2 ^ l) (64 - l) l
    ∙ (λ i. shl-shr h l i % 2 ^ (64 - l) * 2 ^ l + mul-mod_left h (2 ^ l) i)
    ∙ (let e : h % 2 ^ (64 - l) * 2 ^ l + 0 ≡ h % 2 ^ (64 - l) * 2 ^ l = omega arith in e)

pub appended_fits : (h l n : ℕ) → l ≤ 64 → n < 2 ^ l → h % 2 ^ (64 - l) * 2 ^ l + n < 18446744073709551616
appended_fits h l n low small =
    let sum : (64 - l) + l ≡ 64 = omega (arith, low) in
    let e : 2 ^ (64 - l) * 2 ^ l ≡ 2 ^ 64 = sym (pow-add 2 (64 - l) l) ∙ ap (λ k. 2 ^ k) sum in
    let below : h % 2 ^ (64 - l) < 2 ^ (64 - l) = mod-lt h (pow_pos (64 - l)) in
    by (h % 2 ^ (64 - l)) (2 ^ (64 - l)) (2 ^ l) (2 ^ 64) n below small e
  where
    by : (q m p all n : ℕ) → q < m → n < p → m * p ≡ all → q * p + n < all
    by q m p all n a b e = grind arith

mod_less : (h j k : ℕ) → h % 2 ^ (j + k) % 2 ^ k ≡ h % 2 ^ k
mod_less h j k =
    let low : h % 2 ^ k < 2 ^ k = mod-lt h (pow_pos k) in
    ap (λ n. n % 2 ^ k) (mod-pow-add h j k) ∙ mod_low (h / 2 ^ k % 2 ^ j) k (h % 2 ^ k) low

-- the lowest bits of what is appended
pub appended_low : (h l n count : ℕ) → n < 2 ^ l → count + l ≤ 64 → (h % 2 ^ (64 - l) * 2 ^ l + n) % 2 ^ (count + l) ≡ h % 2 ^ count * 2 ^ l + n
appended_low h l n count small few =
    let q = h % 2 ^ (64 - l) in
    let sum : (64 - l - count) + count ≡ 64 - l = omega (arith, few) in
    let low : q % 2 ^ count ≡ h % 2 ^ count = ap (λ m. h % 2 ^ m % 2 ^ count) (sym sum) ∙ mod_less h (64 - l - count) count in
    mod-pow-add (q * 2 ^ l + n) count l
    ∙ (λ i. shr_high q l n small i % 2 ^ count * 2 ^ l + mod_low q l n small i)
    ∙ ap (λ m. m * 2 ^ l + n) low

-- ---- one code more

pushed : (bits : List Bool) (out : List ℕ) (held count at l n : ℕ) → n < 2 ^ l → IsPending bits out held count at
    → bits ++ bits_of l n ≡ word_bits (take at out) ++ bits_of (count + l) (held * 2 ^ l + n)
pushed bits out held count at l n small h =
    (λ i. h.same i ++ bits_of l n) ∙ append_assoc (word_bits (take at out)) (bits_of count held) (bits_of l n)
    ∙ ap (λ (bs : List Bool). word_bits (take at out) ++ bs) (bits-append count l held n small)

below_pow : (held count l n : ℕ) → held < 2 ^ count → n < 2 ^ l → held * 2 ^ l + n < 2 ^ (count + l)
below_pow held count l n a b = below (2 ^ count) (2 ^ l) (2 ^ (count + l)) held n a b (pow-add 2 count l)
  where
    below : (m n mn held c : ℕ) → held < m → c < n → mn ≡ m * n → held * n + c < mn
    below m n mn held c a b e = grind arith

-- where no word is whole, what was written in front stays
pub loose_more : (bits : List Bool) (out new : List ℕ) (held count at l n held2 w : ℕ) → n < 2 ^ l → count + l < 32 → IsLoose bits out held count at → held2 ≡ held % 2 ^ (64 - l) * 2 ^ l + n
    → length new ≡ length out → take (at + 4) new ≡ take at out ++ little_bytes 4 w → IsLoose (bits ++ bits_of l n) new held2 (count + l) at
loose_more bits out new held count at l n held2 w small few h e long is =
    let within = h.within in
    let value : held2 % 2 ^ (count + l) ≡ held % 2 ^ count * 2 ^ l + n = ap (λ x. x % 2 ^ (count + l)) e ∙ appended_low held l n count small (omega (arith, few)) in
    let front : take at new ≡ take at out = sym (take-take at (at + 4) new (omega arith)) ∙ ap (take at) is ∙ take_at (take at out) (little_bytes 4 w) at (length-take-le at out within) in
    record {
      words = h.words;
      whole = h.whole;
      within = omega (arith, within, long);
      few = few;
      low = mod-lt held2 (pow_pos (count + l));
      same = pushed bits out (held % 2 ^ count) count at l n small h
          ∙ (λ i. word_bits (sym front i) ++ bits_of (count + l) (sym value i));
    }

-- where one is, it is the one that was written
pub loose_word : (bits : List Bool) (out new : List ℕ) (held count at l n held2 rest w : ℕ) → n < 2 ^ l → l ≤ 32 → count + l ≡ 32 + rest → rest < 32 → at + 4 ≤ length out → IsLoose bits out held count at
    → held2 ≡ held % 2 ^ (64 - l) * 2 ^ l + n → w ≡ held2 / 2 ^ rest % 2 ^ 32 → length new ≡ length out → take (at + 4) new ≡ take at out ++ little_bytes 4 w
    → IsLoose (bits ++ bits_of l n) new held2 rest (at + 4)
loose_word bits out new held count at l n held2 rest w small low sum few room h e ew long is =
    let whole = held % 2 ^ count * 2 ^ l + n in
    let value : held2 % 2 ^ (32 + rest) ≡ whole = ap (λ m. held2 % 2 ^ m) (sym sum) ∙ ap (λ x. x % 2 ^ (count + l)) e ∙ appended_low held l n count small (omega (arith, sum, few)) in
    let word : whole / 2 ^ rest ≡ w = ap (λ x. x / 2 ^ rest) (sym value) ∙ field_of held2 32 rest ∙ sym ew in
    let left : whole % 2 ^ rest ≡ held2 % 2 ^ rest = ap (λ x. x % 2 ^ rest) (sym value) ∙ mod_less held2 32 rest in
    let fits : w < 2 ^ 32 = subst (λ x. x < 2 ^ 32) (sym ew) (mod-lt (held2 / 2 ^ rest) (pow_pos 32)) in
    let split : bits_of (32 + rest) whole ≡ bits_of 32 (whole / 2 ^ rest) ++ bits_of rest (whole % 2 ^ rest) =
    ap (bits_of (32 + rest)) (parts whole (2 ^ rest)) ∙ sym (bits-append 32 rest (whole / 2 ^ rest) (whole % 2 ^ rest) (mod-lt whole (pow_pos rest))) in
    record {
      words = h.words + 1;
      whole = (let at_whole = h.whole in omega (arith, at_whole));
      within = omega (arith, long, room);
      few = few;
      low = mod-lt held2 (pow_pos rest);
      same = pushed bits out (held % 2 ^ count) count at l n small h
          ∙ ap (λ m. word_bits (take at out) ++ bits_of m whole) sum
          ∙ ap (λ (bs : List Bool). word_bits (take at out) ++ bs) (split ∙ (λ i. bits_of 32 (word i) ++ bits_of rest (left i)))
          ∙ sym (append_assoc (word_bits (take at out)) (bits_of 32 w) (bits_of rest (held2 % 2 ^ rest)))
          ∙ ap (λ (bs : List Bool). bs ++ bits_of rest (held2 % 2 ^ rest)) (sym (put_word_bits out new h.words at w h.whole room fits is));
    }
  where
    parts : (x m : ℕ) → x ≡ x / m * m + x % m
    parts x m = omega arith

pub loose_push : (bits : List Bool) (out new : List ℕ) (held count at l n held2 w : ℕ) → n < 2 ^ l → l ≤ 32 → at + 4 ≤ length out → IsLoose bits out held count at
    → held2 ≡ held % 2 ^ (64 - l) * 2 ^ l + n → w ≡ held2 / 2 ^ ((count + l) % 32) % 2 ^ 32 → length new ≡ length out → take (at + 4) new ≡ take at out ++ little_bytes 4 w
    → IsLoose (bits ++ bits_of l n) new held2 ((count + l) % 32) (at + (count + l) / 32 * 4)
loose_push bits out new held count at l n held2 w small low room h e ew long is =
    let few = h.few in
    elim (cases_lt (count + l) 32) [
      | inl less ↦
          let rest : (count + l) % 32 ≡ count + l = omega (arith, less) in
          let place : at + (count + l) / 32 * 4 ≡ at = omega (arith, less) in
          subst (λ m. IsLoose (bits ++ bits_of l n) new held2 m (at + (count + l) / 32 * 4)) (sym rest)
          (subst (λ m. IsLoose (bits ++ bits_of l n) new held2 (count + l) m) (sym place) (loose_more bits out new held count at l n held2 w small less h e long is))
      | inr more ↦
          let sum : count + l ≡ 32 + (count + l) % 32 = omega (arith, more, few, low) in
          let place : at + (count + l) / 32 * 4 ≡ at + 4 = omega (arith, more, few, low) in
          subst (λ m. IsLoose (bits ++ bits_of l n) new held2 ((count + l) % 32) m) (sym place)
          (loose_word bits out new held count at l n held2 ((count + l) % 32) w small low sum (omega arith) room h e ew long is)
    ]

-- ---- two codes as one

pub pair_value : (a b la lb : ℕ) → a < 2 ^ la → la + lb ≤ 32 → a * 2 ^ lb % 18446744073709551616 + b ≡ a * 2 ^ lb + b
pair_value a b la lb small short = ap (λ x. x + b) (shifted a lb la small (omega (arith, short)))

pub pair_small : (a b la lb : ℕ) → a < 2 ^ la → b < 2 ^ lb → a * 2 ^ lb + b < 2 ^ (la + lb)
pair_small a b la lb sa sb = below_pow a la lb b sa sb

pub pair_fits : (a b la lb : ℕ) → a < 2 ^ la → b < 2 ^ lb → la + lb ≤ 32 → a * 2 ^ lb + b < 4294967296
pair_fits a b la lb sa sb short =
    let below = pair_small a b la lb sa sb in
    let most : 2 ^ (la + lb) ≤ 2 ^ 32 = pow-le-pow_right (omega arith) short in
    omega (arith, below, most)

-- ---- the codes of symbols

-- the code of a symbol as a number
pub numbered_at : (codes : List (List Bool)) (numbers : List CodeNumber) (symbols : List ℕ) (k s : ℕ) (d : CodeNumber) → ((t : ℕ) → t < 256 → IsNumbered (code_at codes t) (get_or numbers t no_number)) → length numbers ≡ 256
    → s ≡ get_or symbols k 0 → s < 256 → IsNumbered (code_at codes (get_or symbols k 0)) (get_or numbers s d)
numbered_at codes numbers symbols k s d each size is low =
    subst (λ t. IsNumbered (code_at codes t) (get_or numbers s d)) is
    (subst (IsNumbered (code_at codes s)) (get_or_default numbers s no_number d (omega (arith, low, size))) (each s low))

-- one code more, and two
pub joined_one : (codes : List (List Bool)) (symbols : List ℕ) (k : ℕ) (c : CodeNumber) → k < length symbols → IsNumbered (code_at codes (get_or symbols k 0)) c
    → joined_codes codes (take k symbols) ++ bits_of c.length c.number ≡ joined_codes codes (take (k + 1) symbols)
joined_one codes symbols k c lt h = ap (λ (bs : List Bool). joined_codes codes (take k symbols) ++ bs) h.same ∙ sym (joined_take codes symbols k lt)

pub joined_two : (codes : List (List Bool)) (symbols : List ℕ) (k : ℕ) (a b : CodeNumber) → k + 1 < length symbols → IsNumbered (code_at codes (get_or symbols k 0)) a → IsNumbered (code_at codes (get_or symbols (k + 1) 0)) b
    → joined_codes codes (take k symbols) ++ (bits_of a.length a.number ++ bits_of b.length b.number) ≡ joined_codes codes (take (k + 2) symbols)
joined_two codes symbols k a b lt ha hb =
    sym (append_assoc (joined_codes codes (take k symbols)) (bits_of a.length a.number) (bits_of b.length b.number))
    ∙ ap (λ (bs : List Bool). bs ++ bits_of b.length b.number) (joined_one codes symbols k a (omega (arith, lt)) ha)
    ∙ joined_one codes symbols (k + 1) b lt hb
    ∙ (let e : k + 1 + 1 ≡ k + 2 = omega arith in ap (λ n. joined_codes codes (take n symbols)) e)

pub numbered_long : (bits : List Bool) (c : CodeNumber) → IsNumbered bits c → length bits ≡ c.length
numbered_long bits c h = ap length (sym h.same) ∙ length-bits c.length c.number

-- with what is written, a code more stays within all
pub one_within : (codes : List (List Bool)) (symbols : List ℕ) (k : ℕ) (c : CodeNumber) → k < length symbols → IsNumbered (code_at codes (get_or symbols k 0)) c
    → length (joined_codes codes (take k symbols)) + c.length ≤ length (joined_codes codes symbols)
one_within codes symbols k c lt h =
    let more = length-append (joined_codes codes (take k symbols)) (code_at codes (get_or symbols k 0)) in
    let long = numbered_long (code_at codes (get_or symbols k 0)) c h in
    omega (arith, ap length (joined_take codes symbols k lt), more, long, joined_within codes symbols (k + 1))

pub loose_bits : (bits : List Bool) (out : List ℕ) (held count at : ℕ) → IsLoose bits out held count at → 8 * at + count ≡ length bits
loose_bits bits out held count at h = pending_bits bits out (held % 2 ^ count) count at h

-- the bits of two codes more
pub two_long : (codes : List (List Bool)) (symbols : List ℕ) (k : ℕ) (a b : CodeNumber) → k + 1 < length symbols → IsNumbered (code_at codes (get_or symbols k 0)) a → IsNumbered (code_at codes (get_or symbols (k + 1) 0)) b
    → length (joined_codes codes (take k symbols)) + a.length + b.length ≡ length (joined_codes codes (take (k + 2) symbols))
two_long codes symbols k a b lt ha hb =
    let whole = ap length (joined_two codes symbols k a b lt ha hb) in
    let out = length-append (joined_codes codes (take k symbols)) (bits_of a.length a.number ++ bits_of b.length b.number) in
    let pair = length-append (bits_of a.length a.number) (bits_of b.length b.number) in
    omega (arith, whole, out, pair, length-bits a.length a.number, length-bits b.length b.number)
