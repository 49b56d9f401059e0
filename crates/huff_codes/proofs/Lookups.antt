-- Symbols found by the first eleven bits, and the window of 64 bits that these are taken from.
use Rattle.std.proofs.Common.{◌≡◌, ℕ, ◌+◌, ◌-◌, ◌*◌, ◌/◌, ◌%◌, ◌^◌, ◌<◌, ◌≤◌, Bool, List, [], ◌∷◌, ◌++◌, length, get_or, take, drop, slice_set, refl, sym, ap, ◌∙◌, subst, inl, inr, arith}
use Rattle.std.specs.Prelude.{All}
use Rattle.std.proofs.lemmas.Bool.{cases_eq}
use Rattle.std.proofs.lemmas.List.{length-append, length-set, length-take-le, length-drop, take-take, take-append-drop, take_all, take-append-le, drop-append-le, drop-take, drop-drop, drop_at, append_assoc, append-nil, take_more_set, get_or-set_same, get_or-set_other}
use Rattle.std.proofs.lemmas.List.Elements.{All-nil, All-push, All-append}
use Rattle.std.proofs.Math.Seq.{take-append-add}
use Rattle.std.proofs.lemmas.Nat.{pow-add, pow_pos, shr_high, shr_below, shr_split, mod_low, mod_below, mod-pow-add, field_of}
use Rattle.byteorder.specs.Endian.{little_number}
use Rattle.huff_codes.specs.Bits.{bits_of, word_bits, BeginsWith}
use Rattle.huff_codes.specs.Codes.{code_at, HasCode}
use Rattle.huff_codes.specs.Words.{joined_codes}
use Rattle.huff_codes.specs.declared.codes.Code.{Code}
use Rattle.huff_codes.specs.declared.words.lookup.Entry.{Entry}
use Rattle.huff_codes.specs.declared.words.reading.Cursor.{Cursor}
use Rattle.huff_codes.specs.inside.Lookup.{AreEntries, IsEntry, IsSeen, no_entry, symbols_of}
use Rattle.huff_codes.specs.inside.Looking.{IsReading}
use Rattle.huff_codes.specs.inside.Reading.{HaveReached}
use Rattle.huff_codes.specs.inside.Spans.{IsLaid}
use Rattle.huff_codes.specs.inside.Stored.{code_bits}
use Rattle.huff_codes.proofs.BitLists.{length-bits, take-bits}
use Rattle.huff_codes.proofs.Windows.{bits-append, bits-low, drop-bits, word_first, words_from}
use Rattle.huff_codes.proofs.Held.{code_bits-is, length-code_bits}
use Rattle.huff_codes.proofs.Spans.{in_span}
use Rattle.huff_codes.proofs.Reading.{joined_codes-nil, joined_codes-cons, joined_codes-append}

-- bits that are shifted up: those that go out are the first ones
pub shifted : (n s v : ℕ) → s ≤ n → take (n - s) (bits_of n (v * 2 ^ s % 2 ^ n)) ≡ drop s (bits_of n v)
shifted n s v h =
    let k = n - s in
    let whole : k + s ≡ n = omega arith in
    let turn : s + k ≡ n = omega arith in
    let less : n - k ≡ s = omega arith in
    let up : v * 2 ^ s ≡ v * 2 ^ s + 0 = omega arith in
    let down : v * 2 ^ s / 2 ^ s ≡ v = ap (λ (x : ℕ). x / 2 ^ s) up ∙ shr_high v s 0 (pow_pos s) in
    let top : v * 2 ^ s % 2 ^ n / 2 ^ s ≡ v % 2 ^ k =
    ap (λ (m : ℕ). v * 2 ^ s % 2 ^ m / 2 ^ s) (sym whole) ∙ field_of (v * 2 ^ s) k s ∙ ap (λ (x : ℕ). x % 2 ^ k) down in
    take-bits k n (v * 2 ^ s % 2 ^ n) (omega arith)
    ∙ ap (λ (m : ℕ). bits_of k (v * 2 ^ s % 2 ^ n / 2 ^ m)) less
    ∙ ap (bits_of k) top
    ∙ bits-low k k v (omega arith)
    ∙ sym (drop-bits s k v)
    ∙ ap (λ (m : ℕ). drop s (bits_of m v)) turn

-- two words, as they are seen from a bit of the first on
pub window_seen : (bytes rest : List ℕ) (bit a b : ℕ) → bit / 32 * 4 + 8 ≤ length bytes → rest ≡ take (length bytes - bit / 32 * 4) (drop (bit / 32 * 4) bytes)
    → a ≡ little_number 4 rest → b ≡ little_number 4 (drop 4 rest) → b < 2 ^ 32 → IsSeen 33 ((a * 2 ^ 32 + b) * 2 ^ (bit % 32) % 2 ^ 64) (drop bit (word_bits bytes))
window_seen bytes rest bit a b long is first second lt =
    let skip = bit % 32 in
    let v = a * 2 ^ 32 + b in
    let w = v * 2 ^ skip % 2 ^ 64 in
    let size : 8 ≤ length rest = omega (arith, ap length is, length-take-le (length bytes - bit / 32 * 4) (drop (bit / 32 * 4) bytes) (omega (arith, length-drop (bit / 32 * 4) bytes))) in
    let more = word_bits (drop 4 (drop 4 rest)) in
    let both : word_bits rest ≡ bits_of 64 v ++ more =
    word_first rest (omega arith) ∙ ap (λ (bs : List Bool). bits_of 32 (little_number 4 rest) ++ bs) (word_first (drop 4 rest) (omega (arith, length-drop 4 rest)))
    ∙ ap (λ (x : ℕ). bits_of 32 x ++ (bits_of 32 (little_number 4 (drop 4 rest)) ++ more)) (sym first)
    ∙ ap (λ (x : ℕ). bits_of 32 a ++ (bits_of 32 x ++ more)) (sym second)
    ∙ sym (append_assoc (bits_of 32 a) (bits_of 32 b) more)
    ∙ ap (λ (bs : List Bool). bs ++ more) (bits-append 32 32 a b lt) in
    let low : 33 ≤ 64 - skip = omega arith in record {
      low = omega arith;
      same = ap (take 33) (sym (words_from bytes rest bit (omega arith) is) ∙ ap (drop skip) both ∙ drop-append-le skip (bits_of 64 v) more (omega (arith, length-bits 64 v)))
          ∙ take-append-le 33 (drop skip (bits_of 64 v)) more (omega (arith, length-drop skip (bits_of 64 v), length-bits 64 v))
          ∙ ap (take 33) (sym (shifted 64 skip v (omega arith)))
          ∙ take-take 33 (64 - skip) (bits_of 64 w) low;
    }

-- ---- a window of three words

-- a number shifted up in 64 bits, and one that fits below it
shift_both : (x s q : ℕ) → s ≤ 64 → q < 2 ^ s → (x * 2 ^ s + q) % 2 ^ 64 ≡ (x % 2 ^ (64 - s)) * 2 ^ s + q
shift_both x s q le lt =
    let sum : (64 - s) + s ≡ 64 = omega (arith, le) in
    ap (λ (k : ℕ). (x * 2 ^ s + q) % 2 ^ k) (sym sum) ∙ mod-pow-add (x * 2 ^ s + q) (64 - s) s
    ∙ (λ i. (shr_high x s q lt i % 2 ^ (64 - s)) * 2 ^ s + mod_low x s q lt i)

shift_low : (x s q : ℕ) → s ≤ 64 → q < 2 ^ s → (x * 2 ^ s + q) % 2 ^ 64 ≡ x * 2 ^ s % 2 ^ 64 + q
shift_low x s q le lt =
    let none : x * 2 ^ s ≡ x * 2 ^ s + 0 = omega arith in
    let alone : x * 2 ^ s % 2 ^ 64 ≡ (x % 2 ^ (64 - s)) * 2 ^ s + 0 = ap (λ (y : ℕ). y % 2 ^ 64) none ∙ shift_both x s 0 le (pow_pos s) in
    let back : (x % 2 ^ (64 - s)) * 2 ^ s + q ≡ x * 2 ^ s % 2 ^ 64 + q = ap (λ (y : ℕ). y + q) (sym (alone ∙ (let e : (x % 2 ^ (64 - s)) * 2 ^ s + 0 ≡ (x % 2 ^ (64 - s)) * 2 ^ s = omega arith in e))) in
    shift_both x s q le lt ∙ back

-- the first bits of the third word
third_low : (s c : ℕ) → s ≤ 32 → c < 2 ^ 32 → c / 2 ^ (32 - s) < 2 ^ s
third_low s c le lt = (let sum : s + (32 - s) ≡ 32 = omega (arith, le) in shr_below c s (32 - s) (rw sum lt))

pub wide_fits : (x s c : ℕ) → s < 32 → c < 2 ^ 32 → x * 2 ^ s % 2 ^ 64 + c / 2 ^ (32 - s) < 2 ^ 64
wide_fits x s c below lt =
    let q = c / 2 ^ (32 - s) in
    let is : (x * 2 ^ s + q) % 2 ^ 64 ≡ x * 2 ^ s % 2 ^ 64 + q = shift_low x s q (omega (arith, below)) (third_low s c (omega (arith, below)) lt) in
    subst (λ (n : ℕ). n < 2 ^ 64) is (mod_below (x * 2 ^ s + q) (2 ^ 64) (pow_pos 64))

-- the 64 bits from a place on, of 96
wide_top : (x s c : ℕ) → s < 32 → (x * 2 ^ 32 + c) / 2 ^ (32 - s) ≡ x * 2 ^ s + c / 2 ^ (32 - s)
wide_top x s c below =
    let t = 32 - s in
    let q = c / 2 ^ t in
    let sum : 32 ≡ s + t = omega (arith, below) in
    let pow : x * 2 ^ 32 ≡ x * 2 ^ s * 2 ^ t = ap (λ (k : ℕ). x * 2 ^ k) sum ∙ ap (λ (y : ℕ). x * y) (pow-add 2 s t) ∙ times_through x (2 ^ s) (2 ^ t) in
    let split : x * 2 ^ 32 + c ≡ (x * 2 ^ s + q) * 2 ^ t + c % 2 ^ t =
    ap (λ (y : ℕ). y + c) pow ∙ ap (λ (y : ℕ). x * 2 ^ s * 2 ^ t + y) (sym (shr_split c t)) ∙ join_times (x * 2 ^ s) q (2 ^ t) (c % 2 ^ t) in
    ap (λ (y : ℕ). y / 2 ^ t) split ∙ shr_high (x * 2 ^ s + q) t (c % 2 ^ t) (mod_below c (2 ^ t) (pow_pos t))
  where
    times_through : (a b m : ℕ) → a * (b * m) ≡ a * b * m
    times_through a b m = grind arith

    join_times : (a b m r : ℕ) → a * m + (b * m + r) ≡ (a + b) * m + r
    join_times a b m r = grind arith

wide_bits : (x skip c w : ℕ) → skip < 32 → c < 2 ^ 32 → w ≡ x * 2 ^ skip % 2 ^ 64 + c / 2 ^ (32 - skip) → take 64 (drop skip (bits_of 96 (x * 2 ^ 32 + c))) ≡ bits_of 64 w
wide_bits x skip c w below lt is =
    let v = x * 2 ^ 32 + c in
    let sum : skip + (96 - skip) ≡ 96 = omega (arith, below) in
    let less : (96 - skip) - 64 ≡ 32 - skip = omega (arith, below) in
    let q = c / 2 ^ (32 - skip) in
    let number : v / 2 ^ (32 - skip) % 2 ^ 64 ≡ w =
    ap (λ (y : ℕ). y % 2 ^ 64) (wide_top x skip c below) ∙ shift_low x skip q (omega (arith, below)) (third_low skip c (omega (arith, below)) lt) ∙ sym is in
    ap (take 64) (ap (λ (k : ℕ). drop skip (bits_of k v)) (sym sum) ∙ drop-bits skip (96 - skip) v)
    ∙ take-bits 64 (96 - skip) v (omega (arith, below))
    ∙ ap (λ (k : ℕ). bits_of 64 (v / 2 ^ k)) less
    ∙ sym (bits-low 64 64 (v / 2 ^ (32 - skip)) (omega arith))
    ∙ ap (bits_of 64) number

-- three words, as they are seen from a bit of the first on
pub wide_seen : (bytes rest : List ℕ) (bit a b c : ℕ) → bit / 32 * 4 + 12 ≤ length bytes → rest ≡ take (length bytes - bit / 32 * 4) (drop (bit / 32 * 4) bytes)
    → a ≡ little_number 4 rest → b ≡ little_number 4 (drop 4 rest) → c ≡ little_number 4 (drop 8 rest) → b < 2 ^ 32 → c < 2 ^ 32
    → IsSeen 64 ((a * 2 ^ 32 + b) * 2 ^ (bit % 32) % 2 ^ 64 + c / 2 ^ (32 - bit % 32)) (drop bit (word_bits bytes))
wide_seen bytes rest bit a b c long is first second third b_lt c_lt =
    let skip = bit % 32 in
    let below : skip < 32 = omega arith in
    let x = a * 2 ^ 32 + b in
    let v = x * 2 ^ 32 + c in
    let w = x * 2 ^ skip % 2 ^ 64 + c / 2 ^ (32 - skip) in
    let size : 12 ≤ length rest = omega (arith, ap length is, length-take-le (length bytes - bit / 32 * 4) (drop (bit / 32 * 4) bytes) (omega (arith, length-drop (bit / 32 * 4) bytes))) in
    let eight : drop 4 (drop 4 rest) ≡ drop 8 rest = drop-drop 4 4 rest in
    let more = word_bits (drop 4 (drop 8 rest)) in
    let one : word_bits rest ≡ bits_of 32 a ++ word_bits (drop 4 rest) = word_first rest (omega (arith, size)) ∙ ap (λ (y : ℕ). bits_of 32 y ++ word_bits (drop 4 rest)) (sym first) in
    let two : word_bits (drop 4 rest) ≡ bits_of 32 b ++ word_bits (drop 8 rest) =
    word_first (drop 4 rest) (omega (arith, size, length-drop 4 rest)) ∙ ap (λ (y : ℕ). bits_of 32 y ++ word_bits (drop 4 (drop 4 rest))) (sym second)
    ∙ ap (λ (xs : List ℕ). bits_of 32 b ++ word_bits xs) eight in
    let three : word_bits (drop 8 rest) ≡ bits_of 32 c ++ more =
    word_first (drop 8 rest) (omega (arith, size, length-drop 8 rest)) ∙ ap (λ (y : ℕ). bits_of 32 y ++ more) (sym third) in
    let front : word_bits rest ≡ bits_of 64 x ++ word_bits (drop 8 rest) =
    one ∙ ap (λ (bs : List Bool). bits_of 32 a ++ bs) two ∙ sym (append_assoc (bits_of 32 a) (bits_of 32 b) (word_bits (drop 8 rest)))
    ∙ ap (λ (bs : List Bool). bs ++ word_bits (drop 8 rest)) (bits-append 32 32 a b b_lt) in
    let all : word_bits rest ≡ bits_of 96 v ++ more =
    front ∙ ap (λ (bs : List Bool). bits_of 64 x ++ bs) three ∙ sym (append_assoc (bits_of 64 x) (bits_of 32 c) more)
    ∙ ap (λ (bs : List Bool). bs ++ more) (bits-append 64 32 x c c_lt) in
    let within : bit ≤ 32 * (length bytes / 4) = omega (arith, long) in
    record {
      low = omega arith;
      same = ap (take 64) (sym (words_from bytes rest bit within is) ∙ ap (drop skip) all ∙ drop-append-le skip (bits_of 96 v) more (omega (arith, below, length-bits 96 v)))
          ∙ take-append-le 64 (drop skip (bits_of 96 v)) more (omega (arith, below, length-drop skip (bits_of 96 v), length-bits 96 v))
          ∙ wide_bits x skip c w below c_lt refl
          ∙ sym (take_all 64 (bits_of 64 w) (omega (arith, length-bits 64 w)));
    }

pub seen_less : (n m word : ℕ) (left : List Bool) → n ≤ m → IsSeen m word left → IsSeen n word left
seen_less n m word left le h = record {
  low = omega (arith, h.low);
  same = sym (take-take n m left le) ∙ ap (take n) h.same ∙ take-take n m (bits_of 64 word) le;
}

-- what is seen behind some bits
pub seen_behind : (n s word : ℕ) (left : List Bool) → IsSeen (n + s) word left → IsSeen n (word * 2 ^ s % 2 ^ 64) (drop s left)
seen_behind n s word left h =
    let w = word * 2 ^ s % 2 ^ 64 in
    let turn : s + n ≡ n + s = omega arith in
    let low : n ≤ 64 - s = omega (arith, h.low) in
    let front : take (s + n) left ≡ take (s + n) (bits_of 64 word) = rw turn h.same in record {
      low = omega (arith, h.low);
      same = sym (drop-take s n left) ∙ ap (drop s) front ∙ drop-take s n (bits_of 64 word) ∙ ap (take n) (sym (shifted 64 s word (omega (arith, h.low)))) ∙ take-take n (64 - s) (bits_of 64 w) low;
    }

-- the codes of an entry stand next
pub entry_next : (codes : List (List Bool)) (n word : ℕ) (left : List Bool) (e : Entry) → IsSeen (n + 11) word left → IsEntry codes (word / 2 ^ 53) e → BeginsWith left (joined_codes codes (symbols_of e))
entry_next codes n word left e seen is =
    let joined = joined_codes codes (symbols_of e) in
    let front : take 11 left ≡ bits_of 11 (word / 2 ^ 53) = (seen_less 11 (n + 11) word left (omega arith) seen).same ∙ take-bits 11 64 word (omega arith) in
    let rest = is.stand.0 ++ drop 11 left in
    (rest, sym (take-append-drop 11 left) ∙ ap (λ (bs : List Bool). bs ++ drop 11 left) (front ∙ is.stand.1) ∙ append_assoc joined is.stand.0 (drop 11 left))

pub reach_all : (codes : List (List Bool)) (bytes symbols more : List ℕ) (bit size : ℕ) → HaveReached codes bytes symbols bit → All (HasCode codes) more
    → BeginsWith (drop bit (word_bits bytes)) (joined_codes codes more) → size ≡ length (joined_codes codes more) → HaveReached codes bytes (symbols ++ more) (bit + size)
reach_all codes bytes symbols more bit size h coded (rest, left) takes =
    let next = joined_codes codes more in
    let after : drop (bit + size) (word_bits bytes) ≡ rest = sym (drop-drop size bit (word_bits bytes)) ∙ ap (drop size) left ∙ drop_at next rest size (sym takes) in record {
      coded = All-append (HasCode codes) symbols more h.coded coded;
      takes = omega (arith, h.takes, takes, ap length (joined_codes-append codes symbols more), length-append (joined_codes codes symbols) next);
      bits = h.bits ∙ ap (λ (bs : List Bool). joined_codes codes symbols ++ bs) left ∙ sym (append_assoc (joined_codes codes symbols) next rest)
          ∙ ap (λ (bs : List Bool). bs ++ rest) (sym (joined_codes-append codes symbols more))
          ∙ ap (λ (bs : List Bool). joined_codes codes (symbols ++ more) ++ bs) (sym after);
    }

-- two elements are written, of which the first n count
pub put_two : (out : List ℕ) (i a b n : ℕ) → i + 2 ≤ length out → n ≤ 2 → take (i + n) (slice_set (slice_set out i a) (i + 1) b) ≡ take i out ++ take n (a ∷ (b ∷ []))
put_two out i a b n room few =
    let one = slice_set out i a in
    let new = slice_set one (i + 1) b in
    let sum : i + 2 ≡ (i + 1) + 1 = omega arith in
    let both : take (i + 2) new ≡ take i out ++ a ∷ (b ∷ []) =
    ap (λ (k : ℕ). take k new) sum ∙ take_more_set one (i + 1) b (omega (arith, length-set out i a))
    ∙ ap (λ (xs : List ℕ). xs ++ b ∷ []) (take_more_set out i a (omega arith)) ∙ append_assoc (take i out) (a ∷ []) (b ∷ []) in
    let size : length (take i out) ≡ i = length-take-le i out (omega arith) in
    sym (take-take (i + n) (i + 2) new (omega arith)) ∙ ap (take (i + n)) both ∙ ap (λ (k : ℕ). take (k + n) (take i out ++ a ∷ (b ∷ []))) (sym size)
    ∙ take-append-add (take i out) (a ∷ (b ∷ [])) n

-- one step by an entry
pub step_reads : (codes : List (List Bool)) (bytes before out : List ℕ) (n : ℕ) (c : Cursor) (e : Entry) → c.count + 2 ≤ length out → e.count ≤ 2 → e.length ≤ 11 → IsEntry codes (c.window / 2 ^ 53) e
    → IsReading codes bytes before out (n + 11) c
    → IsReading codes bytes before (slice_set (slice_set out c.count e.first) (c.count + 1) e.second) n (record { window = c.window * 2 ^ e.length % 2 ^ 64; bit = c.bit + e.length; count = c.count + e.count })
step_reads codes bytes before out n c e room few low is h =
    let left = drop c.bit (word_bits bytes) in
    let new = slice_set (slice_set out c.count e.first) (c.count + 1) e.second in
    let reached = reach_all codes bytes (before ++ take c.count out) (symbols_of e) c.bit e.length h.reached is.coded (entry_next codes n c.window left e h.seen is) is.takes in
    let all : before ++ take (c.count + e.count) new ≡ (before ++ take c.count out) ++ symbols_of e =
    ap (λ (xs : List ℕ). before ++ xs) (put_two out c.count e.first e.second e.count room few) ∙ sym (append_assoc before (take c.count out) (symbols_of e)) in record {
      reached = subst (λ (xs : List ℕ). HaveReached codes bytes xs (c.bit + e.length)) (sym all) reached;
      seen = subst (IsSeen n (c.window * 2 ^ e.length % 2 ^ 64)) (drop-drop e.length c.bit (word_bits bytes))
          (seen_behind n e.length c.window left (seen_less (n + e.length) (n + 11) c.window left (omega arith) h.seen));
    }

-- ---- the table

pub entry_none : (codes : List (List Bool)) (k : ℕ) → IsEntry codes k no_entry
entry_none codes k = record {
  coded = All-nil (HasCode codes);
  stand = (bits_of 11 k, ap (λ (bs : List Bool). bs ++ bits_of 11 k) (sym (joined_codes-nil codes)));
  takes = sym (ap length (joined_codes-nil codes));
}

joined_codes-one : (codes : List (List Bool)) (s : ℕ) → joined_codes codes (s ∷ []) ≡ code_at codes s
joined_codes-one codes s = joined_codes-cons codes s [] ∙ ap (λ (bs : List Bool). code_at codes s ++ bs) (joined_codes-nil codes) ∙ append-nil (code_at codes s)

-- where a code's eleven bits begin, and what is a multiple there
from_is : (c : Code) → IsLaid c → 0 < c.length → c.length ≤ 11 → c.bits / 2 ^ 21 ≡ c.bits / 2 ^ (32 - c.length) * 2 ^ (11 - c.length)
from_is c laid some low =
    let j = 11 - c.length in
    let q = c.bits / 2 ^ (32 - c.length) in
    let sum : 32 - c.length ≡ j + 21 = omega arith in
    let whole : c.bits ≡ q * 2 ^ (32 - c.length) = omega (arith, shr_split c.bits (32 - c.length), laid.aligned some) in
    let split : c.bits ≡ (q * 2 ^ j) * 2 ^ 21 + 0 = omega (arith, whole, ap (λ (k : ℕ). q * 2 ^ k) sum, ap (λ (x : ℕ). q * x) (pow-add 2 j 21)) in
    ap (λ (x : ℕ). x / 2 ^ 21) split ∙ shr_high (q * 2 ^ j) 21 0 (pow_pos 21)

pub from_within : (c : Code) → IsLaid c → 0 < c.length → c.length ≤ 11 → c.bits / 2 ^ 21 + 2 ^ (11 - c.length) ≤ 2048
from_within c laid some low =
    let l = c.length in
    let j = 11 - l in
    let q = c.bits / 2 ^ (32 - l) in
    let sum : l + (32 - l) ≡ 32 = omega arith in
    let eleven : l + j ≡ 11 = omega arith in
    let q_lt : q < 2 ^ l = shr_below c.bits l (32 - l) (rw sum laid.fits) in
    let pow : 2 ^ l * 2 ^ j ≡ 2048 = sym (pow-add 2 l j) ∙ ap (λ (k : ℕ). 2 ^ k) eleven in
    let le : (q + 1) * 2 ^ j ≤ 2 ^ l * 2 ^ j = mul_le (q + 1) (2 ^ l) (2 ^ j) (omega arith) in
    omega (arith, from_is c laid some low, pow, le)
  where
    mul_le : (a b x : ℕ) → a ≤ b → a * x ≤ b * x
    mul_le a b x h = grind arith

pub entry_single : (codes : List (List Bool)) (c : Code) (symbol k : ℕ) (e : Entry) → IsLaid c → 0 < c.length → c.length ≤ 11 → code_at codes symbol ≡ code_bits c → e.first ≡ symbol → e.count ≡ 1 → e.length ≡ c.length
    → c.bits / 2 ^ 21 ≤ k → k < c.bits / 2 ^ 21 + 2 ^ (11 - c.length) → IsEntry codes k e
entry_single codes c symbol k e laid some low is first one length_is le lt =
    let l = c.length in
    let j = 11 - l in
    let q = c.bits / 2 ^ (32 - l) in
    let from = c.bits / 2 ^ 21 in
    let multiple : from ≡ q * 2 ^ j = from_is c laid some low in
    let multiple_zero : from ≡ q * 2 ^ j + 0 = omega arith in
    let aligned : from % 2 ^ j ≡ 0 = ap (λ (x : ℕ). x % 2 ^ j) multiple_zero ∙ mod_low q j 0 (pow_pos j) in
    let top : k / 2 ^ j ≡ q = in_span j from k aligned le lt ∙ ap (λ (x : ℕ). x / 2 ^ j) multiple_zero ∙ shr_high q j 0 (pow_pos j) in
    let code : take l (bits_of 11 k) ≡ code_bits c =
    take-bits l 11 k low ∙ ap (bits_of l) top ∙ sym (take-bits l 32 c.bits (omega arith)) ∙ sym (code_bits-is c) in
    let symbols : symbols_of e ≡ symbol ∷ [] = ap (λ (n : ℕ). take n (e.first ∷ (e.second ∷ []))) one ∙ ap (λ (s : ℕ). s ∷ []) first in
    let joined : joined_codes codes (symbols_of e) ≡ code_bits c = ap (joined_codes codes) symbols ∙ joined_codes-one codes symbol ∙ is in
    let size : length (code_bits c) ≡ l = length-code_bits c laid.low in
    let coded : HasCode codes symbol = omega (arith, ap length is, size) in record {
      coded = subst (All (HasCode codes)) (sym symbols) (All-push (HasCode codes) [] symbol (All-nil (HasCode codes)) coded);
      stand = (drop l (bits_of 11 k), sym (take-append-drop l (bits_of 11 k)) ∙ ap (λ (bs : List Bool). bs ++ drop l (bits_of 11 k)) (code ∙ sym joined));
      takes = omega (arith, length_is, size, ap length joined);
    }

pub entry_both : (codes : List (List Bool)) (k : ℕ) (one two both : Entry) → IsEntry codes k one → IsEntry codes (k * 2 ^ one.length % 2 ^ 11) two → one.length + two.length ≤ 11
    → symbols_of both ≡ symbols_of one ++ symbols_of two → both.length ≡ one.length + two.length → IsEntry codes k both
entry_both codes k one two both p q fit symbols length_is =
    let front = joined_codes codes (symbols_of one) in
    let next = joined_codes codes (symbols_of two) in
    let bits = bits_of 11 k in
    let l = one.length in
    let behind : drop l bits ≡ p.stand.0 = ap (drop l) p.stand.1 ∙ drop_at front p.stand.0 l (sym p.takes) in
    let follows : p.stand.0 ≡ next ++ take (11 - l - two.length) q.stand.0 =
    sym behind ∙ sym (shifted 11 l k (omega arith)) ∙ ap (take (11 - l)) q.stand.1
    ∙ (let sum : 11 - l ≡ length next + (11 - l - two.length) = omega (arith, q.takes) in ap (λ (m : ℕ). take m (next ++ q.stand.0)) sum)
    ∙ take-append-add next q.stand.0 (11 - l - two.length) in
    let joined : joined_codes codes (symbols_of both) ≡ front ++ next = ap (joined_codes codes) symbols ∙ joined_codes-append codes (symbols_of one) (symbols_of two) in
    let rest = take (11 - l - two.length) q.stand.0 in record {
      coded = subst (All (HasCode codes)) (sym symbols) (All-append (HasCode codes) (symbols_of one) (symbols_of two) p.coded q.coded);
      stand = (rest, p.stand.1 ∙ ap (λ (bs : List Bool). front ++ bs) follows ∙ sym (append_assoc front next rest) ∙ ap (λ (bs : List Bool). bs ++ rest) (sym joined));
      takes = omega (arith, length_is, p.takes, q.takes, ap length joined, length-append front next);
    }

pub entries_set : (codes : List (List Bool)) (entries : List Entry) (k : ℕ) (e : Entry) → AreEntries codes entries → IsEntry codes k e → AreEntries codes (slice_set entries k e)
entries_set codes entries k e h is j below =
    let size : length (slice_set entries k e) ≡ length entries = length-set entries k e in
    elim (cases_eq j k) [
      | inl same ↦
          subst (λ (i : ℕ). IsEntry codes i (get_or (slice_set entries k e) i no_entry)) (sym same)
          (subst (IsEntry codes k) (sym (get_or-set_same entries k e no_entry (omega arith))) is)
      | inr other ↦ subst (IsEntry codes j) (sym (get_or-set_other entries k j e no_entry other)) (h j (omega arith))
    ]
