-- Symbols as they are counted, and the length of their codes by the counts.
use Rattle.std.proofs.Common.{◌≡◌, ℕ, zero, suc, ◌+◌, ◌*◌, ◌^◌, ◌<◌, ◌≤◌, nat_eq, cond, List, [], ◌∷◌, ◌++◌, length, get_or, slice_index, take, replicate, refl, sym, ap, ◌∙◌, subst, arith, ◌⊎◌, inl, inr, ◌-◌, drop}
use Rattle.std.specs.Prelude.{slice_set, sum}
use Rattle.std.specs.List.{count_by}
use Rattle.std.proofs.lemmas.Bool.{cases_eq, cases_lt, eq-eqb, ne_eqb}
use Rattle.std.proofs.lemmas.List.{length-append, length-take-le, get_or-set_same, get_or-set_other, get_or-replicate, get_or_past, take_all, take_more, take-append-drop}
use Rattle.std.proofs.lemmas.List.FromFn.{get_or-map-range_with_len, length-map-range_with_len}
use Rattle.std.proofs.lemmas.List.Sums.{get_or-le-sum_by, sum_by-append, sum_by-cons, sum_by-set, sum_by_push}
use Rattle.std.proofs.lemmas.List.Folds.{sum_by-replicate}
use Rattle.std.proofs.Math.ListN.{length-set}
use Rattle.std.proofs.Math.Seq.{take-add}
use Rattle.std.proofs.Math.Nat.{mul-le-mul_left}
use Rattle.huff_codes.specs.Sums.{sum_below}
use Rattle.huff_codes.specs.Codes.{AreLengths, code_at, canonical_codes}
use Rattle.huff_codes.specs.Words.{joined_codes}
use Rattle.huff_codes.specs.Counts.{counts_of}
use Rattle.huff_codes.specs.inside.Tallied.{AreAdded, AreTables, sums_of}
use Rattle.huff_codes.proofs.Kraft.{sum-same, sum-le, sum-add, sum-none, sum-one, sum-zero, sum-suc}
use Rattle.huff_codes.proofs.Made.{length-canonical_codes, length-canonical-at}
use Rattle.huff_codes.proofs.Reading.{joined_codes-nil, joined_codes-cons}
use Rattle.huff_codes.proofs.ChosenTables.{listed}
use Rattle.huff_codes.proofs.Totals.{sum_is}

-- ---- counting

pub added_none : (counts : List ℕ) → length counts ≡ 256 → AreAdded [] counts counts
added_none counts room = record {
  room = room;
  each = λ s lt. omega arith;
  total = omega arith;
}

added_push : (symbols old new : List ℕ) (s : ℕ) → s < 256 → AreAdded symbols old new → AreAdded (symbols ++ s ∷ []) old (slice_set new s (get_or new s 0 + 1))
added_push symbols old new s low h = record {
  room = length-set new s (get_or new s 0 + 1) ∙ h.room;
  each = λ t t_lt. by t t_lt (cases_eq t s);
  total =
      let more = sum_by-set (λ x. x) new s (get_or new s 0 + 1) 0 within in
      let long = length-append symbols (s ∷ []) in
      omega (arith, more, h.total, long);
}
  where
    within : s < length new
    within = let long = h.room in omega (arith, long, low)

    by : (t : ℕ) → t < 256 → (t ≡ s) ⊎ ((t ≡ s) → ⊥) → get_or (slice_set new s (get_or new s 0 + 1)) t 0 ≡ get_or old t 0 + count_by (nat_eq t) (symbols ++ s ∷ [])
    by t t_lt (inl same) =
        let one : ◌≡◌ {A = ℕ} (cond (nat_eq t s) 1 0) 1 = rw (eq-eqb t s same) refl in
        let pushed = sum_by_push (λ (x : ℕ). cond (nat_eq t x) 1 0) symbols s in
        let before = h.each t t_lt in
        let set_ : get_or (slice_set new s (get_or new s 0 + 1)) t 0 ≡ get_or new s 0 + 1 = ap (λ n. get_or (slice_set new s (get_or new s 0 + 1)) n 0) same ∙ get_or-set_same new s (get_or new s 0 + 1) 0 within in
        let at : get_or new s 0 ≡ get_or new t 0 = ap (λ n. get_or new n 0) (sym same) in
        omega (arith, set_, at, before, pushed, one)
    by t t_lt (inr other) =
        let none : ◌≡◌ {A = ℕ} (cond (nat_eq t s) 1 0) 0 = rw (ne_eqb t s other) refl in
        let pushed = sum_by_push (λ (x : ℕ). cond (nat_eq t x) 1 0) symbols s in
        let set_ = get_or-set_other new s t (get_or new s 0 + 1) 0 other in
        omega (arith, set_, h.each t t_lt, pushed, none)

-- one symbol more of a list
pub added_more : (symbols old new : List ℕ) (k s : ℕ) → k < length symbols → s ≡ get_or symbols k 0 → s < 256 → AreAdded (take k symbols) old new → AreAdded (take (k + 1) symbols) old (slice_set new s (get_or new s 0 + 1))
added_more symbols old new k s lt is low h =
    subst (λ (xs : List ℕ). AreAdded xs old (slice_set new s (get_or new s 0 + 1))) (ap (λ x. take k symbols ++ x ∷ []) is ∙ sym (take_more symbols k 0 lt)) (added_push (take k symbols) old new s low h)

-- the whole of a list
pub added_all : (symbols old new : List ℕ) (k : ℕ) → length symbols ≤ k → AreAdded (take k symbols) old new → AreAdded symbols old new
added_all symbols old new k past h = subst (λ (xs : List ℕ). AreAdded xs old new) (take_all k symbols past) h

-- no count is above the sum of all
pub count_low : (counts : List ℕ) (s : ℕ) → get_or counts s 0 ≤ sum counts
count_low counts s = elim (cases_lt s (length counts)) [
  | inl lt ↦ get_or-le-sum_by (λ x. x) counts s 0 lt
  | inr past ↦ let none = get_or_past counts s 0 past in omega (arith, none)
]

-- one count more that is not too large
pub count_fits : (symbols old new : List ℕ) (k s : ℕ) → k < length symbols → sum old + length symbols < 2 ^ 32 → AreAdded (take k symbols) old new → get_or new s 0 + 1 < 2 ^ 32
count_fits symbols old new k s lt few h =
    let low = count_low new s in
    let size = length-take-le k symbols (omega (arith, lt)) in
    omega (arith, low, size, h.total, few, lt)

pub counted_at : (symbols : List ℕ) (s : ℕ) → s < 256 → slice_index (counts_of symbols) s ≡ count_by (nat_eq s) symbols
unfolding counts_of
counted_at symbols s lt = get_or-map-range_with_len (λ (t : ℕ). count_by (nat_eq t) symbols) 0 256 s s 0 lt (omega arith)

-- ---- four tables

pub sums_at : (a b c d : List ℕ) (s : ℕ) → s < 256 → get_or (sums_of a b c d) s 0 ≡ get_or a s 0 + get_or b s 0 + get_or c s 0 + get_or d s 0
unfolding sums_of
sums_at a b c d s lt = get_or-map-range_with_len (λ (t : ℕ). get_or a t 0 + get_or b t 0 + get_or c t 0 + get_or d t 0) 0 256 s s 0 lt (omega arith)

length-sums : (a b c d : List ℕ) → length (sums_of a b c d) ≡ 256
unfolding sums_of
length-sums a b c d = length-map-range_with_len (λ (t : ℕ). get_or a t 0 + get_or b t 0 + get_or c t 0 + get_or d t 0) 0 256

pub sums_all : (a b c d counts : List ℕ) → length counts ≡ 256 → ((s : ℕ) → s < 256 → get_or counts s 0 ≡ get_or a s 0 + get_or b s 0 + get_or c s 0 + get_or d s 0) → counts ≡ sums_of a b c d
unfolding sums_of
sums_all a b c d counts room each = listed (λ (s : ℕ). get_or a s 0 + get_or b s 0 + get_or c s 0 + get_or d s 0) counts 256 room each

-- the sum of all is that of the four
pub sums_total : (a b c d : List ℕ) → length a ≡ 256 → length b ≡ 256 → length c ≡ 256 → length d ≡ 256 → sum (sums_of a b c d) ≡ sum a + sum b + sum c + sum d
sums_total a b c d ra rb rc rd =
    let all = sum_is (sums_of a b c d) (length-sums a b c d) ∙ sum-same 256 (slice_index (sums_of a b c d)) (λ s. slice_index a s + slice_index b s + slice_index c s + slice_index d s) (λ s lt. sums_at a b c d s lt) in
    let three = sum-add 256 (λ s. slice_index a s + slice_index b s + slice_index c s) (slice_index d) in
    let two = sum-add 256 (λ s. slice_index a s + slice_index b s) (slice_index c) in
    let one = sum-add 256 (slice_index a) (slice_index b) in
    omega (arith, all, three, two, one, sum_is a ra, sum_is b rb, sum_is c rc, sum_is d rd)

-- of no symbols
zero_total : (n : ℕ) → sum (replicate n 0) ≡ 0
zero_total n = sum_by-replicate (λ x. x) n 0 ∙ by n
  where
    by : (n : ℕ) → n * 0 ≡ 0
    by n = omega arith

pub no_sum : sum (sums_of (replicate 256 0) (replicate 256 0) (replicate 256 0) (replicate 256 0)) ≡ 0
no_sum = let all = sums_total (replicate 256 0) (replicate 256 0) (replicate 256 0) (replicate 256 0) refl refl refl refl in omega (arith, all, zero_total 256)

pub no_tables : AreTables (replicate 256 0) (replicate 256 0) (replicate 256 0) (replicate 256 0)
no_tables = record { one = refl; two = refl; three = refl; four = refl; few = let none = no_sum in omega (arith, none) }

pub no_counts : sums_of (replicate 256 0) (replicate 256 0) (replicate 256 0) (replicate 256 0) ≡ counts_of []
unfolding counts_of
no_counts =
    let zero_ = replicate 256 0 in
    listed (λ (s : ℕ). count_by (nat_eq s) []) (sums_of zero_ zero_ zero_ zero_) 256 (length-sums zero_ zero_ zero_ zero_)
    (λ s lt. let at = sums_at zero_ zero_ zero_ zero_ s lt in let none = get_or-replicate {A = ℕ} 256 s 0 0 lt in omega (arith, at, none))

-- a sum of some of the four is not too large
pub sum_fits : (a b c d : List ℕ) (s : ℕ) → s < 256 → sum (sums_of a b c d) < 2 ^ 32 → get_or a s 0 + get_or b s 0 + get_or c s 0 + get_or d s 0 < 2 ^ 32
sum_fits a b c d s lt few = let at = sums_at a b c d s lt in let low = count_low (sums_of a b c d) s in omega (arith, at, low, few)

-- the sum of the four tables, and of what comes
pub tables_few : (a b c d value : List ℕ) (n : ℕ) → AreTables a b c d → sums_of a b c d ≡ value → sum value + n < 2 ^ 32 → sum a + sum b + sum c + sum d + n < 2 ^ 32
tables_few a b c d value n h is few = let all = sums_total a b c d h.one h.two h.three h.four in omega (arith, all, ap sum is, few)

-- four parts of a list, side by side, and the rest
quarters : (symbols : List ℕ) (n : ℕ) → (((take n symbols ++ take (2 * n - n) (drop n symbols)) ++ take (3 * n - 2 * n) (drop (2 * n) symbols)) ++ take (4 * n - 3 * n) (drop (3 * n) symbols)) ++ drop (4 * n) symbols ≡ symbols
quarters symbols n =
    ap (λ (xs : List ℕ). ((xs ++ take (3 * n - 2 * n) (drop (2 * n) symbols)) ++ take (4 * n - 3 * n) (drop (3 * n) symbols)) ++ drop (4 * n) symbols) (part n (2 * n) (omega arith))
    ∙ ap (λ (xs : List ℕ). (xs ++ take (4 * n - 3 * n) (drop (3 * n) symbols)) ++ drop (4 * n) symbols) (part (2 * n) (3 * n) (omega arith))
    ∙ ap (λ (xs : List ℕ). xs ++ drop (4 * n) symbols) (part (3 * n) (4 * n) (omega arith))
    ∙ take-append-drop (4 * n) symbols
  where
    part : (a b : ℕ) → a ≤ b → take a symbols ++ take (b - a) (drop a symbols) ≡ take b symbols
    part a b le = sym (take-add a (b - a) symbols) ∙ (let e : a + (b - a) ≡ b = omega (arith, le) in ap (λ m. take m symbols) e)

-- how often a symbol stands in the parts together
count_parts : (s : ℕ) (symbols : List ℕ) (n : ℕ) → count_by (nat_eq s) (take n symbols) + count_by (nat_eq s) (take (2 * n - n) (drop n symbols)) + count_by (nat_eq s) (take (3 * n - 2 * n) (drop (2 * n) symbols))
    + count_by (nat_eq s) (take (4 * n - 3 * n) (drop (3 * n) symbols)) + count_by (nat_eq s) (drop (4 * n) symbols) ≡ count_by (nat_eq s) symbols
count_parts s symbols n =
    let one = take n symbols in
    let two = take (2 * n - n) (drop n symbols) in
    let three = take (3 * n - 2 * n) (drop (2 * n) symbols) in
    let four = take (4 * n - 3 * n) (drop (3 * n) symbols) in
    let rest = drop (4 * n) symbols in
    let test = λ (x : ℕ). cond (nat_eq s x) 1 0 in
    let whole = ap (count_by (nat_eq s)) (quarters symbols n) in
    let a = sum_by-append test (((one ++ two) ++ three) ++ four) rest in
    let b = sum_by-append test ((one ++ two) ++ three) four in
    let c = sum_by-append test (one ++ two) three in
    let d = sum_by-append test one two in
    omega (arith, whole, a, b, c, d)

-- the counts of what was counted before, and of a piece more
pub counted_piece : (before symbols : List ℕ) (n : ℕ) (a b c d a2 b2 c2 d2 a3 : List ℕ) → sums_of a b c d ≡ counts_of before → AreAdded (take n symbols) a a2 → AreAdded (take (2 * n - n) (drop n symbols)) b b2 → AreAdded (take (3 * n - 2 * n) (drop (2 * n) symbols)) c c2
    → AreAdded (take (4 * n - 3 * n) (drop (3 * n) symbols)) d d2 → AreAdded (drop (4 * n) symbols) a2 a3 → sums_of a3 b2 c2 d2 ≡ counts_of (before ++ symbols)
unfolding counts_of
counted_piece before symbols n a b c d a2 b2 c2 d2 a3 is one two three four rest =
    listed (λ (s : ℕ). count_by (nat_eq s) (before ++ symbols)) (sums_of a3 b2 c2 d2) 256 (length-sums a3 b2 c2 d2) (λ s lt.
    let new = sums_at a3 b2 c2 d2 s lt in
    let old = sums_at a b c d s lt in
    let was = ap (λ (xs : List ℕ). get_or xs s 0) is ∙ counted_at before s lt in
    let parts = count_parts s symbols n in
    let both = sum_by-append (λ (x : ℕ). cond (nat_eq s x) 1 0) before symbols in
    omega (arith, new, old, was, parts, both, one.each s lt, two.each s lt, three.each s lt, four.each s lt, rest.each s lt))

pub sum_piece : (symbols : List ℕ) (n : ℕ) (a b c d a2 b2 c2 d2 a3 : List ℕ) → AreTables a b c d → AreAdded (take n symbols) a a2 → AreAdded (take (2 * n - n) (drop n symbols)) b b2 → AreAdded (take (3 * n - 2 * n) (drop (2 * n) symbols)) c c2
    → AreAdded (take (4 * n - 3 * n) (drop (3 * n) symbols)) d d2 → AreAdded (drop (4 * n) symbols) a2 a3 → sum (sums_of a3 b2 c2 d2) ≡ sum (sums_of a b c d) + length symbols
sum_piece symbols n a b c d a2 b2 c2 d2 a3 h one two three four rest =
    let new = sums_total a3 b2 c2 d2 rest.room two.room three.room four.room in
    let old = sums_total a b c d h.one h.two h.three h.four in
    let size = ap length (quarters symbols n) in
    let w = length-append (((take n symbols ++ take (2 * n - n) (drop n symbols)) ++ take (3 * n - 2 * n) (drop (2 * n) symbols)) ++ take (4 * n - 3 * n) (drop (3 * n) symbols)) (drop (4 * n) symbols) in
    let x = length-append ((take n symbols ++ take (2 * n - n) (drop n symbols)) ++ take (3 * n - 2 * n) (drop (2 * n) symbols)) (take (4 * n - 3 * n) (drop (3 * n) symbols)) in
    let y = length-append (take n symbols ++ take (2 * n - n) (drop n symbols)) (take (3 * n - 2 * n) (drop (2 * n) symbols)) in
    let z = length-append (take n symbols) (take (2 * n - n) (drop n symbols)) in
    omega (arith, new, old, size, w, x, y, z, one.total, two.total, three.total, four.total, rest.total)

-- ---- how long the codes are

-- the length of a symbol's code, as often as it is counted
pub bits_at : List ℕ → List ℕ → ℕ → ℕ
bits_at counts lengths s = slice_index counts s * slice_index lengths s

pub bits-is : (counts lengths : List ℕ) (s : ℕ) → bits_at counts lengths s ≡ slice_index counts s * slice_index lengths s
unfolding bits_at
bits-is counts lengths s = refl

pub bits_sum : (counts lengths : List ℕ) → sum_below 256 (bits_at counts lengths) ≡ sum_below 256 (λ s. slice_index counts s * slice_index lengths s)
bits_sum counts lengths = sum-same 256 (bits_at counts lengths) (λ s. slice_index counts s * slice_index lengths s) (λ s lt. bits-is counts lengths s)

-- the length of the code of x, at x alone
own_bits : List ℕ → ℕ → ℕ → ℕ
own_bits lengths x s = cond (nat_eq s x) (slice_index lengths s) 0

own-same : (lengths : List ℕ) (x s : ℕ) → s ≡ x → own_bits lengths x s ≡ slice_index lengths s
unfolding own_bits
own-same lengths x s e = rw (eq-eqb s x e) refl

own-other : (lengths : List ℕ) (x s : ℕ) → (s ≡ x → ⊥) → own_bits lengths x s ≡ 0
unfolding own_bits
own-other lengths x s ne = rw (ne_eqb s x ne) refl

-- that is the length of its code
own_sum : (lengths : List ℕ) (x : ℕ) → AreLengths lengths → sum_below 256 (own_bits lengths x) ≡ length (code_at (canonical_codes lengths) x)
own_sum lengths x h = elim (cases_lt x 256) [
  | inl lt ↦
      sum-one 256 x (own_bits lengths x) lt (λ s below ne. own-other lengths x s ne) ∙ own-same lengths x x refl ∙ sym (length-canonical-at lengths x h lt)
  | inr past ↦
      sum-none 256 (own_bits lengths x) (λ s below. own-other lengths x s (λ e. omega (arith, below, past, e)))
      ∙ sym (ap length (get_or_past (canonical_codes lengths) x [] (let all = length-canonical_codes lengths in omega (arith, all, past))))
]

-- one symbol more
counted_more : (lengths symbols : List ℕ) (x s : ℕ) → count_by (nat_eq s) (x ∷ symbols) * slice_index lengths s ≡ own_bits lengths x s + count_by (nat_eq s) symbols * slice_index lengths s
counted_more lengths symbols x s =
    let more = sum_by-cons (λ (y : ℕ). cond (nat_eq s y) 1 0) x symbols in
    ap (λ n. n * slice_index lengths s) more
    ∙ elim (cases_eq s x) [
      | inl same ↦
          let one : cond (nat_eq s x) 1 0 ≡ 1 = rw (eq-eqb s x same) refl in
          let own = own-same lengths x s same in
          ap (λ n. (n + count_by (nat_eq s) symbols) * slice_index lengths s) one ∙ by_one (count_by (nat_eq s) symbols) (slice_index lengths s) ∙ ap (λ n. n + count_by (nat_eq s) symbols * slice_index lengths s) (sym own)
      | inr other ↦
          let none : cond (nat_eq s x) 1 0 ≡ 0 = rw (ne_eqb s x other) refl in
          let own = own-other lengths x s other in
          ap (λ n. (n + count_by (nat_eq s) symbols) * slice_index lengths s) none ∙ by_none (count_by (nat_eq s) symbols) (slice_index lengths s) ∙ ap (λ n. n + count_by (nat_eq s) symbols * slice_index lengths s) (sym own)
    ]
  where
    by_one : (c l : ℕ) → (1 + c) * l ≡ l + c * l
    by_one c l = omega arith

    by_none : (c l : ℕ) → (0 + c) * l ≡ 0 + c * l
    by_none c l = omega arith

joined_long : (lengths symbols : List ℕ) → AreLengths lengths → length (joined_codes (canonical_codes lengths) symbols) ≡ sum_below 256 (λ s. count_by (nat_eq s) symbols * slice_index lengths s)
joined_long lengths [] h =
    ap length (joined_codes-nil (canonical_codes lengths)) ∙ sym (sum-none 256 (λ s. count_by (nat_eq s) [] * slice_index lengths s) (λ s lt. no_times (slice_index lengths s)))
  where
    no_times : (l : ℕ) → 0 * l ≡ 0
    no_times l = omega arith
joined_long lengths (x ∷ symbols) h =
    let codes = canonical_codes lengths in
    let here = own_bits lengths x in
    let rest = λ (s : ℕ). count_by (nat_eq s) symbols * slice_index lengths s in
    let size = ap length (joined_codes-cons codes x symbols) ∙ length-append (code_at codes x) (joined_codes codes symbols) in
    let all = sum-same 256 (λ s. count_by (nat_eq s) (x ∷ symbols) * slice_index lengths s) (λ s. here s + rest s) (λ s lt. counted_more lengths symbols x s) ∙ sum-add 256 here rest in
    omega (arith, size, all, own_sum lengths x h, joined_long lengths symbols h)

-- the length of the codes of any symbols that stand so often
pub counted_long : (lengths symbols counts : List ℕ) → AreLengths lengths → counts_of symbols ≡ counts → length (joined_codes (canonical_codes lengths) symbols) ≡ sum_below 256 (λ s. slice_index counts s * slice_index lengths s)
counted_long lengths symbols counts h is =
    joined_long lengths symbols h
    ∙ sum-same 256 (λ s. count_by (nat_eq s) symbols * slice_index lengths s) (λ s. slice_index counts s * slice_index lengths s)
    (λ s lt. ap (λ n. n * slice_index lengths s) (sym (counted_at symbols s lt) ∙ ap (λ (c : List ℕ). slice_index c s) is))

times_32 : (n : ℕ) (f : ℕ → ℕ) → sum_below n (λ k. 32 * f k) ≡ 32 * sum_below n f
times_32 zero f = omega (arith, sum-zero f, sum-zero (λ k. 32 * f k))
times_32 (suc n) f = omega (arith, sum-suc n f, sum-suc n (λ k. 32 * f k), times_32 n f)

pub counted_few : (lengths counts : List ℕ) → AreLengths lengths → sum_below 256 (λ s. slice_index counts s * slice_index lengths s) ≤ 32 * sum_below 256 (slice_index counts)
counted_few lengths counts h =
    let most = sum-le 256 (λ s. slice_index counts s * slice_index lengths s) (λ s. 32 * slice_index counts s) (λ s lt. by (slice_index counts s) (slice_index lengths s) (h.low s lt)) in
    omega (arith, most, times_32 256 (slice_index counts))
  where
    by : (c l : ℕ) → l ≤ 32 → c * l ≤ 32 * c
    by c l low = let m : c * l ≤ c * 32 = mul-le-mul_left c low in omega (arith, m)
