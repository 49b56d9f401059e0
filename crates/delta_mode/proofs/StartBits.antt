-- Marks as the bits of a number: which ones begin a run, and how many stand in front of one.
use Rattle.std.proofs.Common.{◌≡◌, ◌≢◌, ℕ, zero, suc, ◌+◌, ◌-◌, ◌*◌, ◌/◌, ◌%◌, ◌^◌, ◌<◌, ◌≤◌, Bool, true, false, cond, get_or, length, refl, sym, ap, ◌∙◌, subst, arith, inl, inr, bit_and}
use Rattle.std.specs.Prelude.{nat_eq, min, is_some, None, count_ones}
use Rattle.std.specs.Int.{bit_at}
use Rattle.std.specs.Int.Count.{ones_step}
use Rattle.std.proofs.Math.Pow.{shr_lt}
use Rattle.std.proofs.lemmas.Bool.{cases_Bool, cases_lt}
use Rattle.std.proofs.lemmas.Bool.Decides.{nat_tests}
use Rattle.std.proofs.lemmas.List.{get_or-map, get_or_past, length-map}
use Rattle.std.proofs.lemmas.Nat.{and_le_l, ones-le, shr-shr}
use Rattle.std.proofs.lemmas.Nat.Bits.{bit_at_above, bit_at_and, bit_at_clear_other, bit_at_clear_same, bit_at-lt, bit_at_lowest, bit_at_not, bit_at-suc}
use Rattle.std.proofs.Math.Nat.{pow-succ'}
use mir.Syntax.{w32}
use Rattle.raster_values.specs.Flat.{marks_of}
use Rattle.raster_values.specs.Raster.{Pixels}
use Rattle.raster_cells.specs.Words.{word_bit, AreMarks}
use Rattle.delta_mode.specs.Deltas.{is_valid}
use Rattle.delta_mode.specs.inside.Pieces.{left_of, rank}
use Rattle.delta_mode.specs.inside.Starts.{mark_of}
use Rattle.delta_mode.proofs.Pieces.{rank_on}

-- ---- a bit as a mark

bit_set : (x : ℕ) → nat_eq x 1 ≡ true → x ≡ 1
bit_set x e = grind (arith, nat_tests)

pub set_bit : (x : ℕ) → x ≡ 1 → nat_eq x 1 ≡ true
set_bit x e = grind (arith, nat_tests)

pub clear_bit : (x : ℕ) → x ≡ 0 → nat_eq x 1 ≡ false
clear_bit x e = grind (arith, nat_tests)

bit_clear : (x : ℕ) → x < 2 → nat_eq x 1 ≡ false → x ≡ 0
bit_clear zero lt e = refl
bit_clear (suc zero) lt e = absurd (cc)
bit_clear (suc (suc x)) lt e = absurd (omega (arith, lt))

-- ---- the first ones of runs

-- the bits without one at the place above
run_bit : (m b : ℕ) → m < 2 ^ 32 → b < 32 → bit_at (bit_and m (4294967295 - m / 2)) b ≡ min (bit_at m b) (1 - bit_at m (suc b))
run_bit m b fits lt = bit_at_and m (4294967295 - m / 2) b ∙ ap (min (bit_at m b)) (bit_at_not w32 (m / 2) b (omega (arith, fits)) lt ∙ ap (λ x. 1 - x) (sym (bit_at-suc m b)))

abbrev runs : ℕ → ℕ
runs m = bit_and m (4294967295 - m / 2)

below : (count q : ℕ) → suc q < count → count - 1 - q ≡ suc (count - 1 - suc q)
below count q lt = omega (arith, lt)

start_on : (m count : ℕ) (left : Bool) (s q : ℕ) → 0 < count → count ≤ 32 → m < 2 ^ 32 → q < count → (q ≡ 0 → left ≡ false) → s ≡ bit_at (runs m) (count - 1 - q) → nat_eq s 1 ≡ true
    → (word_bit count m q ≡ true) × (left_of left (word_bit count m) q ≡ false)
start_on m count left s q some few fits lt first is on =
    let b = count - 1 - q in
    let one = bit_set s on in
    let both = run_bit m b fits (omega (arith, few, some)) in
    let low = bit_at-lt m b in
    let high = bit_at-lt m (suc b) in
    let here : bit_at m b ≡ 1 = omega (arith, one, is, both, low, high) in
    let next : bit_at m (suc b) ≡ 0 = omega (arith, one, is, both, low, high) in
    (set_bit (bit_at m b) here, by q lt first next)
  where
    by : (q : ℕ) → q < count → (q ≡ 0 → left ≡ false) → bit_at m (suc (count - 1 - q)) ≡ 0 → left_of left (word_bit count m) q ≡ false
    by zero lt first next = first refl
    by (suc q) lt first next = clear_bit (bit_at m (count - 1 - q)) (ap (bit_at m) (below count q lt) ∙ next)

start_off : (m count : ℕ) (left : Bool) (s q : ℕ) → 0 < count → count ≤ 32 → m < 2 ^ 32 → m < 2 ^ count → q < count → s ≡ bit_at (runs m) (count - 1 - q) → word_bit count m q ≡ true → nat_eq s 1 ≡ false
    → left_of left (word_bit count m) q ≡ true
start_off m count left s q some few fits small lt is on off =
    let b = count - 1 - q in
    let none = bit_clear s (subst (λ x. x < 2) (sym is) (bit_at-lt (runs m) b)) off in
    let one = bit_set (bit_at m b) on in
    let both = run_bit m b fits (omega (arith, few, some)) in
    let high = bit_at-lt m (suc b) in
    let next : bit_at m (suc b) ≡ 1 = omega (arith, one, none, is, both, high) in
    by q lt next
  where
    by : (q : ℕ) → q < count → bit_at m (suc (count - 1 - q)) ≡ 1 → left_of left (word_bit count m) q ≡ true
    by zero lt next = absurd (let past = bit_at_above m count (suc (count - 1 - 0)) small (omega (arith, some)) in omega (arith, past, next))
    by (suc q) lt next = set_bit (bit_at m (count - 1 - q)) (ap (bit_at m) (below count q lt) ∙ next)

pub free_on : (m count q : ℕ) → 0 < count → count ≤ 32 → m < 2 ^ 32 → q < count → word_bit count (runs m) q ≡ true
    → (word_bit count m q ≡ true) × (left_of false (word_bit count m) q ≡ false)
free_on m count q some few fits lt on = start_on m count false (bit_at (runs m) (count - 1 - q)) q some few fits lt (λ _. refl) refl on

pub free_off : (m count q : ℕ) → 0 < count → count ≤ 32 → m < 2 ^ 32 → m < 2 ^ count → q < count → word_bit count m q ≡ true → word_bit count (runs m) q ≡ false
    → left_of false (word_bit count m) q ≡ true
free_off m count q some few fits small lt on off = start_off m count false (bit_at (runs m) (count - 1 - q)) q some few fits small lt refl on off

-- the same without the first one
abbrev later : ℕ → ℕ → ℕ
later m count = bit_and (runs m) (4294967295 - 1 * 2 ^ (count - 1) % 4294967296)

later_first : (m count : ℕ) → 0 < count → count ≤ 32 → bit_at (later m count) (count - 1) ≡ 0
later_first m count some few = bit_at_clear_same w32 (runs m) (count - 1) (omega (arith, some, few))

later_bit : (m count q : ℕ) → 0 < count → count ≤ 32 → suc q < count → bit_at (later m count) (count - 1 - suc q) ≡ bit_at (runs m) (count - 1 - suc q)
later_bit m count q some few lt = bit_at_clear_other w32 (runs m) (count - 1) (omega (arith, some, few)) (count - 1 - suc q) (omega (arith, some, few)) (let ne : count - 1 - suc q ≢ count - 1 = omega (arith, lt) in ne)

pub held_on : (m count q : ℕ) → 0 < count → count ≤ 32 → m < 2 ^ 32 → q < count → word_bit count (later m count) q ≡ true
    → (word_bit count m q ≡ true) × (left_of true (word_bit count m) q ≡ false)
held_on m count zero some few fits lt on = absurd (let one = bit_set (bit_at (later m count) (count - 1 - 0)) on in let none = ap (bit_at (later m count)) (let e : count - 1 - 0 ≡ count - 1 = omega arith in e) ∙ later_first m count some few in omega (arith, one, none))
held_on m count (suc q) some few fits lt on =
    start_on m count true (bit_at (later m count) (count - 1 - suc q)) (suc q) some few fits lt (λ e. absurd (omega (arith, e))) (later_bit m count q some few lt) on

pub held_off : (m count q : ℕ) → 0 < count → count ≤ 32 → m < 2 ^ 32 → m < 2 ^ count → q < count → word_bit count m q ≡ true → word_bit count (later m count) q ≡ false
    → left_of true (word_bit count m) q ≡ true
held_off m count zero some few fits small lt on off = refl
held_off m count (suc q) some few fits small lt on off =
    start_off m count true (bit_at (later m count) (count - 1 - suc q)) (suc q) some few fits small lt (later_bit m count q some few lt) on off

-- ---- how many are set

ones_rank : (f : ℕ → Bool) (n word : ℕ) → word < 2 ^ n → ((q : ℕ) → q < n → word_bit n word q ≡ f q) → count_ones word ≡ rank f n
ones_rank f zero word small each = omega (arith, ones-le 0 word small)
ones_rank f (suc n) word small each =
    let double : 2 ^ suc n ≡ 2 * 2 ^ n = pow-succ' 2 n in
    let half = ones_rank f n (word / 2) (omega (arith, small, double)) (λ q lt.
    let up : suc n - 1 - q ≡ suc (n - 1 - q) = omega (arith, lt) in
    ap (λ x. nat_eq x 1) (sym (ap (bit_at word) up ∙ bit_at-suc word (n - 1 - q))) ∙ each q (omega (arith, lt))) in
    let lowest : nat_eq (word % 2) 1 ≡ f n = ap (λ x. nat_eq x 1) (sym (ap (bit_at word) (let e : suc n - 1 - n ≡ 0 = omega arith in e) ∙ bit_at_lowest word)) ∙ each n (omega arith) in
    let step = ones_step word in
    elim (cases_Bool (f n)) as (λ _. count_ones word ≡ cond (f n) (rank f n + 1) (rank f n)) [
      | inl on ↦ let one = bit_set (word % 2) (lowest ∙ on) in (let e : count_ones word ≡ rank f n + 1 = omega (arith, half, step, one) in e) ∙ sym (ap (λ b. cond b (rank f n + 1) (rank f n)) on)
      | inr off ↦ let none = bit_clear (word % 2) (omega arith) (lowest ∙ off) in (let e : count_ones word ≡ rank f n = omega (arith, half, step, none) in e) ∙ sym (ap (λ b. cond b (rank f n + 1) (rank f n)) off)
    ]

pub marks_are : (r : Pixels) (k : ℕ) → get_or (marks_of r) k false ≡ is_valid r k
marks_are r k = elim (cases_lt k (length r.pixels)) [
  | inl lt ↦ get_or-map is_some r.pixels k None false lt
  | inr ge ↦ let long = length-map r.pixels is_some in get_or_past (marks_of r) k false (omega (arith, ge, long)) ∙ sym (ap is_some (get_or_past r.pixels k None ge))
]

pub word_marks : (r : Pixels) (place n word : ℕ) → AreMarks (marks_of r) place n word → (q : ℕ) → q < n → word_bit n word q ≡ mark_of r place q
word_marks r place n word are q lt = are.bits q lt ∙ marks_are r (place + q)

-- of the pixels up to that of a bit
pub ones_before : (r : Pixels) (place n word b : ℕ) → AreMarks (marks_of r) place n word → b < n → mark_of r place (n - 1 - b) ≡ true → count_ones (word / 2 ^ b) ≡ rank (mark_of r place) (n - 1 - b) + 1
ones_before r place n word b are lt on =
    let i = n - 1 - b in
    let size : n ≡ (i + 1) + b = omega (arith, lt) in
    ones_rank (mark_of r place) (i + 1) (word / 2 ^ b) (shr_lt (i + 1) b (subst (λ k. word < 2 ^ k) size are.below)) (λ q low.
    ap (λ x. nat_eq x 1) (ap (λ x. x % 2) (shr-shr word b (i + 1 - 1 - q)) ∙ ap (bit_at word) (let e : b + (i + 1 - 1 - q) ≡ n - 1 - q = omega (arith, lt, low) in e))
    ∙ word_marks r place n word are q (omega (arith, low, size)))
    ∙ rank_on (mark_of r place) i on

-- ---- one bit less

-- the lowest bit cleared
abbrev pub without : ℕ → ℕ → ℕ
without m b = bit_and m (4294967295 - 1 * 2 ^ b % 4294967296)

pub bit_gone : (m n b : ℕ) → n ≤ 32 → b < n → word_bit n (without m b) (n - 1 - b) ≡ false
bit_gone m n b few lt = clear_bit _ (ap (bit_at (without m b)) (let e : n - 1 - (n - 1 - b) ≡ b = omega (arith, lt) in e) ∙ bit_at_clear_same w32 m b (omega (arith, few, lt)))

pub bit_stays : (m n b q : ℕ) → n ≤ 32 → b < n → q < n → q ≢ n - 1 - b → word_bit n (without m b) q ≡ word_bit n m q
bit_stays m n b q few lt low ne = ap (λ x. nat_eq x 1) (bit_at_clear_other w32 m b (omega (arith, few, lt)) (n - 1 - q) (omega (arith, few, low)) (let other : n - 1 - q ≢ b = omega (arith, ne, lt, low) in other))

pub fewer_bits : (m b : ℕ) → b < 32 → bit_at m b ≡ 1 → without m b < m
fewer_bits m b lt on =
    let gone = bit_at_clear_same w32 m b lt in
    let ne : without m b ≢ m = λ e. let same = ap (λ x. bit_at x b) e in omega (arith, same, gone, on) in
    omega (arith, and_le_l m (4294967295 - 1 * 2 ^ b % 4294967296), ne)

-- a bit that is set is one of those that a number has
pub bit_within : (m n b : ℕ) → m < 2 ^ n → bit_at m b ≡ 1 → b < n
bit_within m n b small on = elim (cases_lt b n) [
  | inl lt ↦ lt
  | inr ge ↦ absurd (let past = bit_at_above m n b small ge in omega (arith, past, on))
]
