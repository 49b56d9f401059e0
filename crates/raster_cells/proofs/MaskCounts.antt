-- How many bits are 1.
use Rattle.std.proofs.Common.{[], ◌≡◌, ℕ, ◌+◌, zero, suc, ◌∷◌, ◌++◌, ap, ◌∙◌, arith, ◌<◌, Bool, true, false, cond, length, refl, ◌≤◌, List, map, sym, ◌≢◌, ◌-◌, ◌*◌, ◌/◌, ◌%◌, ◌^◌, ⊎_elim, length-append, get_or, ◌&&◌, take, drop, append_assoc, replicate}
use Rattle.std.specs.List.{range_with_len, filter, count_by}
use Rattle.std.proofs.lemmas.List.FromFn.{length-range_with_len, get_or-range_with_len}
use Rattle.std.proofs.lemmas.List.Sums.{length-filter, count_by-le-length, sum_by-cons, sum_by-append}
use Rattle.std.specs.Int.RustNames.{count_ones}
use Rattle.std.proofs.lemmas.Nat.{ones-le, pow_pos, shr-shr, and_le_r}
use Rattle.std.specs.Prelude.{nat_eq, bit_and, min, nat_lt, nat_le}
use Rattle.std.proofs.lemmas.List.Elements.{filter-append}
use Rattle.std.proofs.Math.Nat.{div-div-eq-div-mul, pow-succ'}
use Rattle.std.proofs.lemmas.Bool.{cases_eq, cases_lt}
use Rattle.std.proofs.lemmas.Bool.Decides.{nat_tests}
use Rattle.std.specs.Int.{bit_at}
use Rattle.std.proofs.lemmas.Nat.Bits.{bit_at_and, bit_at_ones, bit_at-lt, ones_shr}
use Rattle.std.proofs.lemmas.List.{get_or-take, get_or-drop, length-take-le, length-map, get_or-map, get_or_append_left, get_or-append_right, length-drop, ext_get_or, take-append-drop, drop-drop, take_at, drop_at, length-replicate, get_or-replicate}
use lib.Count.{ones_step}
use Rattle.raster_cells.specs.Masks.{mask_bit, marks_in}
use Rattle.raster_cells.proofs.RunSteps.{range_more}
use Rattle.raster_cells.specs.inside.Bits.{byte_bit, bit_after}

-- ---- counts over ranges

pub range_join : (a n m : ℕ) → range_with_len a (n + m) ≡ range_with_len a n ++ range_with_len (a + n) m
range_join a zero m = ap (range_with_len a) (let e : 0 + m ≡ m = omega arith in e) ∙ ap (λ k. range_with_len k m) (let e : a ≡ a + 0 = omega arith in e)
range_join a (suc n) m =
    ap (range_with_len a) (let e : suc n + m ≡ suc (n + m) = omega arith in e)
    ∙ ap (λ ks. a ∷ ks) (range_join (a + 1) n m ∙ ap (λ k. range_with_len (a + 1) n ++ range_with_len k m) (let e : a + 1 + n ≡ a + suc n = omega arith in e))

pub same_count : (p q : ℕ → Bool) (a b m : ℕ) → ((i : ℕ) → i < m → p (a + i) ≡ q (b + i)) → length (filter p (range_with_len a m)) ≡ length (filter q (range_with_len b m))
same_count p q a b zero h = refl
same_count p q a b (suc m) h =
    let here : p a ≡ q b = ap p (let e : a ≡ a + 0 = omega arith in e) ∙ h 0 (omega arith) ∙ ap q (let e : b + 0 ≡ b = omega arith in e) in
    let rest : length (filter p (range_with_len (a + 1) m)) ≡ length (filter q (range_with_len (b + 1) m)) = same_count p q (a + 1) (b + 1) m (λ i less.
    ap p (let e : a + 1 + i ≡ a + (i + 1) = omega arith in e) ∙ h (i + 1) (omega arith) ∙ ap q (let e : b + (i + 1) ≡ b + 1 + i = omega arith in e)) in
    ap (λ t. length (cond t (a ∷ filter p (range_with_len (a + 1) m)) (filter p (range_with_len (a + 1) m)))) here
    ∙ (elim (q b) as (λ t. length (cond t (a ∷ filter p (range_with_len (a + 1) m)) (filter p (range_with_len (a + 1) m))) ≡ length (cond t (b ∷ filter q (range_with_len (b + 1) m)) (filter q (range_with_len (b + 1) m)))) [
      | true ↦ ap suc rest
      | false ↦ rest
    ])

pub all_count : (p : ℕ → Bool) (a m : ℕ) → ((k : ℕ) → a ≤ k → k < a + m → p k ≡ true) → length (filter p (range_with_len a m)) ≡ m
all_count p a zero h = refl
all_count p a (suc m) h =
    ap (λ t. length (cond t (a ∷ filter p (range_with_len (a + 1) m)) (filter p (range_with_len (a + 1) m)))) (h a (omega arith) (omega arith))
    ∙ ap suc (all_count p (a + 1) m (λ k low high. h k (omega arith) (omega arith)))

pub count_most : (p : ℕ → Bool) (a m : ℕ) → length (filter p (range_with_len a m)) ≤ m
count_most p a m = omega (arith, length-filter p (range_with_len a m), count_by-le-length p (range_with_len a m), length-range_with_len a m)

pub count_of_map : {X : Type 0} (f : X → Bool) (xs : List X) → count_by (λ m. m) (map f xs) ≡ length (filter f xs)
count_of_map f [] = refl
count_of_map f (x ∷ xs) =
    sum_by-cons (λ m. cond m 1 0) (f x) (map f xs) ∙ ap (λ n. cond (f x) 1 0 + n) (count_of_map f xs)
    ∙ (elim (f x) as (λ t. cond t 1 0 + length (filter f xs) ≡ length (cond t (x ∷ filter f xs) (filter f xs))) [
      | true ↦ (let e : 1 + length (filter f xs) ≡ suc (length (filter f xs)) = omega arith in e)
      | false ↦ (let e : 0 + length (filter f xs) ≡ length (filter f xs) = omega arith in e)
    ])

pub count_of_marks : (n : ℕ) (mask : List ℕ) → length (filter (mask_bit mask) (range_with_len 0 n)) ≡ count_by (λ m. m) (marks_in n mask)
unfolding marks_in
count_of_marks n mask = sym (count_of_map (mask_bit mask) (range_with_len 0 n))

-- ---- one number

no_ones : (m : ℕ) → m < 1 → count_ones m ≡ 0
no_ones m h = omega (arith, ones-le 0 m h)

pub ones_of : (w m : ℕ) → m < 2 ^ w → count_ones m ≡ length (filter (λ i. nat_eq (m / 2 ^ (w - 1 - i) % 2) 1) (range_with_len 0 w))
ones_of zero m h = no_ones m h
ones_of (suc w) m h =
    let p : ℕ → Bool = λ i. nat_eq (m / 2 ^ (suc w - 1 - i) % 2) 1 in
    let power : 2 ^ suc w ≡ 2 * 2 ^ w = pow-succ' 2 w in
    let half : m / 2 < 2 ^ w = omega (arith, h, power) in
    let front : length (filter p (range_with_len 0 w)) ≡ length (filter (λ i. nat_eq (m / 2 / 2 ^ (w - 1 - i) % 2) 1) (range_with_len 0 w)) =
    same_count p (λ i. nat_eq (m / 2 / 2 ^ (w - 1 - i) % 2) 1) 0 0 w (λ i less.
    let up : suc w - 1 - (0 + i) ≡ suc (w - 1 - (0 + i)) = omega arith in
    ap (λ k. nat_eq (m / 2 ^ k % 2) 1) up ∙ ap (λ k. nat_eq (m / k % 2) 1) (pow-succ' 2 (w - 1 - (0 + i))) ∙ ap (λ k. nat_eq (k % 2) 1) (sym (div-div-eq-div-mul m 2 (2 ^ (w - 1 - (0 + i)))))) in
    let last : p (0 + w) ≡ nat_eq (m % 2) 1 =
    ap (λ k. nat_eq (m / 2 ^ k % 2) 1) (let e : suc w - 1 - (0 + w) ≡ 0 = omega arith in e) ∙ ap (λ k. nat_eq (k % 2) 1) (let e : m / 2 ^ 0 ≡ m = omega arith in e) in
    let two : m % 2 ≡ length (cond (nat_eq (m % 2) 1) ((0 + w) ∷ []) []) = ⊎_elim
    (λ (e : m % 2 ≡ 1). e ∙ (let t : nat_eq (m % 2) 1 ≡ true = grind (arith, nat_tests) in ap (λ u. length (cond u ((0 + w) ∷ []) [])) (sym t)))
    (λ (ne : m % 2 ≢ 1). (let z : m % 2 ≡ 0 = omega arith in z) ∙ (let t : nat_eq (m % 2) 1 ≡ false = grind (arith, nat_tests) in ap (λ u. length (cond u ((0 + w) ∷ []) [])) (sym t)))
    (cases_eq (m % 2) 1) in
    let whole : length (filter p (range_with_len 0 (suc w))) ≡ length (filter p (range_with_len 0 w)) + length (cond (p (0 + w)) ((0 + w) ∷ []) []) =
    ap (λ n. length (filter p (range_with_len 0 n))) (let e : suc w ≡ w + 1 = omega arith in e) ∙ ap (λ ks. length (filter p ks)) (range_more 0 w)
    ∙ ap length (filter-append p (range_with_len 0 w) ((0 + w) ∷ [])) ∙ length-append (filter p (range_with_len 0 w)) (filter p ((0 + w) ∷ [])) in
    omega (arith, ones_step m, ones_of w (m / 2) half, front, two, whole, ap (λ t. length (cond t ((0 + w) ∷ []) [])) last)

pow_positive : (k : ℕ) → 1 ≤ 2 ^ k
pow_positive k = omega (arith, pow_pos k)

-- the bits of a byte from one on
pub ones_in_byte : (byte from count : ℕ) → 0 < count → from + count ≤ 8
    → count_ones (bit_and (byte / 2 ^ (8 - from - count)) (255 / 2 ^ (8 - count))) ≡ length (filter (byte_bit byte) (range_with_len from count))
ones_in_byte byte from count above within =
    let s = 8 - from - count in
    let run = bit_and (byte / 2 ^ s) (255 / 2 ^ (8 - count)) in
    let short : 8 - count ≤ 8 = omega arith in
    let full : 255 / 2 ^ (8 - count) ≡ 2 ^ count - 1 = ones_shr 8 (8 - count) short ∙ ap (λ k. 2 ^ k - 1) (let e : 8 - (8 - count) ≡ count = omega arith in e) in
    let small : run < 2 ^ count = omega (arith, and_le_r (byte / 2 ^ s) (255 / 2 ^ (8 - count)), full, pow_positive count) in
    ones_of count run small ∙ same_count (λ i. nat_eq (run / 2 ^ (count - 1 - i) % 2) 1) (byte_bit byte) 0 from count (λ i less.
    let j = count - 1 - (0 + i) in
    let one : bit_at (255 / 2 ^ (8 - count)) j ≡ 1 = ap (λ m. bit_at m j) full ∙ bit_at_ones count j (omega arith) in
    let kept : bit_at run j ≡ bit_at (byte / 2 ^ s) j = bit_at_and (byte / 2 ^ s) (255 / 2 ^ (8 - count)) j ∙ (let e : min (bit_at (byte / 2 ^ s) j) (bit_at (255 / 2 ^ (8 - count)) j) ≡ bit_at (byte / 2 ^ s) j = omega (arith, one, bit_at-lt (byte / 2 ^ s) j) in e) in
    ap (λ n. nat_eq n 1) (kept ∙ ap (λ n. n % 2) (shr-shr byte s j) ∙ ap (λ k. byte / 2 ^ k % 2) (let e : s + j ≡ 7 - (from + i) = omega arith in e)))

-- ---- bytes

pub count_step : (bytes : List ℕ) (from k next n found : ℕ) → from ≤ k → k < next → next ≤ k / 8 * 8 + 8 → n ≡ length (filter (mask_bit bytes) (range_with_len from (k - from)))
    → found ≡ length (filter (byte_bit (get_or bytes (k / 8) 0)) (range_with_len (k % 8) (next - k))) → n + found ≡ length (filter (mask_bit bytes) (range_with_len from (next - from)))
count_step bytes from k next n found low more one before here =
    let split : next - from ≡ (k - from) + (next - k) = omega arith in
    let at : from + (k - from) ≡ k = omega arith in
    let p = mask_bit bytes in
    let second : found ≡ length (filter p (range_with_len k (next - k))) = here ∙ sym (same_count p (byte_bit (get_or bytes (k / 8) 0)) k (k % 8) (next - k) (λ i less.
    let place : (k + i) / 8 ≡ k / 8 = omega arith in
    let bit : (k + i) % 8 ≡ k % 8 + i = omega arith in
    ap (λ j. byte_bit (get_or bytes j 0) ((k + i) % 8)) place ∙ ap (byte_bit (get_or bytes (k / 8) 0)) bit)) in
    let whole : length (filter p (range_with_len from (next - from))) ≡ length (filter p (range_with_len from (k - from))) + length (filter p (range_with_len k (next - k))) =
    ap (λ m. length (filter p (range_with_len from m))) split ∙ ap (λ ks. length (filter p ks)) (range_join from (k - from) (next - k) ∙ ap (λ j. range_with_len from (k - from) ++ range_with_len j (next - k)) at)
    ∙ ap length (filter-append p (range_with_len from (k - from)) (range_with_len k (next - k))) ∙ length-append (filter p (range_with_len from (k - from))) (filter p (range_with_len k (next - k))) in
    omega (arith, before, second, whole)

-- where all marks are set, each is
pub all_set : (ms : List Bool) (k : ℕ) → count_by (λ m. m) ms ≡ length ms → k < length ms → get_or ms k false ≡ true
all_set [] k full below = absurd (let no : ⊥ = omega arith in no)
all_set (false ∷ ms) k full below = absurd (let no : ⊥ = omega (arith, sum_by-cons (λ m. cond m 1 0) false ms, count_by-le-length (λ m. m) ms, full) in no)
all_set (true ∷ ms) zero full below = refl
all_set (true ∷ ms) (suc k) full below = all_set ms k (omega (arith, sum_by-cons (λ m. cond m 1 0) true ms, full)) (omega arith)

-- and where each is, all are counted
pub all_counted : (ms : List Bool) → ((k : ℕ) → k < length ms → get_or ms k false ≡ true) → count_by (λ m. m) ms ≡ length ms
all_counted [] each = refl
all_counted (m ∷ ms) each =
    let one : ◌≡◌ {A = ℕ} (cond m 1 0) 1 = ap (λ b. cond b 1 0) (each 0 (omega arith)) in
    omega (arith, sum_by-cons (λ b. cond b 1 0) m ms, one, all_counted ms (λ k below. each (suc k) (omega (arith, below))))

-- ---- a run of bits set

pub bit_after_none : (old marks : List ℕ) (from k : ℕ) → bit_after old marks from 0 k ≡ mask_bit old k
bit_after_none old marks from k =
    let none : (nat_le from k && nat_lt k (from + 0)) ≡ false = grind (arith, nat_tests) in
    ap (λ u. cond u (nat_eq (get_or marks (k - from) 0) 1) (mask_bit old k)) none

more_lt : (k from i : ℕ) → k ≢ from + i → nat_lt k (from + (i + 1)) ≡ nat_lt k (from + i)
more_lt k from i ne =
    ⊎_elim
    (λ (lt : k < from + i).
    let t : nat_lt k (from + (i + 1)) ≡ true = grind (arith, nat_tests) in
    let u : nat_lt k (from + i) ≡ true = grind (arith, nat_tests) in
    t ∙ sym u)
    (λ (ge : from + i ≤ k).
    let t : nat_lt k (from + (i + 1)) ≡ false = grind (arith, nat_tests) in
    let u : nat_lt k (from + i) ≡ false = grind (arith, nat_tests) in
    t ∙ sym u)
    (cases_lt k (from + i))

pub bit_after_more : (old marks : List ℕ) (from i k : ℕ) → bit_after old marks from (i + 1) k ≡ cond (nat_eq k (from + i)) (nat_eq (get_or marks i 0) 1) (bit_after old marks from i k)
bit_after_more old marks from i k =
    let new : Bool → Bool = λ u. cond u (nat_eq (get_or marks (k - from) 0) 1) (mask_bit old k) in
    ⊎_elim
    (λ (e : k ≡ from + i).
    let inside : (nat_le from k && nat_lt k (from + (i + 1))) ≡ true = grind (arith, nat_tests) in
    let t : nat_eq k (from + i) ≡ true = grind (arith, nat_tests) in
    ap new inside ∙ ap (λ j. nat_eq (get_or marks j 0) 1) (let d : k - from ≡ i = omega arith in d) ∙ ap (λ u. cond u (nat_eq (get_or marks i 0) 1) (bit_after old marks from i k)) (sym t))
    (λ (ne : k ≢ from + i).
    let same : (nat_le from k && nat_lt k (from + (i + 1))) ≡ (nat_le from k && nat_lt k (from + i)) = ap (λ u. nat_le from k && u) (more_lt k from i ne) in
    let t : nat_eq k (from + i) ≡ false = grind (arith, nat_tests) in
    ap new same ∙ ap (λ u. cond u (nat_eq (get_or marks i 0) 1) (bit_after old marks from i k)) (sym t))
    (cases_eq k (from + i))

-- the marks after that: the bits are those of the list with the run in the place of as many
pub run_marks : (old : List ℕ) (ms : List Bool) (marks : List ℕ) (from k : ℕ) → from + length marks ≤ length ms → ((j : ℕ) → mask_bit old j ≡ get_or ms j false)
    → bit_after old marks from (length marks) k ≡ get_or (take from ms ++ (map (λ b. nat_eq b 1) marks ++ drop (from + length marks) ms)) k false
run_marks old ms marks from k within bits =
    let f : ℕ → Bool = λ b. nat_eq b 1 in
    let n = length marks in
    let front : length (take from ms) ≡ from = length-take-le from ms (omega arith) in
    let run : length (map f marks) ≡ n = length-map marks f in
    let new : Bool → Bool = λ u. cond u (nat_eq (get_or marks (k - from) 0) 1) (mask_bit old k) in
    ⊎_elim
    (λ (lt : k < from).
    let out : (nat_le from k && nat_lt k (from + n)) ≡ false = grind (arith, nat_tests) in
    ap new out ∙ bits k ∙ sym (get_or_append_left (take from ms) (map f marks ++ drop (from + n) ms) false k (omega arith) ∙ get_or-take from ms k false lt))
    (λ (ge : from ≤ k). ⊎_elim
    (λ (lt : k < from + n).
    let inside : (nat_le from k && nat_lt k (from + n)) ≡ true = grind (arith, nat_tests) in
    let low : k - from < n = omega arith in
    ap new inside ∙ sym (get_or-append_right (take from ms) (map f marks ++ drop (from + n) ms) from k false front ge
    ∙ get_or_append_left (map f marks) (drop (from + n) ms) false (k - from) (omega arith) ∙ get_or-map f marks (k - from) 0 false low))
    (λ (past : from + n ≤ k).
    let out : (nat_le from k && nat_lt k (from + n)) ≡ false = grind (arith, nat_tests) in
    ap new out ∙ bits k ∙ sym (get_or-append_right (take from ms) (map f marks ++ drop (from + n) ms) from k false front ge
    ∙ get_or-append_right (map f marks) (drop (from + n) ms) n (k - from) false run (omega arith)
    ∙ get_or-drop (from + n) ms (k - from - n) false ∙ ap (λ j. get_or ms j false) (let e : from + n + (k - from - n) ≡ k = omega arith in e)))
    (cases_lt k (from + n)))
    (cases_lt k from)

pub length_run : (ms : List Bool) (marks : List ℕ) (from : ℕ) → from + length marks ≤ length ms → length (take from ms ++ (map (λ b. nat_eq b 1) marks ++ drop (from + length marks) ms)) ≡ length ms
length_run ms marks from within =
    let f : ℕ → Bool = λ b. nat_eq b 1 in
    length-append (take from ms) (map f marks ++ drop (from + length marks) ms)
    ∙ omega (arith, length-take-le from ms (omega arith), length-append (map f marks) (drop (from + length marks) ms), length-map marks f, length-drop (from + length marks) ms)

-- how many marks are set before a run, in it, and behind it
count_parts : (ms : List Bool) (bytes : List ℕ) (from n : ℕ) → from + n ≤ length ms → ((j : ℕ) → mask_bit bytes j ≡ get_or ms j false)
    → count_by (λ m. m) ms ≡ count_by (λ m. m) (take from ms) + (length (filter (mask_bit bytes) (range_with_len from n)) + count_by (λ m. m) (drop (from + n) ms))
count_parts ms bytes from n within bits =
    let f : Bool → ℕ = λ m. cond m 1 0 in
    let run : map (mask_bit bytes) (range_with_len from n) ≡ take n (drop from ms) =
    ext_get_or false (map (mask_bit bytes) (range_with_len from n)) (take n (drop from ms))
    (length-map (range_with_len from n) (mask_bit bytes) ∙ length-range_with_len from n ∙ sym (length-take-le n (drop from ms) (omega (arith, length-drop from ms)))) (λ i below.
    let less : i < n = omega (arith, length-map (range_with_len from n) (mask_bit bytes), length-range_with_len from n) in
    get_or-map (mask_bit bytes) (range_with_len from n) i 0 false (omega (arith, length-range_with_len from n)) ∙ ap (mask_bit bytes) (get_or-range_with_len from n i 0 less) ∙ bits (from + i)
    ∙ sym (get_or-take n (drop from ms) i false less ∙ get_or-drop from ms i false)) in
    let middle : count_by (λ m. m) (take n (drop from ms)) ≡ length (filter (mask_bit bytes) (range_with_len from n)) = ap (count_by (λ m. m)) (sym run) ∙ count_of_map (mask_bit bytes) (range_with_len from n) in
    let first : count_by (λ m. m) ms ≡ count_by (λ m. m) (take from ms) + count_by (λ m. m) (drop from ms) = ap (count_by (λ m. m)) (sym (take-append-drop from ms)) ∙ sum_by-append f (take from ms) (drop from ms) in
    let second : count_by (λ m. m) (drop from ms) ≡ count_by (λ m. m) (take n (drop from ms)) + count_by (λ m. m) (drop n (drop from ms)) =
    ap (count_by (λ m. m)) (sym (take-append-drop n (drop from ms))) ∙ sum_by-append f (take n (drop from ms)) (drop n (drop from ms)) in
    let rest : count_by (λ m. m) (drop n (drop from ms)) ≡ count_by (λ m. m) (drop (from + n) ms) = ap (count_by (λ m. m)) (drop-drop n from ms) in
    omega (arith, first, second, rest, middle)

-- how many marks are set once a run of them was set
pub count_after : (ms xs : List Bool) (old new marks : List ℕ) (from valid before after : ℕ) → from + length marks ≤ length ms
    → ((j : ℕ) → mask_bit old j ≡ get_or ms j false) → ((j : ℕ) → mask_bit new j ≡ get_or xs j false)
    → xs ≡ take from ms ++ (map (λ b. nat_eq b 1) marks ++ drop (from + length marks) ms) → valid ≡ count_by (λ m. m) ms
    → before ≡ length (filter (mask_bit old) (range_with_len from (length marks))) → after ≡ length (filter (mask_bit new) (range_with_len from (length marks)))
    → (before ≤ valid) × (valid - before + after ≡ count_by (λ m. m) xs)
count_after ms xs old new marks from valid before after within bits bits_new is counted b a =
    let n = length marks in
    let f : ℕ → Bool = λ m. nat_eq m 1 in
    let long : length xs ≡ length ms = ap length is ∙ length_run ms marks from within in
    let front : take from xs ≡ take from ms = ap (take from) is ∙ take_at (take from ms) (map f marks ++ drop (from + n) ms) from (length-take-le from ms (omega arith)) in
    let back : drop (from + n) xs ≡ drop (from + n) ms =
    ap (drop (from + n)) (is ∙ sym (append_assoc (take from ms) (map f marks) (drop (from + n) ms)))
    ∙ drop_at (take from ms ++ map f marks) (drop (from + n) ms) (from + n) (length-append (take from ms) (map f marks) ∙ omega (arith, length-take-le from ms (omega arith), length-map marks f)) in
    let one = count_parts ms old from n within bits in
    let two = count_parts xs new from n (omega (arith, long)) bits_new in
    let same_front : count_by (λ m. m) (take from xs) ≡ count_by (λ m. m) (take from ms) = ap (count_by (λ m. m)) front in
    let same_back : count_by (λ m. m) (drop (from + n) xs) ≡ count_by (λ m. m) (drop (from + n) ms) = ap (count_by (λ m. m)) back in
    (omega (arith, one, counted, b), omega (arith, one, two, counted, b, a, same_front, same_back))

-- a run of a mask of which all is set
pub set_run : (ms : List Bool) (from n : ℕ) → count_by (λ m. m) ms ≡ length ms → from + n ≤ length ms → take n (drop from ms) ≡ replicate n true
set_run ms from n full within =
    let long : length (take n (drop from ms)) ≡ n = length-take-le n (drop from ms) (omega (arith, length-drop from ms)) in
    ext_get_or false (take n (drop from ms)) (replicate n true) (long ∙ sym (length-replicate n true)) (λ k below.
    let less : k < n = omega (arith, long) in
    get_or-take n (drop from ms) k false less ∙ get_or-drop from ms k false ∙ all_set ms (from + k) full (omega arith) ∙ sym (get_or-replicate n k true false less))
