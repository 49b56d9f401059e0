-- How the bytes of a mask stand for its marks.
use Rattle.std.proofs.Common.{◌≡◌, ◌≢◌, ℕ, Bool, true, false, cond, sym, ap, ◌∙◌, arith, ⊎_elim, ◌-◌, ◌*◌, ◌%◌, ◌^◌, ◌<◌, ◌≤◌, ◌&&◌, List, length, ◌+◌, get_or, ◌/◌, zero, suc, replicate, refl, set, subst, ◌++◌, take, drop, map}
use Rattle.std.specs.Prelude.{nat_eq, bit_or, bit_and, nat_lt, min}
use Rattle.std.proofs.lemmas.Bool.{cases_eq, cases_lt}
use Rattle.std.proofs.lemmas.Bool.Decides.{nat_tests}
use Rattle.std.proofs.lemmas.Nat.Bits.{bit_at_set_same, bit_at_set_other, bit_at_clear_same, bit_at_clear_other, bit_at_and, bit_at_mask_inside, bit_at_mask_below, bit_at-lt, ones_shl, bit_at-zero, bit_at_ones}
use Rattle.std.specs.Int.{bit_at}
use Rattle.std.specs.List.{range_with_len, count_by, filter}
use Rattle.std.proofs.lemmas.List.{length-map, get_or-map, ext_get_or, get_or_past, length-replicate, get_or-replicate, length-set, get_or-set_same, get_or-set_other}
use Rattle.std.proofs.lemmas.List.FromFn.{length-range_with_len, get_or-range_with_len}
use Rattle.std.proofs.lemmas.List.Sums.{sum_by-cons, sum_by-set, count_by-le-length}
use mir.Syntax.{w8}
use Rattle.raster_cells.specs.inside.Bits.{byte_bit, bit_after}
use Rattle.raster_cells.specs.Masks.{mask_bit, marks_in}
use Rattle.raster_cells.specs.declared.marks.mask.Mask.TheInside.{Inside}
use Rattle.raster_cells.specs.inside.MaskView.{seen_mask, IsMask}
use Rattle.raster_cells.proofs.MaskCounts.{count_after, run_marks}

-- ---- one byte

-- one place or another
pick : (q place : ℕ) (x a b : Bool) → (q ≡ place → x ≡ a) → (q ≢ place → x ≡ b) → x ≡ cond (nat_eq q place) a b
pick q place x a b same other =
    ⊎_elim
    (λ (e : q ≡ place). same e ∙ (let t : nat_eq q place ≡ true = grind (arith, nat_tests) in ap (λ u. cond u a b) (sym t)))
    (λ (ne : q ≢ place). other ne ∙ (let t : nat_eq q place ≡ false = grind (arith, nat_tests) in ap (λ u. cond u a b) (sym t)))
    (cases_eq q place)

pub bit_put : (byte place q : ℕ) → place < 8 → q < 8 → byte_bit (bit_or byte (1 * 2 ^ (7 - place) % 256)) q ≡ cond (nat_eq q place) true (byte_bit byte q)
bit_put byte place q at within =
    let low : 7 - place < 8 = omega arith in
    let new = bit_or byte (1 * 2 ^ (7 - place) % 256) in
    pick q place (byte_bit new q) true (byte_bit byte q)
    (λ e. ap (λ j. byte_bit new j) e ∙ ap (λ n. nat_eq n 1) (bit_at_set_same w8 byte (7 - place) low))
    (λ ne. ap (λ n. nat_eq n 1) (bit_at_set_other w8 byte (7 - place) low (7 - q) (λ e. ne (omega arith))))

pub bit_cleared : (byte place q : ℕ) → place < 8 → q < 8 → byte_bit (bit_and byte (255 - 1 * 2 ^ (7 - place) % 256)) q ≡ cond (nat_eq q place) false (byte_bit byte q)
bit_cleared byte place q at within =
    let low : 7 - place < 8 = omega arith in
    let there : 7 - q < 8 = omega arith in
    let new = bit_and byte (255 - 1 * 2 ^ (7 - place) % 256) in
    pick q place (byte_bit new q) false (byte_bit byte q)
    (λ e. ap (λ j. byte_bit new j) e ∙ ap (λ n. nat_eq n 1) (bit_at_clear_same w8 byte (7 - place) low))
    (λ ne. ap (λ n. nat_eq n 1) (bit_at_clear_other w8 byte (7 - place) low (7 - q) there (λ e. ne (omega arith))))

pub bit_in_front : (byte count q : ℕ) → 0 < count → count < 8 → q < 8 → byte_bit (bit_and byte (255 * 2 ^ (8 - count) % 256)) q ≡ (nat_lt q count && byte_bit byte q)
bit_in_front byte count q above below within =
    let k = 8 - count in
    let shift : k ≤ 8 = omega arith in
    let mask : 255 * 2 ^ k % 256 ≡ 2 ^ 8 - 2 ^ k = ones_shl 8 k shift in
    let both : bit_at (bit_and byte (255 * 2 ^ k % 256)) (7 - q) ≡ min (bit_at byte (7 - q)) (bit_at (2 ^ 8 - 2 ^ k) (7 - q)) =
    bit_at_and byte (255 * 2 ^ k % 256) (7 - q) ∙ ap (λ m. min (bit_at byte (7 - q)) (bit_at m (7 - q))) mask in
    ⊎_elim
    (λ (lt : q < count).
    let one : bit_at (2 ^ 8 - 2 ^ k) (7 - q) ≡ 1 = bit_at_mask_inside k 8 (7 - q) (omega arith) (omega arith) in
    let t : nat_lt q count ≡ true = grind (arith, nat_tests) in
    let kept : min (bit_at byte (7 - q)) (bit_at (2 ^ 8 - 2 ^ k) (7 - q)) ≡ bit_at byte (7 - q) = omega (arith, one, bit_at-lt byte (7 - q)) in
    ap (λ n. nat_eq n 1) (both ∙ kept) ∙ ap (λ u. u && byte_bit byte q) (sym t))
    (λ (ge : count ≤ q).
    let none : bit_at (2 ^ 8 - 2 ^ k) (7 - q) ≡ 0 = bit_at_mask_below k 8 (7 - q) (omega arith) in
    let t : nat_lt q count ≡ false = grind (arith, nat_tests) in
    let gone : min (bit_at byte (7 - q)) (bit_at (2 ^ 8 - 2 ^ k) (7 - q)) ≡ 0 = omega (arith, none) in
    ap (λ n. nat_eq n 1) (both ∙ gone) ∙ ap (λ u. u && byte_bit byte q) (sym t))
    (cases_lt q count)

-- ---- marks

pub length-marks_in : (n : ℕ) (mask : List ℕ) → length (marks_in n mask) ≡ n
unfolding marks_in
length-marks_in n mask = length-map (range_with_len 0 n) (mask_bit mask) ∙ length-range_with_len 0 n

pub get_or-marks_in : (n : ℕ) (mask : List ℕ) (k : ℕ) → k < n → get_or (marks_in n mask) k false ≡ mask_bit mask k
unfolding marks_in
get_or-marks_in n mask k below =
    get_or-map (mask_bit mask) (range_with_len 0 n) k 0 false (omega (arith, length-range_with_len 0 n))
    ∙ ap (mask_bit mask) (get_or-range_with_len 0 n k 0 below ∙ (let e : 0 + k ≡ k = omega arith in e))

-- the marks whose bits these are
pub marks_are : (n : ℕ) (mask : List ℕ) (marks : List Bool) → length marks ≡ n → ((k : ℕ) → k < n → mask_bit mask k ≡ get_or marks k false) → marks_in n mask ≡ marks
marks_are n mask marks size bits =
    ext_get_or false (marks_in n mask) marks (length-marks_in n mask ∙ sym size) (λ k below.
    let less : k < n = omega (arith, length-marks_in n mask) in
    get_or-marks_in n mask k less ∙ bits k less)

pub bits_before : (n : ℕ) (mask : List ℕ) (k : ℕ) → (nat_lt k n && mask_bit mask k) ≡ get_or (marks_in n mask) k false
bits_before n mask k =
    ⊎_elim
    (λ (lt : k < n). let t : nat_lt k n ≡ true = grind (arith, nat_tests) in ap (λ u. u && mask_bit mask k) t ∙ sym (get_or-marks_in n mask k lt))
    (λ (ge : n ≤ k). let t : nat_lt k n ≡ false = grind (arith, nat_tests) in ap (λ u. u && mask_bit mask k) t ∙ sym (get_or_past (marks_in n mask) k false (omega (arith, length-marks_in n mask))))
    (cases_lt k n)

pub size_is : (a : Inside) → length (seen_mask a) ≡ a.count
size_is a = length-marks_in a.count a.bytes.items

-- each bit is a mark, also those behind the last one
pub bit_is : (a : Inside) → IsMask a → (k : ℕ) → mask_bit a.bytes.items k ≡ get_or (seen_mask a) k false
bit_is a h k =
    ⊎_elim
    (λ (lt : k < a.count). sym (get_or-marks_in a.count a.bytes.items k lt))
    (λ (ge : a.count ≤ k). h.spare k ge ∙ sym (get_or_past (seen_mask a) k false (omega (arith, size_is a))))
    (cases_lt k a.count)

no_bit : (q : ℕ) → byte_bit 0 q ≡ false
no_bit q = ap (λ n. nat_eq n 1) (bit_at-zero (7 - q))

-- ---- whole masks

-- bytes that have the bits of these marks, and 0 behind them, are their mask
pub are_mask : (a : Inside) (marks : List Bool) → a.count ≤ 16777216 → length marks ≡ a.count → length a.bytes.items ≡ (a.count + 7) / 8
    → ((k : ℕ) → mask_bit a.bytes.items k ≡ get_or marks k false) → a.valid ≡ count_by (λ m. m) marks → IsMask a
are_mask a marks few long size bits counted = record {
  few = few;
  size = size;
  spare = λ k past. bits k ∙ get_or_past marks k false (omega (arith, long));
  counted = counted ∙ ap (count_by (λ m. m)) (sym (marks_are a.count a.bytes.items marks long (λ k _. bits k)));
}

pub count_is : (a : Inside) (ms : List Bool) → seen_mask a ≡ ms → length ms ≡ a.count
count_is a ms e = sym (ap length e) ∙ size_is a

-- ---- masks of one mark

none_on : (n k : ℕ) → get_or (replicate n false) k false ≡ false
none_on zero k = refl
none_on (suc n) zero = refl
none_on (suc n) (suc k) = none_on n k

no_byte : (n i : ℕ) → ◌≡◌ {A = ℕ} (get_or (replicate n 0) i 0) 0
no_byte zero i = refl
no_byte (suc n) zero = refl
no_byte (suc n) (suc i) = no_byte n i

pub bits_none : (n size k : ℕ) → mask_bit (replicate size 0) k ≡ get_or (replicate n false) k false
bits_none n size k = ap (λ b. byte_bit b (k % 8)) (no_byte size (k / 8)) ∙ no_bit (k % 8) ∙ sym (none_on n k)

pub count_of_none : (n : ℕ) → count_by (λ m. m) (replicate n false) ≡ 0
count_of_none zero = refl
count_of_none (suc n) = omega (arith, sum_by-cons (λ m. cond m 1 0) false (replicate n false), count_of_none n)

pub count_of_all : (n : ℕ) → count_by (λ m. m) (replicate n true) ≡ n
count_of_all zero = refl
count_of_all (suc n) = omega (arith, sum_by-cons (λ m. cond m 1 0) true (replicate n true), count_of_all n)

pub all_on : (n k : ℕ) → get_or (replicate n true) k false ≡ nat_lt k n
all_on n k =
    ⊎_elim
    (λ (lt : k < n). let t : nat_lt k n ≡ true = grind (arith, nat_tests) in get_or-replicate n k true false lt ∙ sym t)
    (λ (ge : n ≤ k). let t : nat_lt k n ≡ false = grind (arith, nat_tests) in get_or_past (replicate n true) k false (omega (arith, length-replicate n true)) ∙ sym t)
    (cases_lt k n)

pub bits_all : (mask : List ℕ) (count k : ℕ) → length mask ≡ (count + 7) / 8 → mask ≡ replicate (length mask) 255 → (nat_lt k count && mask_bit mask k) ≡ nat_lt k count
bits_all mask count k size full =
    ⊎_elim
    (λ (lt : k < count).
    let t : nat_lt k count ≡ true = grind (arith, nat_tests) in
    let here : k / 8 < length mask = omega arith in
    let one : mask_bit mask k ≡ true = ap (λ b. byte_bit b (k % 8)) (ap (λ xs. get_or xs (k / 8) 0) full ∙ get_or-replicate (length mask) (k / 8) 255 0 here) ∙ ap (λ n. nat_eq n 1) (bit_at_ones 8 (7 - k % 8) (omega arith)) in
    ap (λ u. u && mask_bit mask k) t ∙ one ∙ sym t)
    (λ (ge : count ≤ k). let t : nat_lt k count ≡ false = grind (arith, nat_tests) in ap (λ u. u && mask_bit mask k) t ∙ sym t)
    (cases_lt k count)

-- ---- one mark set

pub set_size : (ms : List Bool) (k : ℕ) (mark : Bool) (n : ℕ) → length ms ≡ n → length (set ms k mark) ≡ n
set_size ms k mark n e = length-set ms k mark ∙ e

pub bits_set : (mask old : List ℕ) (ms : List Bool) (k : ℕ) (mark : Bool) → k < length ms → ((j : ℕ) → mask_bit old j ≡ get_or ms j false)
    → ((j : ℕ) → mask_bit mask j ≡ cond (nat_eq j k) mark (mask_bit old j)) → (j : ℕ) → mask_bit mask j ≡ get_or (set ms k mark) j false
bits_set mask old ms k mark below before is j =
    is j ∙ sym (pick j k (get_or (set ms k mark) j false) mark (mask_bit old j)
    (λ e. ap (λ i. get_or (set ms k mark) i false) e ∙ get_or-set_same ms k mark false below)
    (λ ne. get_or-set_other ms k j mark false ne ∙ sym (before j)))

pub count_set : (ms : List Bool) (k valid new old : ℕ) (mark was : Bool) → k < length ms → valid ≡ count_by (λ m. m) ms → was ≡ get_or ms k false → new ≡ cond mark 1 0 → old ≡ cond was 1 0
    → (old ≤ valid + new) × (valid + new - old ≡ count_by (λ m. m) (set ms k mark))
count_set ms k valid new old mark was below counted is n o =
    let f : Bool → ℕ = λ m. cond m 1 0 in
    let sums : count_by (λ m. m) (set ms k mark) + cond (get_or ms k false) 1 0 ≡ count_by (λ m. m) ms + cond mark 1 0 = sum_by-set f ms k mark false below in
    let before : old ≡ cond (get_or ms k false) 1 0 = o ∙ ap (λ b. cond b 1 0) is in
    (omega arith, omega arith)

pub few_valid : (a : Inside) → IsMask a → a.valid ≤ 16777216
few_valid a h = omega (arith, h.counted, count_by-le-length (λ m. m) (marks_in a.count a.bytes.items), size_is a, h.few)

pub bit_small : (b : Bool) → cond b 1 0 ≤ 1
bit_small true = omega arith
bit_small false = omega arith

pub run_within : (a : Inside) (ms : List Bool) (from n : ℕ) → seen_mask a ≡ ms → from + n ≤ length ms → from + n ≤ length (seen_mask a)
run_within a ms from n e within = subst (λ (xs : List Bool). from + n ≤ length xs) (sym e) within

-- a run of marks lies in the bytes
pub run_room : (a : Inside) (ms : List Bool) (from n : ℕ) → IsMask a → seen_mask a ≡ ms → from + n ≤ length ms → (from + n ≤ 16777216) × (from + n ≤ 8 * length a.bytes.items)
run_room a ms from n h e within = (omega (arith, count_is a ms e, h.few), omega (arith, count_is a ms e, h.size))

-- how many pixels are valid once a run of marks was set
pub run_counted : (a : Inside) (new marks read after_read : List ℕ) (from before after : ℕ) → IsMask a → from + length marks ≤ length (seen_mask a)
    → ((k : ℕ) → mask_bit new k ≡ bit_after a.bytes.items marks from (length marks) k) → read ≡ a.bytes.items → after_read ≡ new
    → before ≡ length (filter (mask_bit read) (range_with_len from (length marks))) → after ≡ length (filter (mask_bit after_read) (range_with_len from (length marks)))
    → (before ≤ a.valid) × (a.valid - before + after ≡ count_by (λ m. m) (take from (seen_mask a) ++ (map (λ b. nat_eq b 1) marks ++ drop (from + length marks) (seen_mask a))))
run_counted a new marks read after_read from before after h within bits r s b e =
    let ms = seen_mask a in
    let n = length marks in
    count_after ms _ a.bytes.items new marks from a.valid before after within (bit_is a h) (λ k. bits k ∙ run_marks a.bytes.items ms marks from k within (bit_is a h)) refl h.counted
    (b ∙ ap (λ xs. length (filter (mask_bit xs) (range_with_len from n))) r) (e ∙ ap (λ xs. length (filter (mask_bit xs) (range_with_len from n))) s)
