-- The bits of a mask, a byte at a time.
use Rattle.std.proofs.Common.{[], ◌≡◌, ℕ, ◌+◌, ◌-◌, ◌*◌, ◌/◌, ◌%◌, ◌<◌, List, length, get_or, ap, ◌∙◌, arith, ◌≤◌, sym, Bool, length-append, take, drop, true, cond, ◌&&◌, false, ⊎_elim, zero, suc, ◌∷◌, ◌++◌, append_assoc}
use Rattle.std.specs.Int.RustNames.{count_ones}
use Rattle.std.specs.List.{filter, range_with_len}
use Rattle.std.proofs.lemmas.List.Elements.{filter-append}
use Rattle.std.proofs.lemmas.List.{get_or-take, get_or-drop, length-take-le, length-drop, ext_get_or, get_or-map, get_or_append_left, get_or-append_right, length-map, take_at, drop-drop}
use Rattle.std.specs.Prelude.{nat_eq, nat_lt, nat_le}
use Rattle.std.proofs.lemmas.Bool.Decides.{nat_tests}
use Rattle.std.proofs.lemmas.Bool.{cases_lt}
use Rattle.std.proofs.Math.Seq.{drop-append-add}
use Rattle.raster_cells.specs.Masks.{mask_bit}
use Rattle.raster_cells.specs.inside.Bits.{byte_bit, bit_after}
use Rattle.raster_cells.proofs.MaskCounts.{ones_of, count_step, same_count, range_join, bit_after_none}
use Rattle.raster_cells.specs.MarkBytes.{mark_bytes}

-- ---- bits counted

-- a byte more
pub count_more_bytes : (bytes : List ℕ) (i n found : ℕ) → get_or bytes i 0 < 256 → n ≡ length (filter (mask_bit bytes) (range_with_len 0 (8 * i))) → found ≡ count_ones (get_or bytes i 0)
    → n + found ≡ length (filter (mask_bit bytes) (range_with_len 0 (8 * (i + 1))))
count_more_bytes bytes i n found small before here =
    let byte = get_or bytes i 0 in
    let at : i ≡ 8 * i / 8 = omega arith in
    let none : 0 ≡ 8 * i % 8 = omega arith in
    let wide : 8 ≡ 8 * i + 8 - 8 * i = omega arith in
    let ones : found ≡ length (filter (byte_bit (get_or bytes (8 * i / 8) 0)) (range_with_len (8 * i % 8) (8 * i + 8 - 8 * i))) =
    here ∙ ones_of 8 byte small ∙ ap (λ j. length (filter (byte_bit (get_or bytes j 0)) (range_with_len 0 8))) at
    ∙ ap (λ j. length (filter (byte_bit (get_or bytes (8 * i / 8) 0)) (range_with_len j 8))) none ∙ ap (λ m. length (filter (byte_bit (get_or bytes (8 * i / 8) 0)) (range_with_len (8 * i % 8) m))) wide in
    let first : 8 * i ≡ 8 * i - 0 = omega arith in
    let last : 8 * i + 8 - 0 ≡ 8 * (i + 1) = omega arith in
    count_step bytes 0 (8 * i) (8 * i + 8) n found (omega arith) (omega arith) (omega arith) (before ∙ ap (λ m. length (filter (mask_bit bytes) (range_with_len 0 m))) first) ones
    ∙ ap (λ m. length (filter (mask_bit bytes) (range_with_len 0 m))) last

-- bits of one byte
pub count_in_byte : (bytes : List ℕ) (from count found : ℕ) → from % 8 + count ≤ 8 → found ≡ length (filter (byte_bit (get_or bytes (from / 8) 0)) (range_with_len (from % 8) count))
    → found ≡ length (filter (mask_bit bytes) (range_with_len from count))
count_in_byte bytes from count found one here =
    here ∙ sym (same_count (mask_bit bytes) (byte_bit (get_or bytes (from / 8) 0)) from (from % 8) count (λ i less.
    let place : (from + i) / 8 ≡ from / 8 = omega arith in
    let bit : (from + i) % 8 ≡ from % 8 + i = omega arith in
    ap (λ j. byte_bit (get_or bytes j 0) ((from + i) % 8)) place ∙ ap (byte_bit (get_or bytes (from / 8) 0)) bit))

count_join : (p : ℕ → Bool) (from m n : ℕ) → length (filter p (range_with_len from (m + n))) ≡ length (filter p (range_with_len from m)) + length (filter p (range_with_len (from + m) n))
count_join p from m n =
    ap (λ ks. length (filter p ks)) (range_join from m n) ∙ ap length (filter-append p (range_with_len from m) (range_with_len (from + m) n))
    ∙ length-append (filter p (range_with_len from m)) (filter p (range_with_len (from + m) n))

-- a bit of bytes that stand among others
pub piece_bit : (bytes piece : List ℕ) (first n k : ℕ) → k < 8 * n → piece ≡ take n (drop first bytes) → mask_bit piece k ≡ mask_bit bytes (8 * first + k)
piece_bit bytes piece first n k less is =
    let low : k / 8 < n = omega arith in
    let there : get_or piece (k / 8) 0 ≡ get_or bytes (first + k / 8) 0 = ap (λ xs. get_or xs (k / 8) 0) is ∙ get_or-take n (drop first bytes) (k / 8) 0 low ∙ get_or-drop first bytes (k / 8) 0 in
    let place : first + k / 8 ≡ (8 * first + k) / 8 = omega arith in
    let bit : k % 8 ≡ (8 * first + k) % 8 = omega arith in
    ap (λ x. byte_bit x (k % 8)) (there ∙ ap (λ j. get_or bytes j 0) place) ∙ ap (byte_bit (get_or bytes ((8 * first + k) / 8) 0)) bit

-- and how many of them are 1
count_piece : (bytes piece : List ℕ) (first n : ℕ) → first + n ≤ length bytes → piece ≡ take n (drop first bytes)
    → length (filter (mask_bit piece) (range_with_len 0 (8 * n))) ≡ length (filter (mask_bit bytes) (range_with_len (8 * first) (8 * n)))
count_piece bytes piece first n within is =
    same_count (mask_bit piece) (mask_bit bytes) 0 (8 * first) (8 * n) (λ i less. ap (mask_bit piece) (let e : 0 + i ≡ i = omega arith in e) ∙ piece_bit bytes piece first n i less is)

-- bits before whole bytes, those of the bytes, and those behind them
pub count_three : (bytes piece : List ℕ) (from count first last a b c : ℕ) → from ≤ first * 8 → first ≤ last → last * 8 ≤ from + count → last ≤ length bytes → piece ≡ take (last - first) (drop first bytes)
    → a ≡ length (filter (mask_bit bytes) (range_with_len from (first * 8 - from))) → b ≡ length (filter (mask_bit piece) (range_with_len 0 (8 * length piece)))
    → c ≡ length (filter (mask_bit bytes) (range_with_len (last * 8) (from + count - last * 8))) → a + b + c ≡ length (filter (mask_bit bytes) (range_with_len from count))
count_three bytes piece from count first last a b c low order high within is front middle back =
    let p = mask_bit bytes in
    let n = last - first in
    let long : length piece ≡ n = ap length is ∙ length-take-le n (drop first bytes) (omega (arith, length-drop first bytes)) in
    let whole : b ≡ length (filter p (range_with_len (8 * first) (8 * n))) = middle ∙ ap (λ m. length (filter (mask_bit piece) (range_with_len 0 (8 * m)))) long ∙ count_piece bytes piece first n (omega arith) is in
    let parts : count ≡ (first * 8 - from) + (8 * n + (from + count - last * 8)) = omega arith in
    let second : from + (first * 8 - from) ≡ 8 * first = omega arith in
    let third : 8 * first + 8 * n ≡ last * 8 = omega arith in
    let split : length (filter p (range_with_len from count)) ≡ length (filter p (range_with_len from (first * 8 - from))) + length (filter p (range_with_len (8 * first) (8 * n + (from + count - last * 8)))) =
    ap (λ m. length (filter p (range_with_len from m))) parts ∙ count_join p from (first * 8 - from) (8 * n + (from + count - last * 8))
    ∙ ap (λ j. length (filter p (range_with_len from (first * 8 - from))) + length (filter p (range_with_len j (8 * n + (from + count - last * 8))))) second in
    let rest : length (filter p (range_with_len (8 * first) (8 * n + (from + count - last * 8)))) ≡ length (filter p (range_with_len (8 * first) (8 * n))) + length (filter p (range_with_len (last * 8) (from + count - last * 8))) =
    count_join p (8 * first) (8 * n) (from + count - last * 8)
    ∙ ap (λ j. length (filter p (range_with_len (8 * first) (8 * n))) + length (filter p (range_with_len j (from + count - last * 8)))) third in
    omega (arith, front, whole, back, split, rest)

-- ---- bits set

bit_in : (old marks : List ℕ) (from n k : ℕ) → from ≤ k → k < from + n → bit_after old marks from n k ≡ nat_eq (get_or marks (k - from) 0) 1
bit_in old marks from n k low high =
    let t : (nat_le from k && nat_lt k (from + n)) ≡ true = grind (arith, nat_tests) in
    ap (λ u. cond u (nat_eq (get_or marks (k - from) 0) 1) (mask_bit old k)) t

bit_before : (old marks : List ℕ) (from n k : ℕ) → k < from → bit_after old marks from n k ≡ mask_bit old k
bit_before old marks from n k low =
    let t : (nat_le from k && nat_lt k (from + n)) ≡ false = grind (arith, nat_tests) in
    ap (λ u. cond u (nat_eq (get_or marks (k - from) 0) 1) (mask_bit old k)) t

bit_behind : (old marks : List ℕ) (from n k : ℕ) → from + n ≤ k → bit_after old marks from n k ≡ mask_bit old k
bit_behind old marks from n k high =
    let t : (nat_le from k && nat_lt k (from + n)) ≡ false = grind (arith, nat_tests) in
    ap (λ u. cond u (nat_eq (get_or marks (k - from) 0) 1) (mask_bit old k)) t

-- a run of bits, and the run behind it
pub bits_joined : (old mid new marks front back : List ℕ) (from w k : ℕ) → w ≤ length marks → front ≡ take w marks → back ≡ drop w marks → mask_bit mid k ≡ bit_after old front from w k
    → mask_bit new k ≡ bit_after mid back (from + w) (length marks - w) k → mask_bit new k ≡ bit_after old marks from (length marks) k
bits_joined old mid new marks front back from w k within is rest one two =
    ⊎_elim
    (λ (lt : k < from + w). two ∙ bit_before mid back (from + w) (length marks - w) k lt ∙ one ∙ ⊎_elim
    (λ (less : k < from). bit_before old front from w k less ∙ sym (bit_before old marks from (length marks) k less))
    (λ (ge : from ≤ k).
    let same : get_or front (k - from) 0 ≡ get_or marks (k - from) 0 = ap (λ xs. get_or xs (k - from) 0) is ∙ get_or-take w marks (k - from) 0 (omega arith) in
    bit_in old front from w k ge lt ∙ ap (λ x. nat_eq x 1) same ∙ sym (bit_in old marks from (length marks) k ge (omega arith)))
    (cases_lt k from))
    (λ (ge : from + w ≤ k). ⊎_elim
    (λ (less : k < from + length marks).
    let same : get_or back (k - (from + w)) 0 ≡ get_or marks (k - from) 0 =
    ap (λ xs. get_or xs (k - (from + w)) 0) rest ∙ get_or-drop w marks (k - (from + w)) 0 ∙ ap (λ j. get_or marks j 0) (let e : w + (k - (from + w)) ≡ k - from = omega arith in e) in
    two ∙ bit_in mid back (from + w) (length marks - w) k ge (omega arith) ∙ ap (λ x. nat_eq x 1) same ∙ sym (bit_in old marks from (length marks) k (omega arith) less))
    (λ (past : from + length marks ≤ k).
    two ∙ bit_behind mid back (from + w) (length marks - w) k (omega arith) ∙ one ∙ bit_behind old front from w k ge ∙ sym (bit_behind old marks from (length marks) k past))
    (cases_lt k (from + length marks)))
    (cases_lt k (from + w))

-- where a run begins with a byte, its first bit is that of the byte
pub bits_packed : (old marks : List ℕ) (from w k : ℕ) → (0 < w → from % 8 ≡ 0) → bit_after old marks (8 * (from / 8)) w k ≡ bit_after old marks from w k
bits_packed old marks from zero k first = bit_after_none old marks (8 * (from / 8)) k ∙ sym (bit_after_none old marks from k)
bits_packed old marks from (suc w) k first =
    let at : from % 8 ≡ 0 = first (omega arith) in
    ap (λ j. bit_after old marks j (suc w) k) (let e : 8 * (from / 8) ≡ from = omega arith in e)

-- ---- a byte for each bit

bit_number : (n : ℕ) → n % 2 ≡ cond (nat_eq (n % 2) 1) 1 0
bit_number n =
    ⊎_elim
    (λ (lt : n % 2 < 1).
    let t : nat_eq (n % 2) 1 ≡ false = grind (arith, nat_tests) in
    let zero_ : n % 2 ≡ 0 = omega arith in
    zero_ ∙ ap (λ u. cond u 1 0) (sym t))
    (λ (ge : 1 ≤ n % 2).
    let t : nat_eq (n % 2) 1 ≡ true = grind (arith, nat_tests) in
    let one : n % 2 ≡ 1 = omega arith in
    one ∙ ap (λ u. cond u 1 0) (sym t))
    (cases_lt (n % 2) 1)

pub spread_bit : (byte q : ℕ) → byte < 256 → q < 8
    → get_or {A = ℕ} (byte / 128 ∷ byte / 64 % 2 ∷ byte / 32 % 2 ∷ byte / 16 % 2 ∷ byte / 8 % 2 ∷ byte / 4 % 2 ∷ byte / 2 % 2 ∷ byte % 2 ∷ []) q 0 ≡ cond (byte_bit byte q) 1 0
spread_bit byte zero small h =
    let e : byte / 128 ≡ byte / 128 % 2 = omega arith in
    e ∙ bit_number (byte / 128)
spread_bit byte (suc zero) small h = bit_number (byte / 64)
spread_bit byte (suc (suc zero)) small h = bit_number (byte / 32)
spread_bit byte (suc (suc (suc zero))) small h = bit_number (byte / 16)
spread_bit byte (suc (suc (suc (suc zero)))) small h = bit_number (byte / 8)
spread_bit byte (suc (suc (suc (suc (suc zero))))) small h = bit_number (byte / 4)
spread_bit byte (suc (suc (suc (suc (suc (suc zero)))))) small h = bit_number (byte / 2)
spread_bit byte (suc (suc (suc (suc (suc (suc (suc zero))))))) small h =
    let e : byte ≡ byte / 1 = omega arith in
    bit_number byte ∙ ap (λ n. cond (nat_eq (n % 2) 1) 1 0) e
spread_bit byte (suc (suc (suc (suc (suc (suc (suc (suc q)))))))) small h = absurd (let no : ⊥ = omega arith in no)

-- bytes of marks, laid over the front in two parts
pub marks_joined : (ms : List Bool) (from count w : ℕ) (old mid front back out : List ℕ) → w ≤ count → from + count ≤ length ms → length front ≡ w → length back ≡ count - w → mid ≡ front ++ drop w old
    → out ≡ take w mid ++ (back ++ drop count mid) → ((k : ℕ) → k < w → get_or front k 0 ≡ cond (get_or ms (from + k) false) 1 0)
    → ((k : ℕ) → k < count - w → get_or back k 0 ≡ cond (get_or ms (from + w + k) false) 1 0) → out ≡ mark_bytes (take count (drop from ms)) ++ drop count old
marks_joined ms from count w old mid front back out within room long rest laid joined first second =
    let f : Bool → ℕ = λ m. cond m 1 0 in
    let run = take count (drop from ms) in
    let run_long : length run ≡ count = length-take-le count (drop from ms) (omega (arith, length-drop from ms)) in
    let head : take w mid ≡ front = ap (take w) laid ∙ take_at front (drop w old) w long in
    let split : count ≡ length front + (count - w) = omega (arith, long) in
    let tail : drop count mid ≡ drop count old =
    ap (drop count) laid ∙ ap (λ n. drop n (front ++ drop w old)) split ∙ drop-append-add front (drop w old) (count - w)
    ∙ drop-drop (count - w) w old ∙ ap (λ n. drop n old) (let e : w + (count - w) ≡ count = omega arith in e) in
    let all : front ++ back ≡ mark_bytes run =
    ext_get_or 0 (front ++ back) (mark_bytes run) (length-append front back ∙ omega (arith, long, rest, run_long, length-map run f)) (λ k below.
    let less : k < count = omega (arith, long, rest, length-append front back) in
    let mark : get_or (mark_bytes run) k 0 ≡ f (get_or ms (from + k) false) =
    get_or-map f run k false 0 (omega (arith, run_long)) ∙ ap f (get_or-take count (drop from ms) k false less ∙ get_or-drop from ms k false) in
    ⊎_elim
    (λ (lt : k < w). get_or_append_left front back 0 k (omega (arith, long)) ∙ first k lt ∙ sym mark)
    (λ (ge : w ≤ k).
    let place : from + w + (k - w) ≡ from + k = omega arith in
    get_or-append_right front back w k 0 long ge ∙ second (k - w) (omega arith) ∙ ap (λ j. f (get_or ms j false)) place ∙ sym mark)
    (cases_lt k w)) in
    joined ∙ ap (λ xs. xs ++ (back ++ drop count mid)) head ∙ ap (λ xs. front ++ (back ++ xs)) tail ∙ sym (append_assoc front back (drop count old)) ∙ ap (λ xs. xs ++ drop count old) all
