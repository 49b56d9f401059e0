-- The table that is written is a table.
use Rattle.std.proofs.Common.{◌≡◌, ℕ, zero, suc, ◌+◌, ◌-◌, ◌*◌, ◌^◌, ◌<◌, ◌≤◌, Bool, true, cond, nat_lt, List, [], ◌++◌, length, get_or, map, take, drop, slice_index, refl, sym, ap, ◌∙◌, subst, inl, inr, arith, ℤ, pos, ◌≤ℤ◌, ◌-ℤ◌, false, replicate}
use Rattle.std.specs.Prelude.{All, sum}
use Rattle.std.specs.List.{range_with_len}
use Rattle.std.proofs.lemmas.Bool.{cases_lt}
use Rattle.std.proofs.lemmas.Bool.Decides.{nat_tests}
use Rattle.std.proofs.lemmas.Int.{ints}
use Rattle.std.proofs.lemmas.List.{length-append, length-take-le, length-drop, take_at, take_all, take-append-drop, drop_at, drop-drop, append-nil, append_assoc, nil_from_length, ext_get_or, get_or_past}
use Rattle.std.proofs.lemmas.List.FromFn.{length-map-range_with_len, get_or-map-range_with_len, map-range_with_len_more}
use Rattle.std.proofs.lemmas.List.Elements.{All-from_get_or}
use Rattle.std.proofs.lemmas.List.Sums.{sum_by_push, sum_by_more}
use borrow.Rule.Slice.PartMut.{put_mid}
use Rattle.byteorder.specs.Endian.{little_number, little_bytes, twos_complement}
use Rattle.byteorder.specs.Numbers.{little_number-reads_back}
use Rattle.bit_stuff.specs.Head.{head_size, count_size, chosen_code}
use Rattle.bit_stuff.specs.Simple.{simple_bytes, width_of}
use Rattle.bit_stuff.proofs.Digits.{width_of-le}
use Rattle.bit_stuff.proofs.HeadLaws.{simple_bytes-list, length-simple_bytes}
use Rattle.bit_stuff.proofs.StuffedLaws.{stuffed_size-le}
use Rattle.lut_stuff.specs.Lists.IsList.{simple}
use Rattle.huff_codes.specs.Codes.{AreLengths, code_at, canonical_codes}
use Rattle.huff_codes.specs.Words.{joined_codes, word_count}
use Rattle.huff_codes.specs.Table.{int_at, IsRange, HaveLengths, symbol_in, symbols_in, words_size, AreCodeWords}
use Rattle.huff_codes.specs.declared.tables.table.SymbolRange.{SymbolRange}
use Rattle.huff_codes.specs.Written.{AreTableWords, IsShortestRun, IsTableSize, run_lengths, table_head}
use Rattle.huff_codes.specs.Laws.{WrittenTablesAreTables}
use Rattle.huff_codes.proofs.ChosenRuns.{holds_from, one_run}
use Rattle.huff_codes.proofs.Cutting.{symbols_more}
use Rattle.huff_codes.proofs.Filling.{canonical_long, length-word}
use Rattle.huff_codes.proofs.Made.{canonical_are_codes, length-canonical_codes, some_length}
use Rattle.huff_codes.proofs.Reading.{joined_codes-nil, joined_codes-push}

-- ---- lists along a range

pub listed : (f : ℕ → ℕ) (out : List ℕ) (n : ℕ) → length out ≡ n → ((j : ℕ) → j < n → get_or out j 0 ≡ f j) → out ≡ map f (range_with_len 0 n)
listed f out n long each = ext_get_or 0 out (map f (range_with_len 0 n)) (long ∙ sym (length-map-range_with_len f 0 n))
    (λ j lt. let low : j < n = omega (arith, lt, long) in each j low ∙ sym (get_or-map-range_with_len f 0 n j j 0 low (omega arith)))

pub run_at : (lengths : List ℕ) (range : SymbolRange) (k : ℕ) → k < range.count → slice_index (run_lengths lengths range) k ≡ slice_index lengths (symbol_in range.first k)
run_at lengths range k lt = get_or-map-range_with_len (λ j. slice_index lengths (symbol_in range.first j)) 0 range.count k k 0 lt (omega arith)

pub run_long : (lengths : List ℕ) (range : SymbolRange) → length (run_lengths lengths range) ≡ range.count
run_long lengths range = length-map-range_with_len (λ j. slice_index lengths (symbol_in range.first j)) 0 range.count

pub run_low : (lengths : List ℕ) (range : SymbolRange) → AreLengths lengths → All (λ l. l ≤ 32) (run_lengths lengths range)
run_low lengths range h = All-from_get_or (λ l. l ≤ 32) (run_lengths lengths range) 0 (λ k lt.
    let low : k < range.count = omega (arith, lt, run_long lengths range) in
    subst (λ l. l ≤ 32) (sym (run_at lengths range k low)) (h.low (symbol_in range.first k) (omega arith)))

-- the codes of a range have as many bits as its lengths say
bits_sum : (codes : List (List Bool)) (l : ℕ → ℕ) (first n : ℕ) → ((k : ℕ) → length (code_at codes (symbol_in first k)) ≡ l k) → length (joined_codes codes (symbols_in first n)) ≡ sum (map l (range_with_len 0 n))
bits_sum codes l first zero each = ap length (joined_codes-nil codes)
bits_sum codes l first (suc n) each =
    let e : suc n ≡ n + 1 = omega arith in
    let before = bits_sum codes l first n each in
    let more = length-append (joined_codes codes (symbols_in first n)) (code_at codes (symbol_in first n)) in
    let pushed : length (joined_codes codes (symbols_in first (n + 1))) ≡ sum (map l (range_with_len 0 n)) + l n =
    ap length (ap (joined_codes codes) (symbols_more first n) ∙ joined_codes-push codes (symbols_in first n) (symbol_in first n)) ∙ more ∙ (λ i. before i + each n i) in
    ap (λ k. length (joined_codes codes (symbols_in first k))) e ∙ pushed ∙ sym (sum_by_push (λ x. x) (map l (range_with_len 0 n)) (l n)) ∙ ap sum (sym (map-range_with_len_more l 0 n n (omega arith)))
    ∙ ap (λ k. sum (map l (range_with_len 0 k))) (sym e)

pub run_bits : (lengths : List ℕ) (range : SymbolRange) → AreLengths lengths → length (joined_codes (canonical_codes lengths) (symbols_in range.first range.count)) ≡ sum (run_lengths lengths range)
run_bits lengths range h =
    bits_sum (canonical_codes lengths) (λ k. slice_index lengths (symbol_in range.first k)) range.first range.count (λ k. canonical_long lengths (symbol_in range.first k) h (omega arith))

-- ---- the run of lengths

pub most_of_run : (lengths : List ℕ) (range : SymbolRange) → IsShortestRun lengths range → range.count ≤ 256
most_of_run lengths range h = h.shortest range.first 256 h.first_below (holds_from lengths range.first 0 h.first_below (omega arith) (λ g lt. absurd (omega (arith, lt))))

pub some_of_run : (lengths : List ℕ) (range : SymbolRange) → AreLengths lengths → IsShortestRun lengths range → 0 < range.count
some_of_run lengths range h run =
    let used = some_length lengths h in
    let at = run.holds used.0 used.1.0 used.1.1 in
    let lt = at.1.0 in
    omega (arith, lt)

pub have_of_run : (lengths : List ℕ) (range : SymbolRange) → AreLengths lengths → IsShortestRun lengths range → HaveLengths (run_lengths lengths range)
have_of_run lengths range h run =
    let used = some_length lengths h in
    let at = run.holds used.0 used.1.0 used.1.1 in
    let long = run_long lengths range in
    let k_lt = at.1.0 in
    let is : slice_index (run_lengths lengths range) at.0 ≡ slice_index lengths used.0 = run_at lengths range at.0 at.1.0 ∙ ap (slice_index lengths) at.1.1 in
    let some = used.1.1 in
    record { low = run_low lengths range h; some = (at.0, omega (arith, long, k_lt), omega (arith, is, some)) }

-- ---- the numbers in front

positive : (x : ℕ) → x < 2147483648 → twos_complement 4 x ≡ pos x
positive x lt = ap (λ b. cond b (pos x) (pos x -ℤ pos 4294967296)) (is_less x 2147483648 lt)
  where
    is_less : (a b : ℕ) → a < b → nat_lt a b ≡ true
    is_less a b less = grind (arith, nat_tests)

int_front : (x : ℕ) (rest : List ℕ) → x < 2147483648 → twos_complement 4 (little_number 4 (little_bytes 4 x ++ rest)) ≡ pos x
int_front x rest lt = ap (twos_complement 4) (little_number-reads_back 4 x rest (omega (arith, lt))) ∙ positive x lt

pub head_range : (range : SymbolRange) → range.first < 256 → 0 < range.count → range.count ≤ 256 → IsRange (table_head range) range
unfolding int_at
head_range range below some most =
    let a = little_bytes 4 4 in
    let b = little_bytes 4 256 in
    let c = little_bytes 4 range.first in
    let d = little_bytes 4 (range.first + range.count) in
    let la = length-word 4 in
    let lb = length-word 256 in
    let lc = length-word range.first in
    let ld = length-word (range.first + range.count) in
    let one : drop 4 (a ++ (b ++ (c ++ d))) ≡ b ++ (c ++ d) = drop_at a (b ++ (c ++ d)) 4 la in
    let two : drop 8 (a ++ (b ++ (c ++ d))) ≡ c ++ d = sym (drop-drop 4 4 (a ++ (b ++ (c ++ d)))) ∙ ap (drop 4) one ∙ drop_at b (c ++ d) 4 lb in
    let three : drop 12 (a ++ (b ++ (c ++ d))) ≡ d ++ [] = sym (drop-drop 4 8 (a ++ (b ++ (c ++ d)))) ∙ ap (drop 4) two ∙ drop_at c d 4 lc ∙ sym (append-nil d) in
    let number : List ℕ → ℤ = λ (xs : List ℕ). twos_complement 4 (little_number 4 xs) in
    let version : int_at (table_head range) 0 ≡ pos 4 = int_front 4 (b ++ (c ++ d)) (omega arith) in
    record {
      size = (let x = length-append a (b ++ (c ++ d)) in let y = length-append b (c ++ d) in let z = length-append c d in omega (arith, x, y, z, la, lb, lc, ld));
      version = subst (λ z. pos 2 ≤ℤ z) (sym version) (omega (arith, ints));
      symbols = ap number one ∙ int_front 256 (c ++ d) (omega arith);
      from = ap number two ∙ int_front range.first d (omega (arith, below));
      first_below = below;
      to = ap number three ∙ int_front (range.first + range.count) [] (omega (arith, below, most));
      some = some;
      most = most;
    }

-- ---- the words of the codes

pub words_hold : (lengths words : List ℕ) (range : SymbolRange) → AreLengths lengths → IsShortestRun lengths range → AreTableWords (canonical_codes lengths) (symbols_in range.first range.count) words
    → AreCodeWords range.first (run_lengths lengths range) words (canonical_codes lengths)
words_hold lengths words range h run filled =
    let codes = canonical_codes lengths in
    let long = run_long lengths range in
    let bits = run_bits lengths range h in (
      record {
        symbols = length-canonical_codes lengths;
        inside = λ k lt.
            let low : k < range.count = omega (arith, lt, long) in
            canonical_long lengths (symbol_in range.first k) h (omega arith) ∙ sym (run_at lengths range k low);
        outside = λ s none_. elim (cases_lt s 256) [
          | inr past ↦ get_or_past codes s [] (omega (arith, past, length-canonical_codes lengths))
          | inl lt ↦ elim (cases_lt 0 (slice_index lengths s)) [
            | inl used ↦ absurd (let at = run.holds s lt used in none_ at.0 (let k_lt = at.1.0 in omega (arith, long, k_lt)) at.1.1)
            | inr unused ↦ nil_from_length (code_at codes s) (omega (arith, canonical_long lengths s h lt, unused))
          ]
        ];
        begin = (_, filled.same ∙ ap (λ n. joined_codes codes (symbols_in range.first n) ++ replicate (32 * word_count (length (joined_codes codes (symbols_in range.first range.count))) - length (joined_codes codes (symbols_in range.first range.count))) false) (sym long));
        size = filled.size ∙ ap (λ n. 4 * word_count n) bits;
      },
      (canonical_are_codes lengths h).free,
    )

pub table_from : WrittenTablesAreTables
table_from lengths bytes h w =
    let run = w.run in
    let list = run_lengths lengths w.range in
    let long = run_long lengths w.range in
    let most = most_of_run lengths w.range run in
    let below : All (λ v. v < 2 ^ 31) list = λ k d lt. (let low = run_low lengths w.range h k d lt in omega (arith, low)) in
    record {
      front = table_head w.range;
      rest = simple_bytes list ++ w.words;
      value = w.range;
      joined = w.joined;
      stands = head_range w.range run.first_below (some_of_run lengths w.range h run) most;
      follows = record {
        front = simple_bytes list;
        rest = w.words;
        value = list;
        joined = refl;
        stands = ((long, simple (simple_bytes-list list (omega (arith, long, most)) below)), have_of_run lengths w.range h run);
        follows = words_hold lengths w.words w.range h run w.filled;
      };
    }

-- ---- sizes, and the parts side by side

pub size_of : (lengths : List ℕ) (range : SymbolRange) (size : ℕ) → IsShortestRun lengths range → size ≡ 16 + (length (simple_bytes (run_lengths lengths range)) + words_size (run_lengths lengths range)) → IsTableSize lengths size
size_of lengths range size run e other h = e ∙ ap (λ (r : SymbolRange). 16 + (length (simple_bytes (run_lengths lengths r)) + words_size (run_lengths lengths r))) (one_run lengths range other run h)

-- a part that is laid over the middle of a list
pub laid_over : (xs ys zs new : List ℕ) (a k : ℕ) → length xs ≡ a → length ys ≡ k → length new ≡ k → put_mid a k (xs ++ (ys ++ zs)) new ≡ xs ++ (new ++ zs)
laid_over xs ys zs new a k lx ly ln =
    let front : take a (xs ++ (ys ++ zs)) ≡ xs = take_at xs (ys ++ zs) a lx in
    let back : drop k (drop a (xs ++ (ys ++ zs))) ≡ zs = ap (drop k) (drop_at xs (ys ++ zs) a lx) ∙ drop_at ys zs k ly in
    λ i. front i ++ (new ++ back i)

head_short : (n : ℕ) → n ≤ 256 → head_size n ≤ 5
head_short n le = elim (cases_lt 255 n) [
  | inr small ↦ (let e : count_size (chosen_code n) ≡ 1 = grind (arith, nat_tests) in omega (arith, e))
  | inl great ↦ (let e : count_size (chosen_code n) ≡ 2 = grind (arith, nat_tests) in omega (arith, e))
]

-- a list of so few and so low numbers is short
pub list_short : (values : List ℕ) → length values ≤ 256 → All (λ l. l ≤ 32) values → length (simple_bytes values) ≤ 1000
list_short values few low =
    let below : All (λ v. v < 2 ^ 6) values = λ k d lt. (let le = low k d lt in omega (arith, le)) in
    let size = length-simple_bytes values in
    let head = head_short (length values) few in
    let body = stuffed_size-le (length values) 256 (width_of values) 6 few (width_of-le 6 values below) in
    omega (arith, size, head, body)

pub sum_short : (values : List ℕ) → length values ≤ 256 → All (λ l. l ≤ 32) values → sum values ≤ 8192
sum_short values few low = (let le = sum_le values (length values) (omega arith) low in let t = ap sum (take_all (length values) values (omega arith)) in omega (arith, le, t, few))
  where
    sum_le : (values : List ℕ) (k : ℕ) → k ≤ length values → All (λ l. l ≤ 32) values → sum (take k values) ≤ 32 * k
    sum_le values zero le low = omega arith
    sum_le values (suc k) le low =
        let e : suc k ≡ k + 1 = omega arith in
        let before = sum_le values k (omega (arith, le)) low in
        let more : sum (take (k + 1) values) ≡ sum (take k values) + slice_index values k = sum_by_more (λ l. l) values k 0 (omega (arith, le)) in
        let here = low k 0 (omega (arith, le)) in
        subst (λ n. sum (take n values) ≤ 32 * n) (sym e) (omega (arith, before, more, here))

-- the three parts, one behind the other
pub three_parts : (head rest list words : List ℕ) (end : ℕ) (new : List ℕ) → length head ≡ 16 → end ≡ 16 + length list → length rest ≡ length list + length words
    → new ≡ put_mid end (length (put_mid 16 (end - 16) (head ++ rest) list) - end) (put_mid 16 (end - 16) (head ++ rest) list) words → new ≡ head ++ (list ++ words)
three_parts head rest list words end new lh le lr e =
    let k = length list in
    let gap : end - 16 ≡ k = omega (arith, le) in
    let tail = drop k rest in
    let lt = length-drop k rest in
    let split : rest ≡ take k rest ++ tail = sym (take-append-drop k rest) in
    let taken : length (take k rest) ≡ k = length-take-le k rest (omega (arith, lr)) in
    let first : put_mid 16 (end - 16) (head ++ rest) list ≡ head ++ (list ++ tail) =
    ap (λ n. put_mid 16 n (head ++ rest) list) gap ∙ ap (λ (r : List ℕ). put_mid 16 k (head ++ r) list) split ∙ laid_over head (take k rest) tail list 16 k lh taken refl in
    let whole : head ++ (list ++ tail) ≡ (head ++ list) ++ (tail ++ []) = sym (append_assoc head list tail) ∙ ap (λ (ts : List ℕ). (head ++ list) ++ ts) (sym (append-nil tail)) in
    let lhs : length (head ++ list) ≡ end = length-append head list ∙ (let x : length head + length list ≡ end = omega (arith, lh, le) in x) in
    let all : length (put_mid 16 (end - 16) (head ++ rest) list) ≡ 16 + (k + length tail) =
    ap length first ∙ length-append head (list ++ tail) ∙ (let y = length-append list tail in let x : length head + length (list ++ tail) ≡ 16 + (k + length tail) = omega (arith, lh, y) in x) in
    let left : length (put_mid 16 (end - 16) (head ++ rest) list) - end ≡ length tail = omega (arith, all, le) in
    let words_long : length words ≡ length tail = omega (arith, lt, lr) in
    e ∙ (λ i. put_mid end (left i) ((first ∙ whole) i) words) ∙ laid_over (head ++ list) tail [] words end (length tail) lhs refl words_long
    ∙ ap (λ (ws : List ℕ). (head ++ list) ++ ws) (append-nil words) ∙ append_assoc head list words

pub head_long : (range : SymbolRange) → length (table_head range) ≡ 16
head_long range =
    let a = little_bytes 4 4 in
    let b = little_bytes 4 256 in
    let c = little_bytes 4 range.first in
    let d = little_bytes 4 (range.first + range.count) in
    let x = length-append a (b ++ (c ++ d)) in
    let y = length-append b (c ++ d) in
    let z = length-append c d in
    omega (arith, x, y, z, length-word 4, length-word 256, length-word range.first, length-word (range.first + range.count))
