-- Where faults are told: within the bytes. Here those of the words of faults, of lists, code tables and code words.
use Rattle.std.proofs.Common.{◌≡◌, ℕ, ◌+◌, ◌-◌, ◌*◌, ◌/◌, ◌<◌, ◌≤◌, Bool, List, [], length, slice_index, take, drop, ap, sym, ◌∙◌, arith, inl, inr}
use Rattle.std.proofs.lemmas.List.{length-append, length-drop}
use Rattle.first_fault.specs.Faults.{Faults, none, wrong, choice, unless, moved, in_order, ends, InNumbered}
use Rattle.bit_stuff.specs.declared.heads.ListReason.TheVariants as list
use Rattle.bit_stuff.specs.Head.{IsListHeadOf, count_at, list_count_faults, count_size, list_form_faults, list_head_faults, size_code, table_bit, width_bits}
use Rattle.bit_stuff.specs.Simple.{binary_digits}
use Rattle.bit_stuff.specs.Stuffed.{stuffed_size}
use Rattle.lut_stuff.specs.Faults as lists
use Rattle.lut_stuff.specs.Faults.{list_faults}
use Rattle.huff_codes.specs.declared.faults.CodeReason.{CodeReason}
use Rattle.huff_codes.specs.declared.faults.CodeReason.TheVariants as code
use Rattle.huff_codes.specs.Table.{IsRange, IsLengthList, number_faults, end_faults, first_faults, symbols_faults, range_faults, length_faults, code_faults, range_code_faults, table_faults}
use Rattle.huff_codes.specs.Words.{word_faults}
use Rattle.huff_codes.specs.Words.{ArePassed, joined_codes}
use Rattle.huff_codes.specs.Words.{code_cut, no_code, further_cut}
use Rattle.huff_codes.proofs.Windows.{length-word_bits}
use Rattle.std.specs.Prelude.{IsTrue}

-- no place is behind n
abbrev pub AreWithin : {R : Type 0} → Faults R → ℕ → Type 0
AreWithin {R} f n = (p : ℕ) (r : R) → f p r → p ≤ n

pub within_wrong : {R : Type 0} (why : R) (at n : ℕ) → at ≤ n → AreWithin (wrong why at) n
within_wrong why at n low p r w = omega (arith, w.0, low)

pub within_choice : {R : Type 0} (test : Type 0) (f g : Faults R) (n : ℕ) → (test → AreWithin f n) → (¬ test → AreWithin g n) → AreWithin (choice test f g) n
within_choice test f g n a b p r (inl w) = a w.0 p r w.1
within_choice test f g n a b p r (inr w) = b w.0 p r w.1

pub within_unless : {R : Type 0} (test : Type 0) (why : R) (at : ℕ) (later : Faults R) (n : ℕ) → at ≤ n → (test → AreWithin later n) → AreWithin (unless test (wrong why at) later) n
within_unless test why at later n low a = within_choice test later (wrong why at) n a (λ no_. within_wrong why at n low)

pub within_none : {R : Type 0} (n : ℕ) → AreWithin (none {R = R}) n
within_none n p r w = absurd w

pub within_moved : {R : Type 0} (k : ℕ) (f : Faults R) (m n : ℕ) → AreWithin f m → k + m ≤ n → AreWithin (moved k f) n
within_moved k f m n a low p r (at, (e, w)) = let b = a at r w in omega (arith, b, e, low)

pub within_in_order : {R X : Type 0} (part : List ℕ → X → Type 0) (own : List ℕ → Faults R) (behind : X → List ℕ → Faults R) (bytes : List ℕ) → AreWithin (own bytes) (length bytes)
    → ((x : X) (rest : List ℕ) → AreWithin (behind x rest) (length rest)) → AreWithin (in_order part own behind bytes) (length bytes)
within_in_order part own behind bytes a b p r (inl w) = a p r w
within_in_order part own behind bytes a b p r (inr s) =
    within_moved (length s.front) (behind s.value s.rest) (length s.rest) (length bytes) (b s.value s.rest) (omega (arith, ap length s.joined, length-append s.front s.rest)) p r s.later

pub within_ends : {R : Type 0} (why : R) (rest : List ℕ) (n : ℕ) → AreWithin (ends why rest) n
within_ends why rest n = within_unless (rest ≡ []) why 0 none n (omega arith) (λ _. within_none n)

pub within_numbered : {R X : Type 0} (part : ℕ → List ℕ → X → Type 0) (own : ℕ → List ℕ → Faults R) (n : ℕ) (bytes : List ℕ) → ((k : ℕ) (rest : List ℕ) → AreWithin (own k rest) (length rest)) → AreWithin (InNumbered part own n bytes) (length bytes)
within_numbered part own n bytes a p r w =
    within_moved (length w.front) (own (length w.before) w.rest) (length w.rest) (length bytes) (a (length w.before) w.rest) (omega (arith, ap length w.joined, length-append w.front w.rest)) p r w.next

-- ---- lists

head_within : (n : ℕ) (bytes : List ℕ) → AreWithin (list_head_faults n bytes) (length bytes)
head_within n bytes =
    within_unless (0 < length bytes) list.Cut 0 (list_form_faults n bytes) (length bytes) (omega arith) (λ some.
    within_unless (size_code bytes < 3) list.BadHead 0 (unless (table_bit bytes ≡ 1 → 0 < width_bits bytes) (wrong list.BadTable 0) (list_count_faults n bytes)) (length bytes) (omega arith) (λ _.
    within_unless (table_bit bytes ≡ 1 → 0 < width_bits bytes) list.BadTable 0 (list_count_faults n bytes) (length bytes) (omega arith) (λ _.
    within_unless (1 + count_size (size_code bytes) ≤ length bytes) list.Cut 1 (unless (count_at bytes ≡ n) (wrong list.BadCount 1) none) (length bytes) (omega (arith, some)) (λ _.
    within_unless (count_at bytes ≡ n) list.BadCount 1 none (length bytes) (omega (arith, some)) (λ _. within_none (length bytes))))))

data_within : (n width : ℕ) (rest : List ℕ) → AreWithin (lists.data_faults n width rest) (length rest)
data_within n width rest = within_unless (stuffed_size n width ≤ length rest) list.Cut 0 none (length rest) (omega arith) (λ _. within_none (length rest))

index_within : (n most : ℕ) (rest : List ℕ) → AreWithin (lists.index_faults n most rest) (length rest)
index_within n most rest =
    let size = stuffed_size n (binary_digits most) in
    within_unless (size ≤ length rest) list.Cut 0 (unless (lists.AreIndexes n most (take size rest)) (wrong list.BadIndex 0) none) (length rest) (omega arith) (λ _.
    within_unless (lists.AreIndexes n most (take size rest)) list.BadIndex 0 none (length rest) (omega arith) (λ _. within_none (length rest)))

entry_within : (n width most : ℕ) (rest : List ℕ) → AreWithin (lists.entry_faults n width most rest) (length rest)
entry_within n width most rest =
    let size = stuffed_size most width in
    within_unless (size ≤ length rest) list.Cut 0 (moved size (lists.index_faults n most (drop size rest))) (length rest) (omega arith) (λ there.
    within_moved size (lists.index_faults n most (drop size rest)) (length (drop size rest)) (length rest) (index_within n most (drop size rest)) (omega (arith, there, length-drop size rest)))

size_within : (n width size : ℕ) (rest : List ℕ) → AreWithin (lists.size_faults n width size rest) (1 + length rest)
size_within n width size rest =
    within_unless (2 ≤ size) list.BadTable 0 (moved 1 (lists.entry_faults n width (size - 1) rest)) (1 + length rest) (omega arith) (λ _.
    within_moved 1 (lists.entry_faults n width (size - 1) rest) (length rest) (1 + length rest) (entry_within n width (size - 1) rest) (omega arith))

list_table_within : (n width : ℕ) (rest : List ℕ) → AreWithin (lists.list_table_faults n width rest) (length rest)
list_table_within n width rest =
    within_unless (0 < length rest) list.Cut 0 (lists.size_faults n width (slice_index rest 0) (drop 1 rest)) (length rest) (omega arith) (λ some p r w.
    let low = size_within n width (slice_index rest 0) (drop 1 rest) p r w in omega (arith, low, some, length-drop 1 rest))

pub list_within : (n : ℕ) (bytes : List ℕ) → AreWithin (list_faults n bytes) (length bytes)
unfolding list_faults
list_within n bytes =
    within_in_order (IsListHeadOf n) (list_head_faults n) (lists.list_body_faults n) bytes (head_within n bytes)
    (λ head rest. within_choice (IsTrue head.table) (lists.list_table_faults n head.width rest) (lists.data_faults n head.width rest) (length rest) (λ _. list_table_within n head.width rest) (λ _. data_within n head.width rest))

-- ---- tables

number_within : (place : ℕ) (test : Type 0) (rest : List ℕ) (later : Faults CodeReason) → place ≤ length rest → (place + 4 ≤ length rest → AreWithin later (length rest)) → AreWithin (number_faults place test rest later) (length rest)
number_within place test rest later low go =
    within_unless (place + 4 ≤ length rest) code.Cut place (unless test (wrong code.BadTable place) later) (length rest) low (λ there.
    within_unless test code.BadTable place later (length rest) low (λ _. go there))

range_within : (rest : List ℕ) → AreWithin (range_faults rest) (length rest)
range_within rest =
    number_within 0 _ rest (symbols_faults rest) (omega arith) (λ a.
    number_within 4 _ rest (first_faults rest) (omega (arith, a)) (λ b.
    number_within 8 _ rest (end_faults rest) (omega (arith, b)) (λ c.
    number_within 12 _ rest none (omega (arith, c)) (λ d. within_none (length rest)))))

lengths_within : (n : ℕ) (rest : List ℕ) → AreWithin (length_faults n rest) (length rest)
lengths_within n rest p r (inl (why, (w, e))) = list_within n rest p why w
lengths_within n rest p r (inr (list, (bad, w))) = omega (arith, w.0)

codes_within : (first : ℕ) (lengths rest : List ℕ) → AreWithin (code_faults first lengths rest) (length rest)
codes_within first lengths rest p r (inl (there, (codes, (hold, (bad, w))))) = omega (arith, w.0)
codes_within first lengths rest p r (inr (cut, w)) = omega (arith, w.0)

pub table_within : (bytes : List ℕ) → AreWithin (table_faults bytes) (length bytes)
table_within bytes =
    within_in_order IsRange range_faults range_code_faults bytes (range_within bytes)
    (λ range rest. within_in_order (IsLengthList range.count) (length_faults range.count) (code_faults range.first) rest (lengths_within range.count rest) (λ lengths more. codes_within range.first lengths more))

-- ---- words

passed_long : (codes : List (List Bool)) (bytes symbols : List ℕ) (left : List Bool) → ArePassed codes bytes symbols left → length (joined_codes codes symbols) ≤ 32 * (length bytes / 4)
passed_long codes bytes symbols left passed =
    let long : length (joined_codes codes symbols) + length left ≡ 32 * (length bytes / 4) = sym (length-append (joined_codes codes symbols) left) ∙ sym (ap length passed.bits) ∙ length-word_bits bytes in
    omega (arith, long)

pub words_within : (codes : List (List Bool)) (n : ℕ) (bytes : List ℕ) → AreWithin (word_faults codes n bytes) (length bytes)
words_within codes n bytes p r (code_cut symbols left passed few stuck begun w) = let t : 4 * (length bytes / 4) ≤ length bytes = omega arith in omega (arith, w.0, t)
words_within codes n bytes p r (no_code symbols left passed few stuck none_ w) =
    let t : 4 * (length (joined_codes codes symbols) / 32) ≤ length bytes = omega (arith, passed_long codes bytes symbols left passed) in
    omega (arith, w.0, t)
words_within codes n bytes p r (further_cut symbols left passed all short w) = let t : 4 * (length bytes / 4) ≤ length bytes = omega arith in omega (arith, w.0, t)
