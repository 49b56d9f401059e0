-- Tables have one reading, and one first fault.
use Rattle.std.proofs.Common.{◌≡◌, ◌≢◌, ℕ, zero, suc, ◌+◌, ◌-◌, ◌<◌, ◌≤◌, ◌⊎◌, Bool, List, [], ◌∷◌, ◌++◌, length, take, drop, slice_index, refl, sym, ap, ◌∙◌, subst, inl, inr, arith, ℤ, pos, ◌≤ℤ◌}
use Rattle.std.specs.Prelude.{SomeIndex}
use Rattle.std.proofs.lemmas.Bool.{cases_eq}
use Rattle.std.proofs.lemmas.Int.{ints}
use Rattle.std.proofs.lemmas.List.{length-append, length-take-le, take_at, take-append-drop, append_assoc, append_cancel_left, ext_get_or, drop-append-le, length-drop}
use Rattle.std.proofs.lemmas.List.FromFn.{map-range_with_len_more}
use Rattle.byteorder.specs.Endian.{little_number, twos_complement}
use Rattle.byteorder.specs.Numbers.{little_from-take}
use Rattle.first_fault.specs.Faults.{Faults, none, wrong, unless}
use Rattle.first_fault.specs.Parts.{IsSingle, IsPart}
use Rattle.first_fault.proofs.Parts.{single-unless, single-none, single-wrong, passed}
use Rattle.bit_stuff.specs.declared.heads.ListReason.{ListReason}
use Rattle.lut_stuff.specs.Faults.{list_faults}
use Rattle.lut_stuff.proofs.Lists.{list_part}
use Rattle.huff_codes.specs.Codes.{code_at, HasCode, IsPrefixFree, AreCodes}
use Rattle.huff_codes.specs.Words.{joined_codes, AreWords, word_faults}
use Rattle.huff_codes.specs.Table.{int_at, IsRange, IsFirst, IsEnd, number_faults, end_faults, first_faults, symbols_faults, range_faults, HaveLengths, IsLengthList, length_faults, symbol_in, symbols_in, words_size, HoldCodes, AreCodeWords, prefix_faults, code_faults, AreRangeCodes, range_code_faults, IsTable, table_faults, IsCoding, coding_faults}
use Rattle.huff_codes.specs.declared.tables.table.SymbolRange.{SymbolRange}
use Rattle.huff_codes.specs.declared.faults.CodeReason.{CodeReason}
use Rattle.huff_codes.specs.declared.faults.CodeReason.TheVariants.{Cut, BadTable, List as InList}
use Rattle.huff_codes.proofs.Reading.{joined_codes-nil, joined_codes-push}
use Rattle.huff_codes.proofs.WordLaws.{words_part}
use Rattle.huff_codes.proofs.Turns.{part_in_turn}

-- ---- the four numbers

int-front : (a s : List ℕ) (p : ℕ) → p + 4 ≤ length a → int_at (a ++ s) p ≡ int_at a p
unfolding int_at
int-front a s p h =
    let rest = drop p a in
    let size : length rest ≡ length a - p = length-drop p a in
    let number : little_number 4 (rest ++ s) ≡ little_number 4 rest =
    sym (little_from-take 0 4 (length rest) (rest ++ s) (omega arith)) ∙ ap (little_number 4) (take_at rest s (length rest) refl) in
    ap (λ (xs : List ℕ). twos_complement 4 (little_number 4 xs)) (drop-append-le p a s (omega arith)) ∙ ap (twos_complement 4) number

pub int-take : (n : ℕ) (bytes : List ℕ) (p : ℕ) → p + 4 ≤ n → n ≤ length bytes → int_at (take n bytes) p ≡ int_at bytes p
int-take n bytes p h le =
    sym (int-front (take n bytes) (drop n bytes) p (omega (arith, length-take-le n bytes le))) ∙ ap (λ (xs : List ℕ). int_at xs p) (take-append-drop n bytes)

same_numbers : (f g m n : ℕ) (a b : ℤ) → a ≡ pos f → a ≡ pos g → b ≡ pos (f + m) → b ≡ pos (g + n) → (f ≡ g) × (m ≡ n)
same_numbers f g m n a b p q r s =
    let one : f ≡ g = omega (arith, ints, p, q) in
    (one, omega (arith, ints, r, s, one))

same_range : (x y : SymbolRange) → x.first ≡ y.first → x.count ≡ y.count → x ≡ y
same_range x y p q i = record { first = p i; count = q i }

range_once : (a b s t : List ℕ) (x y : SymbolRange) → IsRange a x → IsRange b y → a ++ s ≡ b ++ t → (a ≡ b) × (x ≡ y)
range_once a b s t x y p q e =
    let front : a ≡ b = sym (take_at a s 16 p.size) ∙ ap (take 16) e ∙ take_at b t 16 q.size in
    let same = same_numbers x.first y.first x.count y.count (int_at b 8) (int_at b 12)
    (subst (λ (u : List ℕ). int_at u 8 ≡ pos x.first) front p.from) q.from (subst (λ (u : List ℕ). int_at u 12 ≡ pos (x.first + x.count)) front p.to) q.to in
    (front, same_range x y same.0 same.1)

-- a range has passed all tests
range_clear : (a s : List ℕ) (x : SymbolRange) (p : ℕ) (r : CodeReason) → IsRange a x → range_faults (a ++ s) p r → ⊥
range_clear a s x p r h fault =
    let bytes = a ++ s in
    let size = length-append a s in
    let at : (k : ℕ) → k + 4 ≤ 16 → int_at bytes k ≡ int_at a k = λ k le. int-front a s k (omega (arith, h.size)) in
    let version : pos 2 ≤ℤ int_at bytes 0 = subst (λ z. pos 2 ≤ℤ z) (sym (at 0 (omega arith))) h.version in
    let symbols : int_at bytes 4 ≡ pos 256 = at 4 (omega arith) ∙ h.symbols in
    let from : int_at bytes 8 ≡ pos x.first = at 8 (omega arith) ∙ h.from in
    let to : int_at bytes 12 ≡ pos (x.first + x.count) = at 12 (omega arith) ∙ h.to in
    let below = h.first_below in
    let some = h.some in
    let most = h.most in
    let first : IsFirst bytes = (omega (arith, ints, from), omega (arith, ints, from, below)) in
    let end : IsEnd bytes = (omega (arith, ints, from, to, some), omega (arith, ints, from, to, most)) in
    clear_number 12 (IsEnd bytes) bytes none p r (omega (arith, size, h.size)) end (λ f. f)
    (pass_number 8 (IsFirst bytes) bytes (end_faults bytes) p r (omega (arith, size, h.size)) first
    (pass_number 4 (int_at bytes 4 ≡ pos 256) bytes (first_faults bytes) p r (omega (arith, size, h.size)) symbols
    (pass_number 0 (pos 2 ≤ℤ int_at bytes 0) bytes (symbols_faults bytes) p r (omega (arith, size, h.size)) version fault)))
  where
    pass_number : (place : ℕ) (test : Type 0) (rest : List ℕ) (later : Faults CodeReason) (p : ℕ) (r : CodeReason) → place + 4 ≤ length rest → test → number_faults place test rest later p r → later p r
    pass_number place test rest later p r there holds f =
        passed test later (wrong BadTable place) holds p r
        (passed (place + 4 ≤ length rest) (unless test (wrong BadTable place) later) (wrong Cut place) there p r f)

    clear_number : (place : ℕ) (test : Type 0) (rest : List ℕ) (later : Faults CodeReason) (p : ℕ) (r : CodeReason) → place + 4 ≤ length rest → test → (later p r → ⊥) → number_faults place test rest later p r → ⊥
    clear_number place test rest later p r there holds end f = end (pass_number place test rest later p r there holds f)

single-number : (place : ℕ) (test : Type 0) (rest : List ℕ) (later : Faults CodeReason) → IsSingle later → IsSingle (number_faults place test rest later)
single-number place test rest later h =
    single-unless (place + 4 ≤ length rest) Cut place (unless test (wrong BadTable place) later) (single-unless test BadTable place later h)

range_single : (bytes : List ℕ) → IsSingle (range_faults bytes)
range_single bytes =
    single-number 0 (pos 2 ≤ℤ int_at bytes 0) bytes (symbols_faults bytes)
    (single-number 4 (int_at bytes 4 ≡ pos 256) bytes (first_faults bytes)
    (single-number 8 (IsFirst bytes) bytes (end_faults bytes)
    (single-number 12 (IsEnd bytes) bytes none single-none)))

pub range_part : IsPart IsRange range_faults
range_part = record { once = range_once; either = λ a s x p r. range_clear a s x p r; single = range_single }

-- the numbers that were read are a range
pub range_from : (bytes : List ℕ) (range : SymbolRange) → 16 ≤ length bytes → pos 2 ≤ℤ int_at bytes 0 → int_at bytes 4 ≡ pos 256 → int_at bytes 8 ≡ pos range.first → range.first < 256
    → int_at bytes 12 ≡ pos (range.first + range.count) → 0 < range.count → range.count ≤ 256 → IsRange (take 16 bytes) range
range_from bytes range size version symbols from below to some most = record {
  size = length-take-le 16 bytes size;
  version = subst (λ z. pos 2 ≤ℤ z) (sym (int-take 16 bytes 0 (omega arith) size)) version;
  symbols = int-take 16 bytes 4 (omega arith) size ∙ symbols;
  from = int-take 16 bytes 8 (omega arith) size ∙ from;
  first_below = below;
  to = int-take 16 bytes 12 (omega arith) size ∙ to;
  some = some;
  most = most;
}

-- ---- the lengths

list_once : (n : ℕ) (a b s t : List ℕ) (x y : List ℕ) → IsLengthList n a x → IsLengthList n b y → a ++ s ≡ b ++ t → (a ≡ b) × (x ≡ y)
list_once n a b s t x y p q e = (list_part n).once a b s t x y p.0 q.0 e

list_clear : (n : ℕ) (a s x : List ℕ) (p : ℕ) (r : CodeReason) → IsLengthList n a x → length_faults n (a ++ s) p r → ⊥
list_clear n a s x p r h (inl (reason, (fault, is))) = (list_part n).either a s x p reason h.0 fault
list_clear n a s x p r h (inr (list, (fail, is))) =
    let same = (list_part n).once a list.front s list.rest x list.value h.0 list.stands list.joined in
    fail (subst HaveLengths same.1 h.1)

list_single : (n : ℕ) (bytes : List ℕ) → IsSingle (length_faults n bytes)
list_single n bytes p q a b (inl (r, (f, is))) (inl (s, (g, so))) =
    let same = (list_part n).single bytes p q r s f g in
    (same.0, is ∙ ap (λ (x : ListReason). InList x) same.1 ∙ sym so)
list_single n bytes p q a b (inl (r, (f, is))) (inr (list, (fail, g))) =
    absurd ((list_part n).either list.front list.rest list.value p r list.stands (subst (λ (u : List ℕ). list_faults n u p r) list.joined f))
list_single n bytes p q a b (inr (list, (fail, g))) (inl (r, (f, is))) =
    absurd ((list_part n).either list.front list.rest list.value q r list.stands (subst (λ (u : List ℕ). list_faults n u q r) list.joined f))
list_single n bytes p q a b (inr (list, (fail, f))) (inr (other, (fail2, g))) = single-wrong BadTable 0 p q a b f g

pub lengths_part : (n : ℕ) → IsPart (IsLengthList n) (length_faults n)
lengths_part n = record { once = list_once n; either = λ a s x p r. list_clear n a s x p r; single = list_single n }

-- ---- the codes

-- fronts of one list that are as long are equal
same_front : (xs ys s t : List Bool) → xs ++ s ≡ ys ++ t → length xs ≡ length ys → xs ≡ ys
same_front xs ys s t e size = sym (take_at xs s (length xs) refl) ∙ ap (take (length xs)) e ∙ take_at ys t (length xs) (sym size)

symbols_more : (first n : ℕ) → symbols_in first (n + 1) ≡ symbols_in first n ++ symbol_in first n ∷ []
symbols_more first n = map-range_with_len_more (symbol_in first) 0 n n (omega arith)

joined_more : (first n : ℕ) (codes : List (List Bool)) → joined_codes codes (symbols_in first (n + 1)) ≡ joined_codes codes (symbols_in first n) ++ code_at codes (symbol_in first n)
joined_more first n codes = ap (joined_codes codes) (symbols_more first n) ∙ joined_codes-push codes (symbols_in first n) (symbol_in first n)

-- codes of the same lengths in the same bits are the same
same_codes : (first n : ℕ) (c d : List (List Bool)) (s t : List Bool) → ((k : ℕ) → k < n → length (code_at c (symbol_in first k)) ≡ length (code_at d (symbol_in first k)))
    → joined_codes c (symbols_in first n) ++ s ≡ joined_codes d (symbols_in first n) ++ t
    → (length (joined_codes c (symbols_in first n)) ≡ length (joined_codes d (symbols_in first n))) × ((k : ℕ) → k < n → code_at c (symbol_in first k) ≡ code_at d (symbol_in first k))
same_codes first zero c d s t lengths e = (ap length (joined_codes-nil c ∙ sym (joined_codes-nil d)), λ k lt. absurd (omega arith))
same_codes first (suc n) c d s t lengths e =
    let one : suc n ≡ n + 1 = omega arith in
    let cj = joined_codes c (symbols_in first n) in
    let dj = joined_codes d (symbols_in first n) in
    let cc_ = code_at c (symbol_in first n) in
    let dc = code_at d (symbol_in first n) in
    let c_is : joined_codes c (symbols_in first (suc n)) ≡ cj ++ cc_ = ap (λ (m : ℕ). joined_codes c (symbols_in first m)) one ∙ joined_more first n c in
    let d_is : joined_codes d (symbols_in first (suc n)) ≡ dj ++ dc = ap (λ (m : ℕ). joined_codes d (symbols_in first m)) one ∙ joined_more first n d in
    let whole : cj ++ (cc_ ++ s) ≡ dj ++ (dc ++ t) =
    sym (append_assoc cj cc_ s) ∙ ap (λ (bs : List Bool). bs ++ s) (sym c_is) ∙ e ∙ ap (λ (bs : List Bool). bs ++ t) d_is ∙ append_assoc dj dc t in
    let before = same_codes first n c d (cc_ ++ s) (dc ++ t) (λ k lt. lengths k (omega arith)) whole in
    let front : cj ≡ dj = same_front cj dj (cc_ ++ s) (dc ++ t) whole before.0 in
    let rest : cc_ ++ s ≡ dc ++ t = append_cancel_left dj (cc_ ++ s) (dc ++ t) (ap (λ (bs : List Bool). bs ++ (cc_ ++ s)) (sym front) ∙ whole) in
    let here : cc_ ≡ dc = same_front cc_ dc s t rest (lengths n (omega arith)) in (
      omega (arith, ap length c_is, ap length d_is, length-append cj cc_, length-append dj dc, ap length front, ap length here),
      λ k lt. elim (cases_eq k n) [
        | inl same ↦ subst (λ (m : ℕ). code_at c (symbol_in first m) ≡ code_at d (symbol_in first m)) (sym same) here
        | inr other ↦ before.1 k (omega arith)
      ],
    )

-- the place of a symbol in a range, if it has one
find_symbol : (first n s : ℕ) → ((k : ℕ) × ((k < n) × (symbol_in first k ≡ s))) ⊎ ((k : ℕ) → k < n → symbol_in first k ≢ s)
find_symbol first zero s = inr (λ k lt. absurd (omega arith))
find_symbol first (suc n) s = elim (cases_eq (symbol_in first n) s) [
  | inl here ↦ inl (n, (omega arith, here))
  | inr other ↦ elim (find_symbol first n s) [
    | inl found ↦ inl (found.0, (omega (arith, found.1.0), found.1.1))
    | inr none ↦ inr (λ k lt. elim (cases_eq k n) [
      | inl same ↦ λ e. other (ap (symbol_in first) (sym same) ∙ e)
      | inr less ↦ none k (omega arith)
    ])
  ]
]

pub one_coding : (first : ℕ) (lengths bytes : List ℕ) (c d : List (List Bool)) → HoldCodes first lengths bytes c → HoldCodes first lengths bytes d → c ≡ d
one_coding first lengths bytes c d p q =
    let n = length lengths in
    let same = same_codes first n c d p.begin.0 q.begin.0 (λ k lt. p.inside k lt ∙ sym (q.inside k lt)) (sym p.begin.1 ∙ q.begin.1) in
    ext_get_or [] c d (p.symbols ∙ sym q.symbols) (λ s below. elim (find_symbol first n s) [
      | inl found ↦ subst (λ (t : ℕ). code_at c t ≡ code_at d t) found.1.1 (same.1 found.0 found.1.0)
      | inr none ↦ p.outside s none ∙ sym (q.outside s none)
    ])

code_once : (first : ℕ) (lengths a b s t : List ℕ) (x y : List (List Bool)) → AreCodeWords first lengths a x → AreCodeWords first lengths b y → a ++ s ≡ b ++ t → (a ≡ b) × (x ≡ y)
code_once first lengths a b s t x y p q e =
    let n = words_size lengths in
    let front : a ≡ b = sym (take_at a s n p.0.size) ∙ ap (take n) e ∙ take_at b t n q.0.size in
    (front, one_coding first lengths b x y (subst (λ (u : List ℕ). HoldCodes first lengths u x) front p.0) q.0)

code_clear : (first : ℕ) (lengths a s : List ℕ) (x : List (List Bool)) (p : ℕ) (r : CodeReason) → AreCodeWords first lengths a x → code_faults first lengths (a ++ s) p r → ⊥
code_clear first lengths a s x p r h fault =
    let n = words_size lengths in
    let there : n ≤ length (a ++ s) = omega (arith, length-append a s, h.0.size) in
    go (passed (n ≤ length (a ++ s)) (prefix_faults first lengths (a ++ s)) (wrong Cut 0) there p r fault)
  where
    go : prefix_faults first lengths (a ++ s) p r → ⊥
    go (codes, (hold, (crossed, is))) =
        let front : take (words_size lengths) (a ++ s) ≡ a = take_at a s (words_size lengths) h.0.size in
        let same : x ≡ codes = one_coding first lengths a x codes h.0 (subst (λ (u : List ℕ). HoldCodes first lengths u codes) front hold) in
        crossed (subst IsPrefixFree same h.1)

prefix_single : (first : ℕ) (lengths bytes : List ℕ) → IsSingle (prefix_faults first lengths bytes)
prefix_single first lengths bytes p q a b (c, (hold, (crossed, is))) (d, (hold2, (crossed2, so))) = single-wrong BadTable 0 p q a b is so

pub codes_part : (first : ℕ) (lengths : List ℕ) → IsPart (AreCodeWords first lengths) (code_faults first lengths)
codes_part first lengths = record {
  once = code_once first lengths;
  either = λ a s x p r. code_clear first lengths a s x p r;
  single = λ bytes. single-unless (words_size lengths ≤ length bytes) Cut 0 (prefix_faults first lengths bytes) (prefix_single first lengths bytes);
}

-- ---- the table

pub range_codes_part : (range : SymbolRange) → IsPart (AreRangeCodes range) (range_code_faults range)
range_codes_part range =
    part_in_turn (IsLengthList range.count) (length_faults range.count) (AreCodeWords range.first) (code_faults range.first) (lengths_part range.count) (λ a x stands. codes_part range.first x)

pub table_part : IsPart IsTable table_faults
table_part = part_in_turn IsRange range_faults AreRangeCodes range_code_faults range_part (λ a x stands. range_codes_part x)

-- the codes of a table are codes
pub table_codes : (bytes : List ℕ) (codes : List (List Bool)) → IsTable bytes codes → AreCodes codes
table_codes bytes codes t =
    let range = t.stands in
    let turn = t.follows in
    let have = turn.stands.1 in
    let hold = turn.follows.0 in record {
      size = hold.symbols;
      short = λ s. elim (find_symbol t.value.first (length turn.value) s) [
        | inl found ↦
            let size : length (code_at codes s) ≡ slice_index turn.value found.0 = ap (λ (k : ℕ). length (code_at codes k)) (sym found.1.1) ∙ hold.inside found.0 found.1.0 in
            omega (arith, size, have.low found.0 0 found.1.0)
        | inr none ↦ omega (arith, ap length (hold.outside s none))
      ];
      some = some_symbol t.value.first turn.value codes hold have.some;
      free = turn.follows.1;
    }
  where
    some_symbol : (first : ℕ) (lengths : List ℕ) {words : List ℕ} (codes : List (List Bool)) → HoldCodes first lengths words codes → SomeIndex lengths (λ k. 0 < slice_index lengths k) → (s : ℕ) × HasCode codes s
    some_symbol first lengths codes hold (k, lt, some) = (symbol_in first k, omega (arith, hold.inside k lt, some))

-- ---- a table and words

pub coding_part : (n : ℕ) → IsPart (IsCoding n) (coding_faults n)
coding_part n = part_in_turn IsTable table_faults (λ codes. AreWords codes n) (λ codes. word_faults codes n) table_part (λ a codes stands. words_part codes n (table_codes a codes stands).free)
