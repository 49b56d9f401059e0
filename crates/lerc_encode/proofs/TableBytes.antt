-- The chosen code table as a list of bytes, and symbols in code words behind it.
use Rattle.std.proofs.Common.{◌≡◌, ℕ, ◌+◌, ◌-◌, ◌*◌, ◌%◌, ◌<◌, ◌≤◌, Bool, true, false, List, ◌++◌, length, get_or, slice_index, map, refl, sym, ap, ◌∙◌, subst, arith, length-append, Option, Some, None, ◌⊎◌, inl, inr}
use Rattle.std.specs.Prelude.{All, SomeIndex, cond, sum, nat_eq, nat_le, ◌&&◌, if◌then◌else◌, unwrap_or}
use Rattle.std.specs.List.{count_by, list_all, range_with_len}
use Rattle.std.proofs.lemmas.Bool.{cases_lt, leb-true, le-leb, lt-leb, and_parts, eq-eqb}
use Rattle.std.proofs.lemmas.Bool.Decides.{nat_tests}
use Rattle.std.proofs.lemmas.List.{get_or_past, get_or_default}
use Rattle.std.proofs.lemmas.List.Sums.{AllPass-from_list_all, list_all-from_AllPass, get_or-le-sum_by}
use Rattle.std.proofs.lemmas.List.Folds.{list_all_at}
use Rattle.std.proofs.lemmas.List.FromFn.{length-map-range_with_len, get_or-map-range_with_len}
use Rattle.bit_stuff.specs.Simple.{greatest_number, simple_bytes}
use Rattle.bit_stuff.proofs.Digits.{greatest_above, greatest-lt}
use Rattle.micro_block.proofs.Fewest.{is_first_least, IsTaken}
use Rattle.first_fault.specs.Parts.{AreBytes}
use Rattle.huff_codes.specs.Tree.{used_count}
use Rattle.huff_codes.specs.Codes.{AreLengths, canonical_codes}
use Rattle.huff_codes.specs.Words.{AreWords, joined_codes, word_count}
use Rattle.huff_codes.specs.Table.{IsCoding, symbols_in}
use Rattle.huff_codes.specs.Written.{AreWritten, HoldsUsed, IsShortestRun, IsTableSize, IsWrittenTable, run_lengths, table_head, written_size}
use Rattle.huff_codes.specs.declared.tables.table.SymbolRange.{SymbolRange}
use Rattle.huff_codes.proofs.Cutting.{symbol_place}
use Rattle.huff_codes.proofs.ChosenRuns.{one_run}
use Rattle.huff_codes.proofs.ChosenTables.{head_long, run_bits, table_from}
use Rattle.huff_codes.proofs.Filling.{all_coded}
use Rattle.huff_codes.proofs.Counted.{counted_have_lengths}
use Rattle.huff_codes.proofs.WrittenBack.{written_are_words}
use Rattle.huff_codes.proofs.Uses.{are_lengths}
use Rattle.lerc_encode.specs.Codings.{code_lengths, coding_bytes, counts_of, have_codes, reach_from, run_from, shortest_run, symbol_codes, code_table_bytes, table_codes, filled_words}
use Rattle.lerc_encode.proofs.WordBytes.{back_bytes_are, filled_is, symbol_words, table_words, words-long}

-- ---- the shortest range

-- how many symbols from the first on it takes to have this one, if it has a length
abbrev reach : List ℕ → ℕ → ℕ → ℕ
reach lengths first s = if nat_eq (slice_index lengths s) 0 then 0 else (s + (256 - first)) % 256 + 1

reach_used : (lengths : List ℕ) (first s : ℕ) → 0 < slice_index lengths s → reach lengths first s ≡ (s + (256 - first)) % 256 + 1
reach_used lengths first s used = used_by (slice_index lengths s) ((s + (256 - first)) % 256 + 1) used
  where
    used_by : (l n : ℕ) → 0 < l → (if nat_eq l 0 then 0 else n) ≡ n
    used_by l n some = grind (arith, nat_tests)

reach_at : (lengths : List ℕ) (first s : ℕ) → s < 256 → get_or (map (reach lengths first) (range_with_len 0 256)) s 0 ≡ reach lengths first s
reach_at lengths first s lt = get_or-map-range_with_len (reach lengths first) 0 256 s s 0 lt (omega arith)

reach_within : (lengths : List ℕ) (first s : ℕ) → s < 256 → reach lengths first s ≤ reach_from lengths first
unfolding reach_from
reach_within lengths first s lt =
    subst (λ n. n ≤ greatest_number (map (reach lengths first) (range_with_len 0 256))) (reach_at lengths first s lt)
    (greatest_above (map (reach lengths first) (range_with_len 0 256)) s)

reach_below : (lengths : List ℕ) (first n : ℕ) → 0 < n → ((s : ℕ) → s < 256 → reach lengths first s < n) → reach_from lengths first < n
unfolding reach_from
reach_below lengths first n some each =
    greatest-lt n (map (reach lengths first) (range_with_len 0 256)) some
    (λ s lt. let low : s < 256 = subst (λ m. s < m) (length-map-range_with_len (reach lengths first) 0 256) lt in subst (λ m. m < n) (sym (reach_at lengths first s low)) (each s low))

run_holds : (lengths : List ℕ) (first : ℕ) → first < 256 → HoldsUsed lengths first (reach_from lengths first)
run_holds lengths first f s lt used =
    let is = reach_used lengths first s used in
    let within = reach_within lengths first s lt in
    ((s + (256 - first)) % 256, (inside (reach lengths first s) ((s + (256 - first)) % 256) (reach_from lengths first) is within, symbol_place first s f lt))
  where
    inside : (r p g : ℕ) → r ≡ p + 1 → r ≤ g → p < g
    inside r p g e le = omega (arith, e, le)

run_least : (lengths : List ℕ) (first count : ℕ) → first < 256 → HoldsUsed lengths first count → reach_from lengths first ≤ count
run_least lengths first count f holds = at_most (reach_from lengths first) (reach_below lengths first (count + 1) (omega arith) (λ s lt. each s lt (cases_lt 0 (slice_index lengths s))))
  where
    at_most : (n : ℕ) → n < count + 1 → n ≤ count
    at_most n lt = omega (arith, lt)

    near : (s k : ℕ) → s < 256 → (first + k) % 256 ≡ s → (s + (256 - first)) % 256 ≤ k
    near s k lt e = omega (arith, f, lt, e)

    none : (l n : ℕ) → l ≤ 0 → (if nat_eq l 0 then 0 else n) ≡ 0
    none l n low = grind (arith, nat_tests)

    up_to : (r p k : ℕ) → r ≡ p + 1 → p ≤ k → k < count → r < count + 1
    up_to r p k e le lt = omega (arith, e, le, lt)

    some_more : (r : ℕ) → r ≡ 0 → r < count + 1
    some_more r e = omega (arith, e)

    each : (s : ℕ) → s < 256 → (0 < slice_index lengths s) ⊎ (slice_index lengths s ≤ 0) → reach lengths first s < count + 1
    each s lt (inl used) =
        let at = holds s lt used in
        up_to (reach lengths first s) ((s + (256 - first)) % 256) at.0 (reach_used lengths first s used) (near s at.0 lt at.1.1) at.1.0
    each s lt (inr unused) = some_more (reach lengths first s) (none (slice_index lengths s) ((s + (256 - first)) % 256 + 1) unused)

abbrev candidates : List ℕ → List (Option SymbolRange)
candidates lengths = map (λ first. Some (run_from lengths first)) (range_with_len 0 256)

there_at : (lengths : List ℕ) (k : ℕ) → k < 256 → get_or (candidates lengths) k None ≡ Some (run_from lengths k)
there_at lengths k lt = get_or-map-range_with_len (λ (first : ℕ). Some (run_from lengths first)) 0 256 k k None lt (omega arith)

not_past : (lengths : List ℕ) (k : ℕ) (run : SymbolRange) → get_or (candidates lengths) k None ≡ Some run → k < 256
not_past lengths k run e = by (cases_lt k 256)
  where
    by : (k < 256) ⊎ (256 ≤ k) → k < 256
    by (inl lt) = lt
    by (inr ge) =
        let none : get_or (candidates lengths) k None ≡ None = get_or_past (candidates lengths) k None (let long = length-map-range_with_len (λ (first : ℕ). Some (run_from lengths first)) 0 256 in omega (arith, ge, long)) in
        absurd (no_run run (sym none ∙ e))
      where
        no_run : (x : SymbolRange) → None ≡ Some x → ⊥
        no_run x same = cc

some_run : (a b : SymbolRange) → Some a ≡ Some b → a ≡ b
some_run a b e = cc

taken_run : (lengths : List ℕ) (taken : Option SymbolRange) → IsTaken (λ (run : SymbolRange). run.count) (candidates lengths) taken → IsShortestRun lengths (unwrap_or taken (run_from lengths 0))
taken_run lengths None h = absurd (h 0 (run_from lengths 0) (there_at lengths 0 (omega arith)))
taken_run lengths (Some run) (k, is) =
    let lt : k < 256 = not_past lengths k run is.there in
    let same : run_from lengths k ≡ run = some_run (run_from lengths k) run (sym (there_at lengths k lt) ∙ is.there) in
    let first_is : k ≡ run.first = ap (λ (x : SymbolRange). x.first) same in
    record {
      first_below = omega (arith, lt, first_is);
      holds = subst (λ (x : SymbolRange). HoldsUsed lengths x.first x.count) same (run_holds lengths k lt);
      shortest = λ first count f holds.
          let less = is.least first (run_from lengths first) (there_at lengths first f) in
          let least = run_least lengths first count f holds in
          omega (arith, less, least);
      least = λ first f holds.
          let least = run_least lengths first run.count f holds in
          elim (cases_lt first k) [
            | inl before ↦ absurd (let less = is.first first (run_from lengths first) before (there_at lengths first f) in omega (arith, less, least))
            | inr behind ↦ omega (arith, behind, first_is)
          ];
    }

pub run_is : (lengths : List ℕ) → IsShortestRun lengths (shortest_run lengths)
unfolding shortest_run
run_is lengths = taken_run lengths _ (is_first_least (λ (run : SymbolRange). run.count) (candidates lengths))

-- ---- the table

pub table_written : (lengths : List ℕ) → IsWrittenTable lengths (code_table_bytes lengths)
unfolding code_table_bytes
table_written lengths = record {
  range = shortest_run lengths;
  words = filled_words (word_count (length (table_codes lengths))) (table_codes lengths);
  run = run_is lengths;
  joined = refl;
  filled = table_words (canonical_codes lengths) (symbols_in (shortest_run lengths).first (shortest_run lengths).count);
}

pub length_table : (lengths : List ℕ) (size : ℕ) → AreLengths lengths → IsTableSize lengths size → size ≡ length (code_table_bytes lengths)
unfolding code_table_bytes
length_table lengths size h is =
    let run = shortest_run lengths in
    let list = simple_bytes (run_lengths lengths run) in
    let words = filled_words (word_count (length (table_codes lengths))) (table_codes lengths) in
    let e = is run (run_is lengths) in
    let long = words-long (word_count (length (table_codes lengths))) (table_codes lengths) in
    let bits : length (table_codes lengths) ≡ sum (run_lengths lengths run) = run_bits lengths run h in
    let count : 4 * word_count (length (table_codes lengths)) ≡ 4 * word_count (sum (run_lengths lengths run)) = ap (λ n. 4 * word_count n) bits in
    let head = head_long run in
    let a = length-append (table_head run) (list ++ words) in
    let b = length-append list words in
    omega (arith, e, long, count, head, a, b)

pub table_is : (lengths bytes : List ℕ) → AreBytes bytes → IsWrittenTable lengths bytes → bytes ≡ code_table_bytes lengths
unfolding code_table_bytes
table_is lengths bytes are w =
    let run : w.range ≡ shortest_run lengths = one_run lengths w.range (shortest_run lengths) w.run (run_is lengths) in
    let list = simple_bytes (run_lengths lengths w.range) in
    let words_are : AreBytes w.words = back_bytes_are list w.words (back_bytes_are (table_head w.range) (list ++ w.words) (subst AreBytes w.joined are)) in
    let bits = joined_codes (canonical_codes lengths) (symbols_in w.range.first w.range.count) in
    let words : w.words ≡ filled_words (word_count (length bits)) bits = filled_is (word_count (length bits)) bits w.words (omega arith) words_are w.filled in
    w.joined ∙ ap (λ (u : List ℕ). table_head w.range ++ (list ++ u)) words
    ∙ ap (λ (x : SymbolRange). table_head x ++ (simple_bytes (run_lengths lengths x)
    ++ filled_words (word_count (length (joined_codes (canonical_codes lengths) (symbols_in x.first x.count)))) (joined_codes (canonical_codes lengths) (symbols_in x.first x.count)))) run

-- ---- symbols and their lengths

pub record AreUsed (symbols : List ℕ) : Type 0 where
  pub two : 2 ≤ used_count (counts_of symbols)
  pub low : All (λ l. l ≤ 32) (code_lengths symbols)
  pub lengths : AreLengths (code_lengths symbols)

pub used_of : (symbols : List ℕ) → have_codes symbols ≡ true → AreUsed symbols
unfolding have_codes
used_of symbols h =
    let both = and_parts (nat_le 2 (used_count (counts_of symbols))) (list_all (λ l. nat_le l 32) (code_lengths symbols)) h in
    let two : 2 ≤ used_count (counts_of symbols) = leb-true 2 (used_count (counts_of symbols)) both.0 in
    let pass = AllPass-from_list_all (λ l. nat_le l 32) (code_lengths symbols) both.1 in
    let low : All (λ l. l ≤ 32) (code_lengths symbols) = λ k d lt. leb-true (get_or (code_lengths symbols) k d) 32 (pass k d lt) in
    record { two = two; low = low; lengths = are_lengths (counts_of symbols) (code_lengths symbols) refl two low }

-- why symbols have no codes
abbrev pub HaveNone : List ℕ → Type 0
HaveNone symbols =
    (used_count (counts_of symbols) < 2) ⊎ SomeIndex (code_lengths symbols) (λ s. 32 < slice_index (code_lengths symbols) s)

pub none_of : (symbols : List ℕ) → HaveNone symbols → have_codes symbols ≡ false
unfolding have_codes
none_of symbols (inl few) = ap (λ (b : Bool). b && list_all (λ l. nat_le l 32) (code_lengths symbols)) (lt-leb 2 (used_count (counts_of symbols)) few)
none_of symbols (inr (s, lt, long)) =
    ap (λ (b : Bool). nat_le 2 (used_count (counts_of symbols)) && b)
    (list_all_at (λ l. nat_le l 32) (code_lengths symbols) s 0 lt (lt-leb (slice_index (code_lengths symbols) s) 32 long))
    ∙ none_both (nat_le 2 (used_count (counts_of symbols)))
  where
    none_both : (b : Bool) → (b && false) ≡ false
    none_both true = refl
    none_both false = refl

pub have_of : (symbols : List ℕ) → (HaveNone symbols → ⊥) → have_codes symbols ≡ true
unfolding have_codes
have_of symbols some =
    (λ i. two (cases_lt (used_count (counts_of symbols)) 2) i && list_all-from_AllPass (λ l. nat_le l 32) (code_lengths symbols) each i)
  where
    two : (used_count (counts_of symbols) < 2) ⊎ (2 ≤ used_count (counts_of symbols)) → nat_le 2 (used_count (counts_of symbols)) ≡ true
    two (inl few) = absurd (some (inl few))
    two (inr many) = le-leb 2 (used_count (counts_of symbols)) many

    each : (k : ℕ) (d : ℕ) → k < length (code_lengths symbols) → nat_le (get_or (code_lengths symbols) k d) 32 ≡ true
    each k d lt = by (cases_lt 32 (slice_index (code_lengths symbols) k))
      where
        by : (32 < slice_index (code_lengths symbols) k) ⊎ (slice_index (code_lengths symbols) k ≤ 32) → nat_le (get_or (code_lengths symbols) k d) 32 ≡ true
        by (inl long) = absurd (some (inr (k, lt, long)))
        by (inr low) = le-leb (get_or (code_lengths symbols) k d) 32 (subst (λ n. n ≤ 32) (get_or_default (code_lengths symbols) k 0 d lt) low)

-- a symbol that stands among them is counted
count_some : (symbols : List ℕ) (k s d : ℕ) → k < length symbols → get_or symbols k d ≡ s → 0 < count_by (nat_eq s) symbols
count_some symbols k s d lt e =
    one_there (nat_eq s (get_or symbols k d)) (count_by (nat_eq s) symbols) (eq-eqb s (get_or symbols k d) (sym e)) (get_or-le-sum_by (λ (x : ℕ). cond (nat_eq s x) 1 0) symbols k d lt)
  where
    one_there : (b : Bool) (n : ℕ) → b ≡ true → cond b 1 0 ≤ n → 0 < n
    one_there true n is le = omega (arith, le)
    one_there false n is le = absurd (cc)

pub count_at : (symbols : List ℕ) (s : ℕ) → s < 256 → slice_index (counts_of symbols) s ≡ count_by (nat_eq s) symbols
unfolding counts_of
count_at symbols s lt = get_or-map-range_with_len (λ (t : ℕ). count_by (nat_eq t) symbols) 0 256 s s 0 lt (omega arith)

pub symbols_coded : (symbols : List ℕ) → AreBytes symbols → have_codes symbols ≡ true → All (λ s. 0 < slice_index (code_lengths symbols) s) symbols
symbols_coded symbols are h k d lt =
    let s = get_or symbols k d in
    let low : s < 256 = let b = are k in let e = get_or_default symbols k 0 d lt in omega (arith, b, e) in
    let some : 0 < slice_index (counts_of symbols) s = subst (λ n. 0 < n) (sym (count_at symbols s low)) (count_some symbols k s d lt refl) in
    (counted_have_lengths (counts_of symbols) s (used_of symbols h).two low).0 some

-- ---- a table and the words of symbols

pub coding_stands : (n : ℕ) (symbols : List ℕ) → length symbols ≡ n → AreBytes symbols → have_codes symbols ≡ true → IsCoding n (coding_bytes symbols) symbols
unfolding coding_bytes
coding_stands n symbols long are h =
    let lengths = code_lengths symbols in
    let codes = canonical_codes lengths in
    let words = filled_words (word_count (length (symbol_codes symbols)) + 1) (symbol_codes symbols) in
    let used = (used_of symbols h).lengths in
    record {
      front = code_table_bytes lengths;
      rest = words;
      value = codes;
      joined = refl;
      stands = table_from lengths (code_table_bytes lengths) used (table_written lengths);
      follows = subst (λ m. AreWords codes m words symbols) long (written_are_words codes symbols words (all_coded lengths symbols used are (symbols_coded symbols are h)) (symbol_words codes symbols));
    }

pub length_coding : (symbols : List ℕ) (table words : ℕ) → have_codes symbols ≡ true → IsTableSize (code_lengths symbols) table → words ≡ written_size (canonical_codes (code_lengths symbols)) symbols → table + words ≡ length (coding_bytes symbols)
unfolding coding_bytes
length_coding symbols table words h is e =
    let bits = symbol_codes symbols in
    let front = length_table (code_lengths symbols) table (used_of symbols h).lengths is in
    let back = words-long (word_count (length bits) + 1) bits in
    let joined = length-append (code_table_bytes (code_lengths symbols)) (filled_words (word_count (length bits) + 1) bits) in
    omega (arith, front, back, joined, e)

pub coding_is : (symbols table words : List ℕ) → AreBytes table → AreBytes words → IsWrittenTable (code_lengths symbols) table → AreWritten (canonical_codes (code_lengths symbols)) symbols words → table ++ words ≡ coding_bytes symbols
unfolding coding_bytes
coding_is symbols table words at aw t w =
    (λ i. table_is (code_lengths symbols) table at t i ++ filled_is (word_count (length (symbol_codes symbols)) + 1) (symbol_codes symbols) words (omega arith) aw w i)
