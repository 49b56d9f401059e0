-- Of all bytes, a table or words stand in front, or there is a first fault.
use Rattle.std.proofs.Common.{◌≡◌, ◌≢◌, ℕ, zero, suc, ◌+◌, ◌-◌, ◌*◌, ◌/◌, ◌<◌, ◌≤◌, ◌⊎◌, Bool, true, false, cond, nat_lt, List, [], ◌∷◌, ◌++◌, length, map, take, drop, slice_index, refl, sym, ap, ◌∙◌, subst, inl, inr, arith, ℤ, pos, negsuc, ◌≤ℤ◌, ◌<ℤ◌, ◌+ℤ◌}
use Rattle.std.specs.Prelude.{SomeIndex}
use Rattle.std.specs.List.{range_with_len}
use Rattle.std.proofs.lemmas.Bool.{cases_lt, cases_eq}
use Rattle.std.proofs.lemmas.Bool.Decides.{nat_tests}
use Rattle.std.proofs.lemmas.Int.{ints}
use Rattle.std.proofs.lemmas.List.{length-append, length-take-le, length-map, take-append-drop, get_or_past, get_or-map, get_or_default}
use Rattle.std.proofs.lemmas.List.FromFn.{length-range_with_len, get_or-range_with_len}
use Rattle.first_fault.specs.Faults.{Faults, none, wrong, unless}
use Rattle.first_fault.specs.Parts.{IsDecided, InFront, HasFault}
use Rattle.first_fault.proofs.Decided.{decided_unless}
use Rattle.lut_stuff.proofs.Lists.{list_decided}
use Rattle.huff_codes.specs.Bits.{word_bits, BeginsWith}
use Rattle.huff_codes.specs.Codes.{code_at, HasCode, IsPrefixFree}
use Rattle.huff_codes.specs.Words.{whole_end, AreWords, IsStuck, IsBegun, word_faults}
use Rattle.huff_codes.specs.Table.{int_at, IsRange, IsFirst, IsEnd, number_faults, end_faults, first_faults, symbols_faults, range_faults, HaveLengths, IsLengthList, length_faults, words_size, HoldCodes, AreCodeWords, code_faults, prefix_faults, AreRangeCodes, range_code_faults, IsTable, table_faults, IsCoding, coding_faults}
use Rattle.huff_codes.specs.declared.tables.table.SymbolRange.{SymbolRange}
use Rattle.huff_codes.specs.declared.faults.CodeFault.{CodeFault}
use Rattle.huff_codes.specs.declared.faults.CodeReason.{CodeReason}
use Rattle.huff_codes.specs.declared.faults.CodeReason.TheVariants.{Cut, BadTable, NoCode, List as InList}
use Rattle.huff_codes.specs.inside.Cutting.{place_in, bits_before, IsCut}
use Rattle.huff_codes.specs.inside.Reading.{HaveReached, IsNext}
use Rattle.huff_codes.proofs.Reading.{reach_none, reach_more, are_words, stop_fault, end_fault}
use Rattle.huff_codes.proofs.Cutting.{AreCutBits, hold_from_cut}
use Rattle.huff_codes.proofs.Turns.{decided_in_turn}
use Rattle.huff_codes.proofs.TableLaws.{range_from, table_codes}

-- ---- tests

-- something holds of some number below n, or of none
search_below : (P : ℕ → Type 0) → ((s : ℕ) → P s ⊎ (P s → ⊥)) → (n : ℕ) → ((s : ℕ) × ((s < n) × P s)) ⊎ ((s : ℕ) → s < n → P s → ⊥)
search_below P is zero = inr (λ s lt p. absurd (omega (arith, lt)))
search_below P is (suc n) = elim (is n) [
  | inl p ↦ inl (n, (omega arith, p))
  | inr no_ ↦ elim (search_below P is n) [
    | inl found ↦ inl (found.0, (let lt = found.1.0 in omega (arith, lt), found.1.1))
    | inr none_ ↦ inr (λ s lt p. elim (cases_eq s n) [
      | inl same ↦ no_ (subst P same p)
      | inr other ↦ none_ s (omega (arith, lt, other)) p
    ])
  ]
]

both : (P Q : Type 0) → P ⊎ (P → ⊥) → Q ⊎ (Q → ⊥) → (P × Q) ⊎ (P × Q → ⊥)
both P Q (inl p) (inl q) = inl (p, q)
both P Q (inl p) (inr q) = inr (λ h. q h.1)
both P Q (inr p) q = inr (λ h. p h.0)

less_or_not : (m n : ℕ) → (m < n) ⊎ (m < n → ⊥)
less_or_not m n = elim (cases_lt m n) [ inl lt ↦ inl lt | inr ge ↦ inr (λ lt. omega (arith, lt, ge)) ]

at_most : (m n : ℕ) → (m ≤ n) ⊎ (m ≤ n → ⊥)
at_most m n = elim (cases_lt n m) [ inl lt ↦ inr (λ le. omega (arith, lt, le)) | inr ge ↦ inl ge ]

at_most_z : (a b : ℤ) → (a ≤ℤ b) ⊎ (a ≤ℤ b → ⊥)
at_most_z (pos m) (pos n) = elim (cases_lt n m) [ inl lt ↦ inr (λ le. omega (arith, ints, lt, le)) | inr ge ↦ inl (omega (arith, ints, ge)) ]
at_most_z (pos m) (negsuc n) = inr (λ le. omega (arith, ints, le))
at_most_z (negsuc m) (pos n) = inl (omega (arith, ints))
at_most_z (negsuc m) (negsuc n) = elim (cases_lt m n) [ inl lt ↦ inr (λ le. omega (arith, ints, lt, le)) | inr ge ↦ inl (omega (arith, ints, ge)) ]

less_z : (a b : ℤ) → (a <ℤ b) ⊎ (a <ℤ b → ⊥)
less_z a b = elim (at_most_z b a) [ inl le ↦ inr (λ lt. omega (arith, ints, le, lt)) | inr no_ ↦ inl (lower a b no_) ]
  where
    lower : (a b : ℤ) → (b ≤ℤ a → ⊥) → a <ℤ b
    lower (pos m) (pos n) no_ = elim (cases_lt m n) [ inl lt ↦ omega (arith, ints, lt) | inr ge ↦ absurd (no_ (omega (arith, ints, ge))) ]
    lower (pos m) (negsuc n) no_ = absurd (no_ (omega (arith, ints)))
    lower (negsuc m) (pos n) no_ = omega (arith, ints)
    lower (negsuc m) (negsuc n) no_ = elim (cases_lt n m) [ inl lt ↦ omega (arith, ints, lt) | inr ge ↦ absurd (no_ (omega (arith, ints, ge))) ]

same_z : (a : ℤ) (n : ℕ) → (a ≡ pos n) ⊎ (a ≡ pos n → ⊥)
same_z (pos m) n = elim (cases_eq m n) [ inl same ↦ inl (ap pos same) | inr other ↦ inr (λ e. other (omega (arith, ints, e))) ]
same_z (negsuc m) n = inr (λ e. omega (arith, ints, e))

begins_or_not : (bits code : List Bool) → BeginsWith bits code ⊎ (BeginsWith bits code → ⊥)
begins_or_not bits [] = inl (bits, refl)
begins_or_not [] (b ∷ code) = inr (λ h. no_bits b code h.0 h.1)
  where
    no_bits : (b : Bool) (code rest : List Bool) → [] ≡ (b ∷ code) ++ rest → ⊥
    no_bits b code rest e = omega (arith, ap length e)
begins_or_not (true ∷ bits) (true ∷ code) = elim (begins_or_not bits code) [ inl h ↦ inl (h.0, ap (λ bs. true ∷ bs) h.1) | inr no_ ↦ inr (λ h. no_ (h.0, ap (drop 1) h.1)) ]
begins_or_not (false ∷ bits) (false ∷ code) = elim (begins_or_not bits code) [ inl h ↦ inl (h.0, ap (λ bs. false ∷ bs) h.1) | inr no_ ↦ inr (λ h. no_ (h.0, ap (drop 1) h.1)) ]
begins_or_not (true ∷ bits) (false ∷ code) = inr (λ h. differ bits code h.0 h.1)
  where
    differ : (bits code rest : List Bool) → true ∷ bits ≡ (false ∷ code) ++ rest → ⊥
    differ bits code rest e = cc
begins_or_not (false ∷ bits) (true ∷ code) = inr (λ h. differ bits code h.0 h.1)
  where
    differ : (bits code rest : List Bool) → false ∷ bits ≡ (true ∷ code) ++ rest → ⊥
    differ bits code rest e = cc

-- a symbol that has a code is below 256
pub coded_below : (codes : List (List Bool)) (s : ℕ) → length codes ≡ 256 → HasCode codes s → s < 256
coded_below codes s size h = elim (cases_lt s 256) [
  | inl lt ↦ lt
  | inr ge ↦ absurd (let past = ap length (get_or_past codes s [] (omega (arith, ge, size))) in omega (arith, past, h))
]

-- some symbol's code has a property, or none has
search_codes : (codes : List (List Bool)) (P : List Bool → Type 0) → length codes ≡ 256 → ((code : List Bool) → P code ⊎ (P code → ⊥))
    → ((s : ℕ) × (HasCode codes s × P (code_at codes s))) ⊎ ((s : ℕ) → HasCode codes s → P (code_at codes s) → ⊥)
search_codes codes P size is =
    elim (search_below (λ s. HasCode codes s × P (code_at codes s)) (λ s. both (HasCode codes s) (P (code_at codes s)) (less_or_not 0 (length (code_at codes s))) (is (code_at codes s))) 256) [
      | inl found ↦ inl (found.0, found.1.1)
      | inr none_ ↦ inr (λ s coded p. none_ s (coded_below codes s size coded) (coded, p))
    ]

-- ---- words

words_end : (codes : List (List Bool)) (n : ℕ) (bytes symbols : List ℕ) (bit : ℕ) → HaveReached codes bytes symbols bit → length symbols ≡ n
    → InFront (AreWords codes n) bytes ⊎ HasFault (word_faults codes n bytes)
words_end codes n bytes symbols bit h all =
    let used = (bit + 31) / 32 * 4 + 4 in
    elim (cases_lt (length bytes) used) [
      | inl short ↦ inr (record { place = whole_end bytes; reason = Cut; fault = end_fault codes bytes symbols bit n (whole_end bytes) h all short refl })
      | inr enough ↦ inl (record {
        front = take used bytes;
        rest = drop used bytes;
        value = symbols;
        joined = sym (take-append-drop used bytes);
        stands = subst (λ m. AreWords codes m (take used bytes) symbols) all (are_words codes bytes symbols bit used h refl enough);
      })
    ]

words_stop : (codes : List (List Bool)) (n : ℕ) (bytes symbols : List ℕ) (bit : ℕ) → length codes ≡ 256 → HaveReached codes bytes symbols bit → length symbols < n → IsStuck codes (drop bit (word_bits bytes))
    → HasFault (word_faults codes n bytes)
words_stop codes n bytes symbols bit size h few stuck =
    let left = drop bit (word_bits bytes) in
    elim (search_codes codes (λ code. BeginsWith code left) size (λ code. begins_or_not code left)) [
      | inl begun ↦
          let f : CodeFault = record { reason = Cut; at = whole_end bytes } in
          record { place = f.at; reason = f.reason; fault = stop_fault codes bytes symbols bit n f h few stuck (inl (begun, (refl, refl))) }
      | inr none_ ↦
          let f : CodeFault = record { reason = NoCode; at = 4 * (bit / 32) } in
          record { place = f.at; reason = f.reason; fault = stop_fault codes bytes symbols bit n f h few stuck (inr (λ (b : IsBegun codes left). none_ b.0 b.1.0 b.1.1, (refl, refl))) }
    ]

-- m symbols more are read, or there is a fault
words_on : (codes : List (List Bool)) (n : ℕ) (bytes : List ℕ) → length codes ≡ 256 → (m : ℕ) (symbols : List ℕ) (bit : ℕ) → HaveReached codes bytes symbols bit → length symbols + m ≡ n
    → InFront (AreWords codes n) bytes ⊎ HasFault (word_faults codes n bytes)
words_on codes n bytes size zero symbols bit h e = words_end codes n bytes symbols bit h (let f : length symbols ≡ n = omega (arith, e) in f)
words_on codes n bytes size (suc m) symbols bit h e =
    let left = drop bit (word_bits bytes) in
    elim (search_codes codes (λ code. BeginsWith left code) size (λ code. begins_or_not left code)) [
      | inl found ↦
          let s = found.0 in
          let next : IsNext codes left s (length (code_at codes s)) = record { coded = found.1.0; front = found.1.1; takes = refl } in
          words_on codes n bytes size m (symbols ++ s ∷ []) (bit + length (code_at codes s)) (reach_more codes bytes symbols bit s (length (code_at codes s)) h next)
          (let long = length-append symbols (s ∷ []) in let f : length (symbols ++ s ∷ []) + m ≡ n = omega (arith, long, e) in f)
      | inr none_ ↦ inr (words_stop codes n bytes symbols bit size h (omega (arith, e)) none_)
    ]

pub words_decided : (codes : List (List Bool)) (n : ℕ) → length codes ≡ 256 → IsDecided (AreWords codes n) (word_faults codes n)
words_decided codes n size bytes are = words_on codes n bytes size n [] 0 (reach_none codes bytes) (let e : 0 + n ≡ n = omega arith in e)

-- ---- the four numbers

is_wrong : (why : CodeReason) (at : ℕ) → HasFault (wrong why at)
is_wrong why at = record { place = at; reason = why; fault = (refl, refl) }

-- a number is there and passes its test, or there is a fault
decided_number : (place : ℕ) (test : Type 0) (rest : List ℕ) (later : Faults CodeReason) {Y : Type 0} → test ⊎ (test → ⊥) → (place + 4 ≤ length rest → test → Y ⊎ HasFault later)
    → Y ⊎ HasFault (number_faults place test rest later)
decided_number place test rest later is go =
    decided_unless (place + 4 ≤ length rest) (wrong Cut place) (unless test (wrong BadTable place) later) (at_most (place + 4) (length rest)) (is_wrong Cut place)
    (λ there. decided_unless test (wrong BadTable place) later is (is_wrong BadTable place) (go there))

is_first : (z : ℤ) → (pos 0 ≤ℤ z) → (z <ℤ pos 256) → (first : ℕ) × ((z ≡ pos first) × (first < 256))
is_first (pos m) low high = (m, (refl, omega (arith, ints, high)))
is_first (negsuc m) low high = absurd (omega (arith, ints, low))

is_end : (first : ℕ) (z : ℤ) → (pos first <ℤ z) → (z ≤ℤ (pos first +ℤ pos 256)) → (count : ℕ) × ((z ≡ pos (first + count)) × ((0 < count) × (count ≤ 256)))
is_end first (pos m) low high =
    let count = m - first in
    let is : m ≡ first + count = omega (arith, ints, low) in
    (count, (ap pos is, (omega (arith, ints, low), omega (arith, ints, high))))
is_end first (negsuc m) low high = absurd (omega (arith, ints, low))

range_decided : IsDecided IsRange range_faults
range_decided rest are =
    decided_number 0 (pos 2 ≤ℤ int_at rest 0) rest (symbols_faults rest) (at_most_z (pos 2) (int_at rest 0)) (λ a version.
    decided_number 4 (int_at rest 4 ≡ pos 256) rest (first_faults rest) (same_z (int_at rest 4) 256) (λ b symbols.
    decided_number 8 (IsFirst rest) rest (end_faults rest) (both (pos 0 ≤ℤ int_at rest 8) (int_at rest 8 <ℤ pos 256) (at_most_z (pos 0) (int_at rest 8)) (less_z (int_at rest 8) (pos 256))) (λ c first.
    decided_number 12 (IsEnd rest) rest none (both (int_at rest 8 <ℤ int_at rest 12) (int_at rest 12 ≤ℤ (int_at rest 8 +ℤ pos 256)) (less_z (int_at rest 8) (int_at rest 12)) (at_most_z (int_at rest 12) (int_at rest 8 +ℤ pos 256))) (λ d end.
    inl (found d version symbols first end)))))
  where
    found : 12 + 4 ≤ length rest → (pos 2 ≤ℤ int_at rest 0) → int_at rest 4 ≡ pos 256 → IsFirst rest → IsEnd rest → InFront IsRange rest
    found size version symbols first end =
        let f = is_first (int_at rest 8) first.0 first.1 in
        let g = is_end f.0 (int_at rest 12) (subst (λ z. z <ℤ int_at rest 12) f.1.0 end.0) (subst (λ z. int_at rest 12 ≤ℤ (z +ℤ pos 256)) f.1.0 end.1) in
        let range : SymbolRange = record { first = f.0; count = g.0 } in
        record {
          front = take 16 rest;
          rest = drop 16 rest;
          value = range;
          joined = sym (take-append-drop 16 rest);
          stands = range_from rest range (omega (arith, size)) version symbols f.1.0 f.1.1 g.1.0 g.1.1.0 g.1.1.1;
        }

-- ---- the lengths

have_or_not : (lengths : List ℕ) → HaveLengths lengths ⊎ (HaveLengths lengths → ⊥)
have_or_not lengths =
    elim (search_below (λ k. (k < length lengths) × (32 < slice_index lengths k)) (λ k. both (k < length lengths) (32 < slice_index lengths k) (less_or_not k (length lengths)) (less_or_not 32 (slice_index lengths k))) (length lengths)) [
      | inl high ↦ inr (λ h. let low = h.low high.0 0 high.1.1.0 in let above = high.1.1.1 in omega (arith, low, above))
      | inr low ↦ elim (search_below (λ k. 0 < slice_index lengths k) (λ k. less_or_not 0 (slice_index lengths k)) (length lengths)) [
        | inl some ↦ inl (record {
          low = λ k d lt. subst (λ n. n ≤ 32) (get_or_default lengths k 0 d lt) (elim (cases_lt 32 (slice_index lengths k)) [ inl above ↦ absurd (low k lt (lt, above)) | inr fine ↦ fine ]);
          some = (some.0, some.1.0, some.1.1);
        })
        | inr none_ ↦ inr (λ h. no_length lengths none_ h.some)
      ]
    ]
  where
    no_length : (lengths : List ℕ) → ((k : ℕ) → k < length lengths → 0 < slice_index lengths k → ⊥) → SomeIndex lengths (λ k. 0 < slice_index lengths k) → ⊥
    no_length lengths none_ (k, lt, some) = none_ k lt some

lengths_decided : (n : ℕ) → IsDecided (IsLengthList n) (length_faults n)
lengths_decided n bytes are = elim (list_decided n bytes are) [
  | inl f ↦ elim (have_or_not f.value) [
    | inl have ↦ inl (record { front = f.front; rest = f.rest; value = f.value; joined = f.joined; stands = (f.stands, have) })
    | inr no_ ↦ inr (record { place = 0; reason = BadTable; fault = inr (f, (no_, (refl, refl))) })
  ]
  | inr w ↦ inr (record { place = w.place; reason = InList w.reason; fault = inl (w.reason, (w.fault, refl)) })
]

-- ---- the codes

-- what is cut out of the bits for a place; nothing behind the last length
code_for : List ℕ → List Bool → ℕ → List Bool
code_for lengths bits j = cond (nat_lt j (length lengths)) (take (slice_index lengths j) (drop (bits_before lengths j) bits)) []

codes_cut : ℕ → List ℕ → List Bool → List (List Bool)
codes_cut first lengths bits = map (λ s. code_for lengths bits (place_in first s)) (range_with_len 0 256)

is_less : (a b : ℕ) → a < b → nat_lt a b ≡ true
is_less a b lt = grind (arith, nat_tests)

not_less : (a b : ℕ) → b ≤ a → nat_lt a b ≡ false
not_less a b ge = grind (arith, nat_tests)

cut_is : (lengths : List ℕ) (bits : List Bool) (j : ℕ) → IsCut lengths bits (length lengths) j (code_for lengths bits j)
unfolding code_for
cut_is lengths bits j = record {
  done = λ lt. ap (λ b. cond b (take (slice_index lengths j) (drop (bits_before lengths j) bits)) []) (is_less j (length lengths) lt);
  open_ = λ ge. ap (λ b. cond b (take (slice_index lengths j) (drop (bits_before lengths j) bits)) []) (not_less j (length lengths) ge);
}

codes_are_cut : (first : ℕ) (lengths : List ℕ) (bits : List Bool) → AreCutBits first lengths bits (codes_cut first lengths bits)
unfolding codes_cut
codes_are_cut first lengths bits =
    let f : ℕ → List Bool = λ (s : ℕ). code_for lengths bits (place_in first s) in
    let range_long = length-range_with_len 0 256 in
    record {
      room = length-map (range_with_len 0 256) f ∙ range_long;
      each = λ s lt. subst (IsCut lengths bits (length lengths) (place_in first s))
          (sym (get_or-map f (range_with_len 0 256) s 0 [] (omega (arith, range_long, lt)) ∙ ap f (get_or-range_with_len 0 256 s 0 lt ∙ (let e : 0 + s ≡ s = omega arith in e))))
          (cut_is lengths bits (place_in first s));
    }

-- two symbols, of which the code of one is the front of the other's
Clash : List (List Bool) → ℕ → ℕ → Type 0
Clash codes a b = (HasCode codes a × HasCode codes b) × (BeginsWith (code_at codes b) (code_at codes a) × (a ≢ b))

clash_or_not : (codes : List (List Bool)) (a b : ℕ) → Clash codes a b ⊎ (Clash codes a b → ⊥)
unfolding Clash
clash_or_not codes a b =
    both (HasCode codes a × HasCode codes b) (BeginsWith (code_at codes b) (code_at codes a) × (a ≢ b))
    (both (HasCode codes a) (HasCode codes b) (less_or_not 0 (length (code_at codes a))) (less_or_not 0 (length (code_at codes b))))
    (both (BeginsWith (code_at codes b) (code_at codes a)) (a ≢ b) (begins_or_not (code_at codes b) (code_at codes a)) (other_or_not a b))
  where
    other_or_not : (a b : ℕ) → (a ≢ b) ⊎ ((a ≢ b) → ⊥)
    other_or_not a b = elim (cases_eq a b) [ inl same ↦ inr (λ ne. ne same) | inr other ↦ inl other ]

free_or_not : (codes : List (List Bool)) → length codes ≡ 256 → IsPrefixFree codes ⊎ (IsPrefixFree codes → ⊥)
unfolding Clash
free_or_not codes size =
    elim (search_below (λ a. (b : ℕ) × ((b < 256) × Clash codes a b)) row 256) [
      | inl found ↦ inr (λ free.
          let c = found.1.1.1.1 in
          c.1.1 (free found.0 found.1.1.0 c.0.0 c.0.1 c.1.0))
      | inr none_ ↦ inl (λ a b p q front. elim (cases_eq a b) [
        | inl same ↦ same
        | inr other ↦ absurd (none_ a (coded_below codes a size p) (b, (coded_below codes b size q, ((p, q), (front, other)))))
      ])
    ]
  where
    row : (a : ℕ) → ((b : ℕ) × ((b < 256) × Clash codes a b)) ⊎ (((b : ℕ) × ((b < 256) × Clash codes a b)) → ⊥)
    row a = elim (search_below (Clash codes a) (clash_or_not codes a) 256) [
      | inl found ↦ inl found
      | inr none_ ↦ inr (λ h. none_ h.0 h.1.0 h.1.1)
    ]

codes_decided : (first : ℕ) (lengths : List ℕ) → first < 256 → length lengths ≤ 256 → IsDecided (AreCodeWords first lengths) (code_faults first lengths)
codes_decided first lengths f few rest are =
    decided_unless (words_size lengths ≤ length rest) (wrong Cut 0) (prefix_faults first lengths rest) (at_most (words_size lengths) (length rest)) (is_wrong Cut 0) there
  where
    there : words_size lengths ≤ length rest → InFront (AreCodeWords first lengths) rest ⊎ HasFault (prefix_faults first lengths rest)
    there enough =
        let words = take (words_size lengths) rest in
        let codes = codes_cut first lengths (word_bits words) in
        let cut = codes_are_cut first lengths (word_bits words) in
        let hold : HoldCodes first lengths words codes = hold_from_cut first lengths words codes f few (length-take-le (words_size lengths) rest enough) cut in
        elim (free_or_not codes cut.room) [
          | inl free ↦ inl (record {
            front = words;
            rest = drop (words_size lengths) rest;
            value = codes;
            joined = sym (take-append-drop (words_size lengths) rest);
            stands = (hold, free);
          })
          | inr no_ ↦ inr (record { place = 0; reason = BadTable; fault = (codes, (hold, (no_, (refl, refl)))) })
        ]

-- ---- the whole

range_codes_decided : (range : SymbolRange) → range.first < 256 → range.count ≤ 256 → IsDecided (AreRangeCodes range) (range_code_faults range)
range_codes_decided range below most =
    decided_in_turn (IsLengthList range.count) (length_faults range.count) (AreCodeWords range.first) (code_faults range.first) (lengths_decided range.count)
    (λ a lengths h. codes_decided range.first lengths below (let size = h.0.0 in omega (arith, size, most)))

pub table_decided : IsDecided IsTable table_faults
table_decided = decided_in_turn IsRange range_faults AreRangeCodes range_code_faults range_decided (λ a range h. range_codes_decided range h.first_below h.most)

pub coding_decided : (n : ℕ) → IsDecided (IsCoding n) (coding_faults n)
coding_decided n = decided_in_turn IsTable table_faults (λ codes. AreWords codes n) (λ codes. word_faults codes n) table_decided (λ a codes h. words_decided codes n (table_codes a codes h).size)
