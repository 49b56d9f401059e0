-- The codes of a table are cut out of its words, and these are the codes of the table.
use Rattle.std.proofs.Common.{◌≡◌, ◌≢◌, ℕ, zero, suc, ◌+◌, ◌^◌, ◌<◌, ◌≤◌, Bool, List, [], ◌∷◌, ◌++◌, length, get_or, take, drop, slice_index, slice_set, replicate, refl, sym, ap, ◌∙◌, subst, inl, inr, arith, get_or-set_same, get_or-set_other}
use Rattle.std.specs.Prelude.{All, HoldsAt, SomeIndex, sum}
use Rattle.std.proofs.lemmas.Bool.{cases_lt, cases_eq}
use Rattle.std.proofs.lemmas.List.{length-take, length-take-le, length-drop, length-set, length-replicate, take_all, take-take, take-append-drop, get_or_past, get_or_default, get_or-replicate}
use Rattle.std.proofs.lemmas.List.FromFn.{map-range_with_len_more}
use Rattle.std.proofs.lemmas.List.Sums.{sum_by_more, sum_by_more_le, sum_by-take-le}
use Rattle.std.proofs.Math.Seq.{take-add}
use Rattle.huff_codes.specs.Bits.{bits_of, word_bits}
use Rattle.huff_codes.specs.Codes.{code_at}
use Rattle.huff_codes.specs.Words.{joined_codes}
use Rattle.huff_codes.specs.Table.{HaveLengths, HoldCodes, symbol_in, symbols_in, words_size}
use Rattle.huff_codes.specs.declared.codes.Code.{Code}
use Rattle.huff_codes.specs.declared.codes.Ahead.{Ahead}
use Rattle.huff_codes.specs.inside.Spans.{IsLaid, no_code}
use Rattle.huff_codes.specs.inside.Stored.{code_bits, codes_held, IsAhead}
use Rattle.huff_codes.specs.inside.Cutting.{place_in, bits_before, IsCut, AreCut}
use Rattle.huff_codes.proofs.BitLists.{length-bits}
use Rattle.huff_codes.proofs.Windows.{length-word_bits}
use Rattle.huff_codes.proofs.Held.{code_bits-is, length-code_bits, held-at, length-held}
use Rattle.huff_codes.proofs.Reading.{joined_codes-nil, joined_codes-push}

pub before_more : (lengths : List ℕ) (k : ℕ) → k < length lengths → bits_before lengths (k + 1) ≡ bits_before lengths k + slice_index lengths k
before_more lengths k lt = sum_by_more (λ l. l) lengths k 0 lt

pub before_within : (lengths : List ℕ) (k : ℕ) → k < length lengths → bits_before lengths k + slice_index lengths k ≤ sum lengths
before_within lengths k lt = sum_by_more_le (λ l. l) lengths k 0 lt

pub before-le : (lengths : List ℕ) (k : ℕ) → bits_before lengths k ≤ sum lengths
before-le lengths k = sum_by-take-le (λ l. l) lengths k

-- the words have all the bits of the codes
pub enough_bits : (lengths words : List ℕ) → length words ≡ words_size lengths → sum lengths ≤ length (word_bits words)
enough_bits lengths words size = omega (arith, size, length-word_bits words)

place_symbol : (first k : ℕ) → first < 256 → k < 256 → place_in first (symbol_in first k) ≡ k
place_symbol first k f lt = omega arith

pub symbol_place : (first s : ℕ) → first < 256 → s < 256 → symbol_in first (place_in first s) ≡ s
symbol_place first s f lt = omega arith

-- ---- cutting

pub cut_none : (first : ℕ) (lengths words : List ℕ) (cs : List Code) → cs ≡ replicate 256 no_code → AreCut first lengths words 0 0 cs
cut_none first lengths words cs is = record {
  room = ap length is ∙ length-replicate 256 no_code;
  bit_is = refl;
  laid = λ k d below. subst IsLaid (sym (all_empty k d below)) (record { low = omega arith; fits = pow_32; aligned = λ some. absurd (omega arith) });
  each = λ s lt. record {
    done = λ h. absurd (omega arith);
    open_ = λ h. ap code_bits (all_empty s no_code (omega (arith, ap length is, length-replicate 256 no_code))) ∙ code_bits-is no_code;
  };
}
  where
    pow_32 : 0 < 2 ^ 32
    pow_32 = omega arith

    all_empty : (k : ℕ) (d : Code) → k < length cs → get_or cs k d ≡ no_code
    all_empty k d below = ap (λ (xs : List Code). get_or xs k d) is ∙ get_or-replicate 256 k no_code d (omega (arith, ap length is, length-replicate 256 no_code))

-- the first bits ahead are those of the words, as far as they go
cut_bits : (a : Ahead) (left : List Bool) (n : ℕ) → IsAhead a left → n ≤ 32 → n ≤ length left → take n (bits_of 32 a.word) ≡ take n left
cut_bits a left n h low enough =
    let size : length (take 32 left) ≡ a.count = ap length h.same ∙ length-take-le a.count (bits_of 32 a.word) (omega (arith, h.few, length-bits 32 a.word)) in
    let within : n ≤ a.count = omega (arith, size, length-take 32 left) in
    sym (take-take n a.count (bits_of 32 a.word) within) ∙ ap (take n) (sym h.same) ∙ take-take n 32 left low

pub cut_more : (first : ℕ) (lengths words : List ℕ) (k bit : ℕ) (cs : List Code) (a : Ahead) (c : Code) → first < 256 → length lengths ≤ 256 → k < length lengths → All (λ l. l ≤ 32) lengths
    → length words ≡ words_size lengths → AreCut first lengths words k bit cs → IsAhead a (drop bit (word_bits words)) → IsLaid c → code_bits c ≡ take (slice_index lengths k) (bits_of 32 a.word)
    → AreCut first lengths words (k + 1) (bit + slice_index lengths k) (slice_set cs (symbol_in first k) c)
cut_more first lengths words k bit cs a c f few lt low size h ahead laid bits =
    let s = symbol_in first k in
    let len = slice_index lengths k in
    let all = word_bits words in
    let short : len ≤ 32 = low k 0 lt in
    let in_room : s < length cs = omega (arith, h.room) in
    let enough : len ≤ length (drop bit all) = omega (arith, before_within lengths k lt, enough_bits lengths words size, h.bit_is, length-drop bit all) in
    let code : code_bits c ≡ take len (drop (bits_before lengths k) all) =
    bits ∙ cut_bits a (drop bit all) len ahead short enough ∙ ap (λ (n : ℕ). take len (drop n all)) h.bit_is in record {
      room = length-set cs s c ∙ h.room;
      bit_is = ap (λ (n : ℕ). n + len) h.bit_is ∙ sym (before_more lengths k lt);
      laid = λ t d below. laid_set t d (omega (arith, below, length-set cs s c)) in_room;
      each = λ t t_lt. elim (cases_eq t s) [
        | inl same ↦ record {
          done = λ j_lt.
              let at : place_in first t ≡ k = ap (place_in first) same ∙ place_symbol first k f (omega arith) in
              ap code_bits (ap (λ (n : ℕ). get_or (slice_set cs s c) n no_code) same ∙ get_or-set_same cs s c no_code in_room) ∙ code
              ∙ ap (λ (j : ℕ). take (slice_index lengths j) (drop (bits_before lengths j) all)) (sym at);
          open_ = λ ge. absurd (omega (arith, ge, ap (place_in first) same, place_symbol first k f (omega arith)));
        }
        | inr other ↦
            let was = h.each t t_lt in
            let kept : code_bits (get_or (slice_set cs s c) t no_code) ≡ code_bits (get_or cs t no_code) = ap code_bits (get_or-set_other cs s t c no_code other) in
            let not_k : place_in first t ≢ k = λ e. other (sym (symbol_place first t f t_lt) ∙ ap (symbol_in first) e) in record {
              done = λ j_lt. kept ∙ was.done (omega (arith, not_k));
              open_ = λ ge. kept ∙ was.open_ (omega arith);
            }
      ];
    }
  where
    laid_set : (t : ℕ) (d : Code) → t < length cs → symbol_in first k < length cs → IsLaid (get_or (slice_set cs (symbol_in first k) c) t d)
    laid_set t d below in_room = elim (cases_eq t (symbol_in first k)) [
      | inl same ↦ subst IsLaid (sym (ap (λ (n : ℕ). get_or (slice_set cs (symbol_in first k) c) n d) same ∙ get_or-set_same cs (symbol_in first k) c d in_room)) laid
      | inr other ↦ subst IsLaid (sym (get_or-set_other cs (symbol_in first k) t c d other)) (h.laid t d below)
    ]

-- ---- codes that are cut so are those of the words

-- what is cut out of the bits, place by place
pub record AreCutBits (first : ℕ) (lengths : List ℕ) (bits : List Bool) (codes : List (List Bool)) : Type 0 where
  pub room : length codes ≡ 256
  pub each : (s : ℕ) → s < 256 → IsCut lengths bits (length lengths) (place_in first s) (code_at codes s)

at_symbol : (first : ℕ) (lengths : List ℕ) (bits : List Bool) (codes : List (List Bool)) (k : ℕ) → first < 256 → length lengths ≤ 256 → k < length lengths → AreCutBits first lengths bits codes
    → code_at codes (symbol_in first k) ≡ take (slice_index lengths k) (drop (bits_before lengths k) bits)
at_symbol first lengths bits codes k f few lt h =
    let at : place_in first (symbol_in first k) ≡ k = place_symbol first k f (omega arith) in
    (h.each (symbol_in first k) (omega arith)).done (omega (arith, at)) ∙ ap (λ (j : ℕ). take (slice_index lengths j) (drop (bits_before lengths j) bits)) at

pub symbols_more : (first n : ℕ) → symbols_in first (n + 1) ≡ symbols_in first n ++ symbol_in first n ∷ []
symbols_more first n = map-range_with_len_more (symbol_in first) 0 n n (omega arith)

joined_cut : (first : ℕ) (lengths : List ℕ) (bits : List Bool) (codes : List (List Bool)) (m : ℕ) → first < 256 → length lengths ≤ 256 → m ≤ length lengths → AreCutBits first lengths bits codes
    → joined_codes codes (symbols_in first m) ≡ take (bits_before lengths m) bits
joined_cut first lengths bits codes zero f few le h = joined_codes-nil codes
joined_cut first lengths bits codes (suc m) f few le h =
    let e : suc m ≡ m + 1 = omega arith in
    let lt : m < length lengths = omega arith in
    let before = bits_before lengths m in
    ap (λ (n : ℕ). joined_codes codes (symbols_in first n)) e
    ∙ ap (joined_codes codes) (symbols_more first m)
    ∙ joined_codes-push codes (symbols_in first m) (symbol_in first m)
    ∙ ap (λ (bs : List Bool). bs ++ code_at codes (symbol_in first m)) (joined_cut first lengths bits codes m f few (omega arith) h)
    ∙ ap (λ (bs : List Bool). take before bits ++ bs) (at_symbol first lengths bits codes m f few lt h)
    ∙ sym (take-add before (slice_index lengths m) bits)
    ∙ ap (λ (n : ℕ). take n bits) (sym (before_more lengths m lt))
    ∙ ap (λ (n : ℕ). take (bits_before lengths n) bits) (sym e)

pub hold_from_cut : (first : ℕ) (lengths words : List ℕ) (codes : List (List Bool)) → first < 256 → length lengths ≤ 256 → length words ≡ words_size lengths → AreCutBits first lengths (word_bits words) codes
    → HoldCodes first lengths words codes
hold_from_cut first lengths words codes f few size h =
    let bits = word_bits words in
    let all : bits_before lengths (length lengths) ≡ sum lengths = ap sum (take_all (length lengths) lengths (omega arith)) in record {
      symbols = h.room;
      inside = λ k lt.
          ap length (at_symbol first lengths bits codes k f few lt h)
          ∙ length-take-le (slice_index lengths k) (drop (bits_before lengths k) bits)
          (omega (arith, before_within lengths k lt, enough_bits lengths words size, length-drop (bits_before lengths k) bits));
      outside = λ s none. elim (cases_lt s 256) [
        | inr past ↦ get_or_past codes s [] (omega (arith, h.room))
        | inl lt ↦ elim (cases_lt (place_in first s) (length lengths)) [
          | inl within ↦ absurd (none (place_in first s) within (symbol_place first s f lt))
          | inr ge ↦ (h.each s lt).open_ ge
        ]
      ];
      begin = (
        drop (sum lengths) bits,
        sym (take-append-drop (sum lengths) bits)
            ∙ ap (λ (bs : List Bool). bs ++ drop (sum lengths) bits) (ap (λ (n : ℕ). take n bits) (sym all) ∙ sym (joined_cut first lengths bits codes (length lengths) f few (omega arith) h)),
      );
      size = size;
    }

pub cut_bits_of : (first : ℕ) (lengths words : List ℕ) (bit : ℕ) (cs : List Code) → AreCut first lengths words (length lengths) bit cs → AreCutBits first lengths (word_bits words) (codes_held cs)
cut_bits_of first lengths words bit cs h = record {
  room = length-held cs ∙ h.room;
  each = λ s lt. subst (IsCut lengths (word_bits words) (length lengths) (place_in first s)) (sym (held-at cs s no_code (omega (arith, h.room)))) (h.each s lt);
}

-- some code is not empty
pub cut_some : (first : ℕ) (lengths words : List ℕ) (bit : ℕ) (cs : List Code) → first < 256 → length lengths ≤ 256 → length words ≡ words_size lengths → HaveLengths lengths
    → AreCut first lengths words (length lengths) bit cs → SomeIndex cs (λ s. HoldsAt (λ c. 0 < c.length) cs s)
cut_some first lengths words bit cs f few size have h = go have.some
  where
    go : SomeIndex lengths (λ k. 0 < slice_index lengths k) → SomeIndex cs (λ s. HoldsAt (λ c. 0 < c.length) cs s)
    go (k, lt, some) =
        let s = symbol_in first k in
        let s_lt : s < length cs = omega (arith, h.room) in
        let inside = (hold_from_cut first lengths words (codes_held cs) f few size (cut_bits_of first lengths words bit cs h)).inside k lt in
        let c = get_or cs s no_code in
        let size : c.length ≡ slice_index lengths k = sym (length-code_bits c (h.laid s no_code s_lt).low) ∙ ap length (sym (held-at cs s no_code s_lt)) ∙ inside in
        (s, s_lt, λ d. subst (λ (x : Code). 0 < x.length) (get_or_default cs s no_code d s_lt) (omega (arith, size, some)))
