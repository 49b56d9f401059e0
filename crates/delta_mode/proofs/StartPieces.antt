-- Pieces of a row by distances: the last value before each pixel, and the pixels without a valid one to the left.
use Rattle.std.proofs.Common.{◌≡◌, ◌≢◌, ℕ, zero, suc, ℤ, pos, ◌+ℤ◌, ◌-ℤ◌, ◌+◌, ◌-◌, ◌*◌, ◌%◌, ◌^◌, ◌<◌, ◌≤◌, Bool, true, false, cond, nat_le, List, [], ◌∷◌, ◌++◌, length, get_or, take, drop, refl, sym, ap, ◌∙◌, subst, arith, inl, inr, add-one}
use Rattle.std.specs.Prelude.{◌&&◌, nat_eq}
use Rattle.std.specs.Int.{bit_at}
use Rattle.std.proofs.lemmas.Bool.{cases_Bool, cases_eq, cases_lt}
use Rattle.std.proofs.lemmas.Bool.Decides.{nat_tests}
use Rattle.std.proofs.lemmas.Int.{ints}
use Rattle.std.proofs.lemmas.List.{get_or-append-add, get_or_append_left}
use Rattle.std.proofs.lemmas.Nat.Bits.{bit_at_lowest, bit_at-zero}
use Rattle.raster_cells.specs.declared.kind.PixelType.{PixelType}
use Rattle.raster_cells.specs.declared.kind.PixelType.TheVariants.{I8, U8}
use Rattle.raster_cells.specs.Distance.{distance_of}
use Rattle.raster_values.specs.Flat.{marks_of, value_in, valid_from}
use Rattle.raster_cells.specs.PixelType.{InRange}
use Rattle.raster_values.specs.Raster.{Pixels, IsRaster}
use Rattle.raster_cells.specs.Words.{word_bit, AreMarks}
use Rattle.delta_mode.specs.Symbols.{IsByteType, bias, symbol_of}
use Rattle.delta_mode.specs.Deltas.{delta, has_left, has_upper, is_valid, last_value, predictor}
use Rattle.delta_mode.specs.EncodeStates.{deltas_before}
use Rattle.delta_mode.specs.inside.Pieces.{rank, left_of}
use Rattle.delta_mode.specs.inside.Starts.{between, mark_of, AreStarts, HasLast, HasSymbols}
use Rattle.delta_mode.proofs.EvenPieces.{kept_predictor}
use Rattle.delta_mode.proofs.Gathered.{distance_at, distances, distances_small, many, numbers_long}
use Rattle.delta_mode.proofs.InPieces.{InPiece, piece_left}
use Rattle.delta_mode.proofs.Marks.{value_in_range, zero_in_range}
use Rattle.delta_mode.proofs.Numbers.{by_byte, symbol-is}
use Rattle.delta_mode.proofs.Pieces.{rank_below, rank_off, rank_on, rank_split}
use Rattle.delta_mode.proofs.Predictors.{last_has, last-suc, predictor_has}
use Rattle.delta_mode.proofs.StartBits.{bit_gone, bit_stays, clear_bit, fewer_bits, without, word_marks}
use Rattle.delta_mode.proofs.EncodeStates.{piece_first}

-- ---- symbols by distances

between_symbol : (kind : PixelType) (v p : ℤ) → IsByteType kind → InRange kind v → InRange kind p → between (bias kind) (distance_of kind v) (distance_of kind p) ≡ symbol_of kind (v -ℤ p)
between_symbol kind v p byte = by_byte (λ k. InRange k v → InRange k p → between (bias k) (distance_of k v) (distance_of k p) ≡ symbol_of k (v -ℤ p))
    (λ hv hp.
    let m = distance_of I8 v + 640 - distance_of I8 p in
    let low : distance_of I8 p < 256 = omega (arith, ints, hp.0, hp.1) in
    let e : ((v -ℤ p) +ℤ pos 128) +ℤ pos (2 * 256) ≡ pos m = omega (arith, ints, hv.0, hv.1, hp.0, hp.1) in
    (let f : (distance_of I8 v + (256 + 128) - distance_of I8 p) % 256 ≡ m % 256 = omega (arith, low) in f) ∙ sym (symbol-is I8 (v -ℤ p) m e))
    (λ hv hp.
    let m = distance_of U8 v + 512 - distance_of U8 p in
    let low : distance_of U8 p < 256 = omega (arith, ints, hp.0, hp.1) in
    let e : ((v -ℤ p) +ℤ pos 0) +ℤ pos (2 * 256) ≡ pos m = omega (arith, ints, hv.0, hv.1, hp.0, hp.1) in
    (let f : (distance_of U8 v + (256 + 0) - distance_of U8 p) % 256 ≡ m % 256 = omega (arith, low) in f) ∙ sym (symbol-is U8 (v -ℤ p) m e))
    kind byte

pub last_in_range : (r : Pixels) (d k : ℕ) → IsRaster r → InRange r.kind (last_value (is_valid r) (value_in r d) k)
last_in_range r d k sound = last_has (InRange r.kind) (is_valid r) (value_in r d) k (zero_in_range r.kind) (λ j lt. value_in_range r d j sound)

pub predictor_in_range : (r : Pixels) (d k : ℕ) → IsRaster r → InRange r.kind (predictor r.cols (is_valid r) (value_in r d) k)
predictor_in_range r d k sound = predictor_has (InRange r.kind) r.cols (is_valid r) (value_in r d) k sound.shape.cols_above (zero_in_range r.kind) (λ j lt. value_in_range r d j sound)

-- ---- the last value

last_on : (r : Pixels) (d place i : ℕ) → mark_of r place i ≡ true → last_value (is_valid r) (value_in r d) (place + (i + 1)) ≡ value_in r d (place + i)
last_on r d place i on =
    ap (last_value (is_valid r) (value_in r d)) (let e : place + (i + 1) ≡ suc (place + i) = omega arith in e) ∙ last-suc (is_valid r) (value_in r d) (place + i)
    ∙ ap (λ b. cond b (value_in r d (place + i)) (last_value (is_valid r) (value_in r d) (place + i))) on

last_off : (r : Pixels) (d place i : ℕ) → mark_of r place i ≡ false → last_value (is_valid r) (value_in r d) (place + (i + 1)) ≡ last_value (is_valid r) (value_in r d) (place + i)
last_off r d place i off =
    ap (last_value (is_valid r) (value_in r d)) (let e : place + (i + 1) ≡ suc (place + i) = omega arith in e) ∙ last-suc (is_valid r) (value_in r d) (place + i)
    ∙ ap (λ b. cond b (value_in r d (place + i)) (last_value (is_valid r) (value_in r d) (place + i))) off

-- behind the last value before a piece stand those of its valid pixels
pub has_last : (r : Pixels) (d place n first : ℕ) (new rest : List ℕ) → first ≡ distance_of r.kind (last_value (is_valid r) (value_in r d) place) → new ≡ first ∷ (distances r d place n ++ rest) → HasLast r d place n new
has_last r d place n first new rest front is = record { each = by }
  where
    mark : ℕ → Bool
    mark = mark_of r place

    by : (i : ℕ) → i ≤ n → get_or new (rank mark i) 0 ≡ distance_of r.kind (last_value (is_valid r) (value_in r d) (place + i))
    by zero le = ap (λ (xs : List ℕ). get_or xs 0 0) is ∙ front ∙ ap (λ k. distance_of r.kind (last_value (is_valid r) (value_in r d) k)) (let e : place ≡ place + 0 = omega arith in e)
    by (suc i) le =
        let lt : i < n = omega (arith, le) in
        let one : suc i ≡ i + 1 = omega arith in
        let goal : ℕ → Type 0 = λ (k : ℕ). get_or new (rank mark k) 0 ≡ distance_of r.kind (last_value (is_valid r) (value_in r d) (place + k)) in
        subst goal (sym one) (elim (cases_Bool (mark i)) as (λ _. goal (i + 1)) [
          | inl on ↦
              let below = rank_below mark i n lt on in
              let long = many r d place n in
              ap (λ k. get_or new k 0) (rank_on mark i on) ∙ ap (λ (xs : List ℕ). get_or xs (rank mark i + 1) 0) is ∙ ap (λ k. get_or (first ∷ (distances r d place n ++ rest)) k 0) (add-one (rank mark i))
              ∙ get_or_append_left (distances r d place n) rest 0 (rank mark i) (omega (arith, below, long)) ∙ distance_at r d place n i lt on ∙ ap (distance_of r.kind) (sym (last_on r d place i on))
          | inr off ↦ ap (λ k. get_or new k 0) (rank_off mark i off) ∙ by i (omega (arith, le)) ∙ ap (distance_of r.kind) (sym (last_off r d place i off))
        ])

pub last_bytes : (r : Pixels) (d place n first : ℕ) (new rest : List ℕ) → IsRaster r → IsByteType r.kind → first < 256 → new ≡ first ∷ (distances r d place n ++ rest) → (j : ℕ) → j ≤ rank (mark_of r place) n → get_or new j 0 < 256
last_bytes r d place n first new rest sound byte low is j le = subst (λ (xs : List ℕ). get_or xs j 0 < 256) (sym is) (by j le)
  where
    by : (j : ℕ) → j ≤ rank (mark_of r place) n → get_or (first ∷ (distances r d place n ++ rest)) j 0 < 256
    by zero le = low
    by (suc j) le =
        let long = many r d place n in
        subst (λ k. k < 256) (sym (get_or_append_left (distances r d place n) rest 0 j (omega (arith, le, long)))) (distances_small r d place n j sound byte)

-- ---- a pixel's predictor

nat_le_true : (a b : ℕ) → a ≤ b → nat_le a b ≡ true
nat_le_true a b le = grind (arith, nat_tests)

nat_le_false : (a b : ℕ) → b < a → nat_le a b ≡ false
nat_le_false a b lt = grind (arith, nat_tests)

-- where it has a valid one to the left that is the last value
left_predictor : (r : Pixels) (d k : ℕ) → IsRaster r → has_left r.cols (is_valid r) k ≡ true → predictor r.cols (is_valid r) (value_in r d) k ≡ last_value (is_valid r) (value_in r d) k
left_predictor r d k sound on =
    sym (kept_predictor r.cols k (is_valid r) (value_in r d) true false (pos 0) (last_value (is_valid r) (value_in r d) k) sound.shape.cols_above (sym on) refl (λ e. absurd (cc)) (λ e. absurd (cc)))

-- else what stands above
pub upper_predictor : (r : Pixels) (d k w m last : ℕ) (out : List ℕ) → IsRaster r → has_left r.cols (is_valid r) k ≡ false → last ≡ distance_of r.kind (last_value (is_valid r) (value_in r d) k) → w ≡ r.cols → w ≤ k
    → m ≡ length (valid_from r (k - w) 1) → out ≡ distances r d (k - w) 1 ++ drop m (last ∷ []) → get_or out 0 0 ≡ distance_of r.kind (predictor r.cols (is_valid r) (value_in r d) k)
upper_predictor r d k w m last out sound left front ew le em is =
    let valid = is_valid r in
    let value = value_in r d in
    let a = k - w in
    let mark : ℕ → Bool = λ (j : ℕ). valid (a + j) in
    let here : a + 0 ≡ a = omega arith in
    let one : 0 + 1 ≡ 1 = omega arith in
    let ds = distances r d a 1 in
    let long = many r d a 1 in
    let numbers = numbers_long valid a 1 in
    let in_ : nat_le r.cols k ≡ true = nat_le_true r.cols k (omega (arith, ew, le)) in
    let up : has_upper r.cols valid k ≡ valid a = ap (λ b. b && valid (k - r.cols)) in_ ∙ ap (λ n. valid (k - n)) (sym ew) in
    ap (λ (xs : List ℕ). get_or xs 0 0) is ∙ elim (cases_Bool (valid a)) as (λ _. get_or (ds ++ drop m (last ∷ [])) 0 0 ≡ distance_of r.kind (predictor r.cols valid value k)) [
      | inl on ↦
          let marked : mark 0 ≡ true = ap valid here ∙ on in
          let count = ap (rank mark) (sym one) ∙ rank_on mark 0 marked in
          let some : 0 < length ds = omega (arith, long, count) in
          get_or_append_left ds (drop m (last ∷ [])) 0 0 some ∙ distance_at r d a 1 0 (omega arith) marked
          ∙ ap (distance_of r.kind) (ap value (here ∙ ap (λ n. k - n) ew)
          ∙ kept_predictor r.cols k valid value false true (value (k - r.cols)) (last_value valid value k) sound.shape.cols_above (sym left) refl (λ _. sym (up ∙ on)) (λ _ _. refl))
      | inr off ↦
          let unmarked : mark 0 ≡ false = ap valid here ∙ off in
          let count = ap (rank mark) (sym one) ∙ rank_off mark 0 unmarked in
          let none : m ≡ 0 = omega (arith, em, numbers, count) in
          let first : 0 ≡ length ds + 0 = omega (arith, long, count) in
          ap (λ j. get_or (ds ++ drop m (last ∷ [])) j 0) first ∙ get_or-append-add ds (drop m (last ∷ [])) 0 0 ∙ ap (λ j. get_or (drop j (last ∷ [])) 0 0) none ∙ front
          ∙ ap (distance_of r.kind) (kept_predictor r.cols k valid value false false (pos 0) (last_value valid value k) sound.shape.cols_above (sym left) refl (λ _. sym (up ∙ off)) (λ _ e. absurd (cc)))
    ]

-- and in the first row the last value
pub first_predictor : (r : Pixels) (d k : ℕ) → IsRaster r → has_left r.cols (is_valid r) k ≡ false → k < r.cols → last_value (is_valid r) (value_in r d) k ≡ predictor r.cols (is_valid r) (value_in r d) k
first_predictor r d k sound left lt =
    kept_predictor r.cols k (is_valid r) (value_in r d) false false (pos 0) (last_value (is_valid r) (value_in r d) k) sound.shape.cols_above (sym left) refl
    (λ _. sym (ap (λ b. b && is_valid r (k - r.cols)) (nat_le_false r.cols k lt))) (λ _ e. absurd (cc))

-- ---- a pixel's symbol

pub own_last : (r : Pixels) (d place n i : ℕ) (distances : List ℕ) → HasLast r d place n distances → i < n → mark_of r place i ≡ true → get_or distances (rank (mark_of r place) i + 1) 0 ≡ distance_of r.kind (value_in r d (place + i))
own_last r d place n i distances has lt on = ap (λ k. get_or distances k 0) (sym (rank_on (mark_of r place) i on)) ∙ has.each (i + 1) (omega (arith, lt)) ∙ ap (distance_of r.kind) (last_on r d place i on)

pub start_symbol : (r : Pixels) (d place n i b s p : ℕ) (distances : List ℕ) → IsRaster r → IsByteType r.kind → HasLast r d place n distances → i < n → mark_of r place i ≡ true → b ≡ bias r.kind
    → p ≡ distance_of r.kind (predictor r.cols (is_valid r) (value_in r d) (place + i)) → s ≡ between b (get_or distances (rank (mark_of r place) i + 1) 0) p → s ≡ delta r.kind r.cols (is_valid r) (value_in r d) (place + i)
start_symbol r d place n i b s p distances sound byte has lt on eb ep es =
    es ∙ (λ t. between (eb t) (own_last r d place n i distances has lt on t) (ep t))
    ∙ between_symbol r.kind (value_in r d (place + i)) (predictor r.cols (is_valid r) (value_in r d) (place + i)) byte (value_in_range r d (place + i) sound) (predictor_in_range r d (place + i) sound)

-- the values in order, each less the one before it: right where the left one is valid
pub in_order : (r : Pixels) (d place n b word count : ℕ) (distances out : List ℕ) → IsRaster r → IsByteType r.kind → HasLast r d place n distances → b ≡ bias r.kind → count ≡ rank (mark_of r place) n
    → ((i : ℕ) → i < n → mark_of r place i ≡ true → word_bit n word i ≡ false → has_left r.cols (is_valid r) (place + i) ≡ true)
    → ((j : ℕ) → j < count → get_or out j 0 ≡ between b (get_or distances (j + 1) 0) (get_or distances j 0)) → HasSymbols r d place n word out
in_order r d place n b word count distances out sound byte has eb ec lefts each = record {
  each = λ i lt on off.
      let below = rank_below (mark_of r place) i n lt on in
      let k = place + i in
      start_symbol r d place n i b (get_or out (rank (mark_of r place) i) 0) (get_or distances (rank (mark_of r place) i) 0) distances sound byte has lt on eb
      (has.each i (omega (arith, lt)) ∙ ap (distance_of r.kind) (sym (left_predictor r d k sound (lefts i lt on off))))
      (each (rank (mark_of r place) i) (omega (arith, below, ec)));
}

-- ---- one start less

pub starts_less : (r : Pixels) (place n word b : ℕ) → n ≤ 32 → b < n → bit_at word b ≡ 1 → AreStarts r place n word → AreStarts r place n (without word b)
starts_less r place n word b few lt one are = record {
  below = let less = fewer_bits word b (omega (arith, lt, few)) one in let small = are.below in omega (arith, less, small);
  each = λ i low on. elim (cases_eq i (n - 1 - b)) [
    | inl is ↦ absurd (let off = ap (word_bit n (without word b)) is ∙ bit_gone word n b few lt in let e : true ≡ false = sym on ∙ off in cc)
    | inr ne ↦ are.each i low (sym (bit_stays word n b i few lt low ne) ∙ on)
  ];
}

pub symbols_set : (r : Pixels) (d place n word b : ℕ) (old new : List ℕ) → n ≤ 32 → b < n → mark_of r place (n - 1 - b) ≡ true → HasSymbols r d place n word old
    → get_or new (rank (mark_of r place) (n - 1 - b)) 0 ≡ delta r.kind r.cols (is_valid r) (value_in r d) (place + (n - 1 - b))
    → ((j : ℕ) → j ≢ rank (mark_of r place) (n - 1 - b) → get_or new j 0 ≡ get_or old j 0) → HasSymbols r d place n (without word b) new
symbols_set r d place n word b old new few lt marked has here others = record {
  each = λ i low on off. elim (cases_eq i (n - 1 - b)) [
    | inl is ↦ ap (λ k. get_or new (rank (mark_of r place) k) 0) is ∙ here ∙ ap (λ k. delta r.kind r.cols (is_valid r) (value_in r d) (place + k)) (sym is)
    | inr ne ↦ others (rank (mark_of r place) i) (rank_apart (mark_of r place) i (n - 1 - b) ne on marked) ∙ has.each i low on (sym (bit_stays word n b i few lt low ne) ∙ off)
  ];
}
  where
    rank_apart : (mark : ℕ → Bool) (i j : ℕ) → i ≢ j → mark i ≡ true → mark j ≡ true → rank mark i ≢ rank mark j
    rank_apart mark i j ne on_i on_j same = elim (cases_lt i j) [
      | inl lt ↦ let below = rank_below mark i j lt on_i in omega (arith, below, same)
      | inr ge ↦ let below = rank_below mark j i (omega (arith, ge, ne)) on_j in omega (arith, below, same)
    ]

-- ---- a piece

pub marks_left : (r : Pixels) (place n word i : ℕ) (left : Bool) → IsRaster r → place % r.cols + n ≤ r.cols → left ≡ has_left r.cols (is_valid r) place → AreMarks (marks_of r) place n word → i < n
    → left_of left (word_bit n word) i ≡ has_left r.cols (is_valid r) (place + i)
marks_left r place n word i left sound across is are lt = same i lt ∙ sym (piece_left piece i lt)
  where
    piece : InPiece r.cols place n (is_valid r) (value_in r 0) left (last_value (is_valid r) (value_in r 0) place) (mark_of r place) (λ j. has_upper r.cols (is_valid r) (place + j)) (λ j. value_in r 0 (place + j - r.cols)) (λ j. value_in r 0 (place + j))
    piece = record {
      some = sound.shape.cols_above;
      within = across;
      left_is = is;
      before_is = refl;
      marks = λ j low. refl;
      ups = λ j low. refl;
      aboves = λ j low on. refl;
      nows = λ j low on. refl;
    }

    same : (i : ℕ) → i < n → left_of left (word_bit n word) i ≡ left_of left (mark_of r place) i
    same zero low = refl
    same (suc i) low = word_marks r place n word are i (omega (arith, low))

pub starts_are : (r : Pixels) (place n word found : ℕ) (left : Bool) → IsRaster r → place % r.cols + n ≤ r.cols → left ≡ has_left r.cols (is_valid r) place → AreMarks (marks_of r) place n word → found < 2 ^ n
    → ((q : ℕ) → q < n → word_bit n found q ≡ true → (word_bit n word q ≡ true) × (left_of left (word_bit n word) q ≡ false)) → AreStarts r place n found
starts_are r place n word found left sound across is are small on = record {
  below = small;
  each = λ i lt set_.
      let h = on i lt set_ in (sym (word_marks r place n word are i lt) ∙ h.0, sym (marks_left r place n word i left sound across is are lt) ∙ h.1);
}

pub piece_symbols : (r : Pixels) (d place n m : ℕ) (out : List ℕ) → m ≡ rank (mark_of r place) n → m ≤ length out → HasSymbols r d place n 0 out → deltas_before r d (place + n) ≡ deltas_before r d place ++ take m out
piece_symbols r d place n m out em room has =
    let split = rank_split (is_valid r) place n in
    let all : rank (is_valid r) (place + n) - rank (is_valid r) place ≡ m = omega (arith, split, em) in
    piece_first r.kind r.cols (is_valid r) (value_in r d) out place n n (omega arith) (omega (arith, split, em, room))
    (λ k from lt on.
    let i = k - place in
    let is : place + i ≡ k = omega (arith, from) in
    let at : rank (mark_of r place) i ≡ rank (is_valid r) k - rank (is_valid r) place = (let before = rank_split (is_valid r) place i in let same = ap (rank (is_valid r)) is in omega (arith, before, same)) in
    sym (ap (λ j. get_or out j 0) (sym at) ∙ has.each i (omega (arith, from, lt)) (ap (is_valid r) is ∙ on) (clear_bit (bit_at 0 (n - 1 - i)) (bit_at-zero (n - 1 - i))) ∙ ap (delta r.kind r.cols (is_valid r) (value_in r d)) is))
    ∙ ap (λ j. deltas_before r d place ++ take j out) all

pub last_mark : (r : Pixels) (place n word : ℕ) → 0 < n → AreMarks (marks_of r) place n word → nat_eq (word % 2) 1 ≡ is_valid r (place + n - 1)
last_mark r place n word some are =
    ap (λ x. nat_eq x 1) (sym (ap (bit_at word) (let e : n - 1 - (n - 1) ≡ 0 = omega arith in e) ∙ bit_at_lowest word)) ∙ word_marks r place n word are (n - 1) (omega (arith, some))
    ∙ ap (is_valid r) (let e : place + (n - 1) ≡ place + n - 1 = omega (arith, some) in e)
