-- The fields of a line, and the slot that it names.
use Rattle.std.proofs.Common.{◌≡◌, inl, inr, ℕ, zero, suc, ◌+◌, ◌-◌, ◌<◌, ◌↔◌, List, [], ◌∷◌, ◌++◌, length, get_or, take, drop, Option, Some, None, refl, sym, ap, subst, ◌∙◌, arith, length-append}
use Rattle.std.proofs.Math.Seq.{drop-cons, take-suc}
use Rattle.std.proofs.lemmas.Bool.{cases_lt}
use Rattle.std.proofs.lemmas.List.{drop_all, drop_at, get_or-append-add, get_or_append_left, length-drop, take-append-drop, take_all, take_at}
use Rattle.std.proofs.lemmas.List.Elements.{All-get_or, Contains-append_cases}
use Rattle.std.specs.List.{Contains}
use Rattle.outside_io.specs.program.Word.{IsDigit, IsNumber}
use Rattle.command_words.specs.Words.{AreSlotWords}
use Rattle.tiles_cli.specs.SlotList.{IsGap, IsOneLine, IsPassedOver, NamesSlot}
use Rattle.tiles_cli.specs.inside.Fields.{IsFieldLength, IsLineLength, SlotIn}

-- ---- bytes without a gap

abbrev NoGaps : List ℕ → Type 0
NoGaps bytes = (i : ℕ) → i < length bytes → ¬ IsGap (get_or bytes i 0)

digit_no_gap : (byte : ℕ) → IsDigit byte → ¬ IsGap byte
digit_no_gap byte digit (inl blank) = omega (arith, digit.0, blank)
digit_no_gap byte digit (inr tab) = omega (arith, digit.0, tab)

number_no_gaps : (word : List ℕ) (n : ℕ) → IsNumber word n → NoGaps word
number_no_gaps word n is i less = digit_no_gap (get_or word i 0) (All-get_or IsDigit word i 0 less is.digits)

-- the first gap stands behind bytes without one
field_is : (text a tail : List ℕ) (n : ℕ) → IsFieldLength text n → text ≡ a ++ tail → NoGaps a → IsPassedOver tail → n ≡ length a
field_is text a tail n is joined none passed =
    let size : length text ≡ length a + length tail = ap length joined ∙ length-append a tail in
    elim (cases_lt n (length a)) [
      | inl less ↦ absurd (none n less (subst IsGap (ap (λ (l : List ℕ). get_or l n 0) joined ∙ get_or_append_left a tail 0 n less) (is.gap (omega (arith, less, size)))))
      | inr more ↦ elim passed [
        | inl empty ↦ (let none_left : length tail ≡ 0 = ap length empty in omega (arith, more, size, none_left, is.within))
        | inr gapped ↦ elim (cases_lt (length a) n) [
          | inl past ↦ absurd (is.before (length a) past (subst IsGap (sym (at gapped)) gapped.1.1.1))
          | inr not ↦ omega (arith, more, not)
        ]
      ]
    ]
  where
    at : (gapped : (gap : ℕ) × ((more : List ℕ) × ((tail ≡ gap ∷ more) × IsGap gap))) → get_or text (length a) 0 ≡ gapped.0
    at gapped =
        ap (λ (l : List ℕ). get_or l (length a) 0) joined ∙ ap (λ (k : ℕ). get_or (a ++ tail) k 0) (let e : length a ≡ length a + 0 = omega arith in e)
        ∙ get_or-append-add a tail 0 0 ∙ ap (λ (l : List ℕ). get_or l 0 0) gapped.1.1.0

-- ---- looking for a gap

pub field_start : (text : List ℕ) → (i : ℕ) → i < 0 → ¬ IsGap (get_or text i 0)
field_start text i less = absurd (let no : ⊥ = omega (arith, less) in no)

pub field_more : (text : List ℕ) (at : ℕ) → ((i : ℕ) → i < at → ¬ IsGap (get_or text i 0)) → ¬ IsGap (get_or text at 0) → (i : ℕ) → i < at + 1 → ¬ IsGap (get_or text i 0)
field_more text at before not i less = elim (cases_lt i at) [
  | inl low ↦ before i low
  | inr here ↦ subst (λ (k : ℕ). ¬ IsGap (get_or text k 0)) (let e : at ≡ i = omega (arith, less, here) in e) not
]

-- ---- looking for a line feed

pub line_start : (text : List ℕ) → IsOneLine (take 0 text)
line_start text has = omega (arith, has.1)

one_is : (x k : ℕ) → k < 1 → get_or (x ∷ []) k 10 ≡ 10 → x ≡ 10
one_is x zero less is = is
one_is x (suc k) less is = absurd (let no : ⊥ = omega (arith, less) in no)

pub line_more : (text : List ℕ) (at : ℕ) → at < length text → IsOneLine (take at text) → (get_or text at 0 ≡ 10 → ⊥) → IsOneLine (take (at + 1) text)
line_more text at less one other has = elim (Contains-append_cases (take at text) (get_or text at 0 ∷ []) 10 (subst (λ (l : List ℕ). Contains l 10) (ap (λ (k : ℕ). take k text) (let e : at + 1 ≡ suc at = omega arith in e) ∙ take-suc text at 0 less) has)) [
  | inl before ↦ one before
  | inr here ↦ other (one_is (get_or text at 0) here.0 here.1 here.2)
]

pub line_at : (text : List ℕ) (at : ℕ) → at < length text → IsOneLine (take at text) → get_or text at 0 ≡ 10 → IsLineLength text (Some at)
line_at text at less one is = (
  less,
  record {
    joined = sym (take-append-drop at text) ∙ ap (λ (l : List ℕ). take at text ++ l) (drop-cons text at 0 less ∙ ap (λ (b : ℕ). b ∷ drop (suc at) text) is);
    one = one;
  },
)

-- what stands behind a place
pub rest_is : (at : ℕ) (text : List ℕ) → take (length text - at) (drop at text) ≡ drop at text
rest_is at text = take_all (length text - at) (drop at text) (omega (arith, length-drop at text))

-- ---- the slot

pub named_in : (line other : List ℕ) (found : Option ℕ) (slot : ℕ) → line ≡ other → found ≡ Some slot → SlotIn line found → NamesSlot other slot
named_in line other found slot same is has = subst (λ (l : List ℕ). NamesSlot l slot) same (let some : SlotIn line (Some slot) = subst (λ (o : Option ℕ). SlotIn line o) is has in some)

-- a line without a gap names none
pub all_one_field : (line : List ℕ) (n : ℕ) → IsFieldLength line n → n ≡ length line → SlotIn line None
all_one_field line n is all slot names =
    let tail : List ℕ = names.gap ∷ (names.col ++ names.rest) in
    let long : n ≡ length names.row = field_is line names.row tail n is names.joined (number_no_gaps names.row _ names.words.0.0) (inr (names.gap, (names.col ++ names.rest, (refl, names.gap_is)))) in
    let size : length line ≡ length names.row + length tail = ap length names.joined ∙ length-append names.row tail in
    let some : length tail ≡ suc (length (names.col ++ names.rest)) = refl in
    omega (arith, long, size, some, all)

module _ (line : List ℕ) (n m : ℕ) (first : IsFieldLength line n) (less : n < length line) (second : IsFieldLength (drop (n + 1) line) m) where
  behind : List ℕ
  behind = drop (n + 1) line

  split : line ≡ take n line ++ (get_or line n 0 ∷ drop (n + 1) line)
  split = sym (take-append-drop n line) ∙ ap (λ (l : List ℕ). take n line ++ l) (drop-cons line n 0 less ∙ ap (λ (k : ℕ). get_or line n 0 ∷ drop k line) (let e : suc n ≡ n + 1 = omega arith in e))

  passed : IsPassedOver (drop m (drop (n + 1) line))
  passed = elim (cases_lt m (length (drop (n + 1) line))) [
    | inl more ↦ inr (get_or (drop (n + 1) line) m 0, (drop (suc m) (drop (n + 1) line), (drop-cons (drop (n + 1) line) m 0 more, second.gap more)))
    | inr all ↦ inl (drop_all m (drop (n + 1) line) all)
  ]

  -- the words of the two fields are those of the slot
  fields_are : (slot : ℕ) → NamesSlot line slot → AreSlotWords (take n line) (take m (drop (n + 1) line)) slot
  fields_are slot names =
      let tail : List ℕ = names.gap ∷ (names.col ++ names.rest) in
      let long : n ≡ length names.row = field_is line names.row tail n first names.joined (number_no_gaps names.row _ names.words.0.0) (inr (names.gap, (names.col ++ names.rest, (refl, names.gap_is)))) in
      let row : take n line ≡ names.row = ap (take n) names.joined ∙ take_at names.row tail n (sym long) in
      let rest : drop (n + 1) line ≡ names.col ++ names.rest =
      ap (drop (n + 1)) (names.joined ∙ sym (one_more names.row names.gap (names.col ++ names.rest)))
      ∙ drop_at (names.row ++ names.gap ∷ []) (names.col ++ names.rest) (n + 1) (length-append names.row (names.gap ∷ []) ∙ omega (arith, long)) in
      let width : m ≡ length names.col = field_is (drop (n + 1) line) names.col names.rest m second rest (number_no_gaps names.col _ names.words.1.0) names.rest_is in
      let col : take m (drop (n + 1) line) ≡ names.col = ap (take m) rest ∙ take_at names.col names.rest m (sym width) in
      subst (λ (r : List ℕ). AreSlotWords r (take m (drop (n + 1) line)) slot) (sym row) (subst (λ (c : List ℕ). AreSlotWords names.row c slot) (sym col) names.words)
    where
      one_more : (xs : List ℕ) (x : ℕ) (ys : List ℕ) → (xs ++ x ∷ []) ++ ys ≡ xs ++ (x ∷ ys)
      one_more [] x ys = refl
      one_more (z ∷ zs) x ys = ap (λ (l : List ℕ). z ∷ l) (one_more zs x ys)

  pub two_fields : (found : Option ℕ) → ((slot : ℕ) → (found ≡ Some slot) ↔ AreSlotWords (take n line) (take m (drop (n + 1) line)) slot) → SlotIn line found
  two_fields None tells = λ slot names. absurd (let is : ◌≡◌ {A = Option ℕ} None (Some slot) = (tells slot).1 (fields_are slot names) in cc)
  two_fields (Some slot) tells = record {
    row = take n line;
    col = take m (drop (n + 1) line);
    gap = get_or line n 0;
    rest = drop m (drop (n + 1) line);
    joined = split ∙ ap (λ (l : List ℕ). take n line ++ (get_or line n 0 ∷ l)) (sym (take-append-drop m (drop (n + 1) line)));
    words = (tells slot).0 refl;
    gap_is = first.gap less;
    rest_is = passed;
  }
