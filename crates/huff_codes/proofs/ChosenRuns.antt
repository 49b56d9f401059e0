-- The shortest range of symbols that holds all which have a length, and the table that is written of it.
use Rattle.std.proofs.Common.{◌≡◌, ℕ, ◌+◌, ◌-◌, ◌%◌, ◌<◌, ◌≤◌, List, slice_index, sym, ap, ◌∙◌, subst, inl, inr, arith}
use Rattle.std.proofs.lemmas.Bool.{cases_lt}
use Rattle.huff_codes.specs.Codes.{AreLengths}
use Rattle.huff_codes.specs.declared.tables.table.SymbolRange.{SymbolRange}
use Rattle.huff_codes.specs.Written.{HoldsUsed, IsShortestRun}
use Rattle.huff_codes.specs.inside.Cutting.{place_in}
use Rattle.huff_codes.specs.inside.Gaps.{IsGapBefore}
use Rattle.huff_codes.proofs.Cutting.{symbol_place}
use Rattle.huff_codes.proofs.Made.{some_length}

-- ---- from one symbol on

place_below : (first s : ℕ) → place_in first s < 256
place_below first s = omega arith

pub holds_from : (lengths : List ℕ) (first gap : ℕ) → first < 256 → gap ≤ 255 → ((g : ℕ) → g < gap → slice_index lengths ((first + 255 - g) % 256) ≡ 0) → HoldsUsed lengths first (256 - gap)
holds_from lengths first gap f le none_ s lt used =
    let p = place_in first s in
    let p_lt = place_below first s in
    let is = symbol_place first s f lt in
    elim (cases_lt p (256 - gap)) [
      | inl within ↦ (p, (within, is))
      | inr past ↦
          let g = 255 - p in
          let same : first + 255 - g ≡ first + p = omega (arith, p_lt) in
          let zero_ : slice_index lengths s ≡ 0 = ap (slice_index lengths) (sym is ∙ ap (λ n. n % 256) (sym same)) ∙ none_ g (omega (arith, past, p_lt, le)) in
          absurd (omega (arith, zero_, used))
    ]

same_place : (first k gap : ℕ) → k < 256 → gap ≤ 255 → (first + k) % 256 ≡ (first + 255 - gap) % 256 → k ≡ 255 - gap
same_place first k gap lt le e = omega (arith, e, lt, le)

pub least_from : (lengths : List ℕ) (first gap count : ℕ) → gap ≤ 255 → 0 < slice_index lengths ((first + 255 - gap) % 256) → HoldsUsed lengths first count → 256 - gap ≤ count
least_from lengths first gap count le used holds = elim (cases_lt count 256) [
  | inl less ↦
      let at = holds ((first + 255 - gap) % 256) (omega arith) used in
      let k_lt = at.1.0 in
      let same = same_place first at.0 gap (omega (arith, k_lt, less)) le at.1.1 in
      omega (arith, same, k_lt)
  | inr more ↦ omega (arith, more)
]

-- ---- the gap before a symbol

before_first : (g : ℕ) → g ≤ 255 → (0 + 255 - g) % 256 ≡ 255 - g
before_first g le = omega (arith, le)

pub gap_found : (lengths : List ℕ) (gap : ℕ) → gap ≤ 255 → ((g : ℕ) → g < gap → slice_index lengths (255 - g) ≡ 0) → 0 < slice_index lengths (255 - gap) → IsGapBefore lengths 0 gap
gap_found lengths gap le none_ used = record {
  unused = λ g lt. ap (slice_index lengths) (before_first g (omega (arith, lt, le))) ∙ none_ g lt;
  used = subst (λ (n : ℕ). 0 < n) (sym (ap (slice_index lengths) (before_first gap le))) used;
}

-- where no later symbol has a length, the first one has
first_used : (lengths : List ℕ) → ((g : ℕ) → g < 255 → slice_index lengths (255 - g) ≡ 0) → (s : ℕ) → s < 256 → 0 < slice_index lengths s → 0 < slice_index lengths 0
first_used lengths none_ s lt used = elim (cases_lt 0 s) [
  | inl later ↦
      let e : 255 - (255 - s) ≡ s = omega (arith, lt) in
      let zero_ : slice_index lengths s ≡ 0 = ap (slice_index lengths) (sym e) ∙ none_ (255 - s) (omega (arith, later)) in
      absurd (omega (arith, zero_, used))
  | inr none ↦ (let e : s ≡ 0 = omega (arith, none) in subst (λ (k : ℕ). 0 < slice_index lengths k) e used)
]

pub gap_whole : (lengths : List ℕ) → AreLengths lengths → ((g : ℕ) → g < 255 → slice_index lengths (255 - g) ≡ 0) → IsGapBefore lengths 0 255
gap_whole lengths h none_ =
    let used = some_length lengths h in
    let e : 0 ≡ 255 - 255 = omega arith in
    gap_found lengths 255 (omega arith) none_ (subst (λ (k : ℕ). 0 < slice_index lengths k) e (first_used lengths none_ used.0 used.1.0 used.1.1))

-- behind a symbol that has a length
pub gap_closed : (lengths : List ℕ) (s : ℕ) → s < 256 → 0 < slice_index lengths s → IsGapBefore lengths (s + 1) 0
gap_closed lengths s lt used =
    let e : s ≡ (s + 1 + 255 - 0) % 256 = omega (arith, lt) in record {
      unused = λ g below. absurd (omega (arith, below));
      used = subst (λ (k : ℕ). 0 < slice_index lengths k) e used;
    }

-- before a symbol that has none, the gap does not go all the way round
pub gap_short : (lengths : List ℕ) (s gap : ℕ) → s < 256 → gap ≤ 255 → IsGapBefore lengths s gap → slice_index lengths s ≡ 0 → gap < 255
gap_short lengths s gap lt le h none = elim (cases_lt gap 255) [
  | inl less ↦ less
  | inr full ↦
      let e : (s + 255 - gap) % 256 ≡ s = omega (arith, lt, full, le) in
      let used = h.used in
      let zero_ : slice_index lengths ((s + 255 - gap) % 256) ≡ 0 = ap (slice_index lengths) e ∙ none in
      absurd (omega (arith, zero_, used))
]

pub gap_grown : (lengths : List ℕ) (s gap : ℕ) → s < 256 → gap ≤ 255 → IsGapBefore lengths s gap → slice_index lengths s ≡ 0 → IsGapBefore lengths (s + 1) (gap + 1)
gap_grown lengths s gap lt le h none = record {
  unused = λ g below. elim (cases_lt 0 g) [
    | inl later ↦
        let back : s + 1 + 255 - g ≡ s + 255 - (g - 1) = omega (arith, later, below, le) in
        ap (λ (n : ℕ). slice_index lengths (n % 256)) back ∙ h.unused (g - 1) (omega (arith, below, later))
    | inr first ↦
        let here : (s + 1 + 255 - g) % 256 ≡ s = omega (arith, first, lt) in
        ap (slice_index lengths) here ∙ none
  ];
  used =
      let short = gap_short lengths s gap lt le h none in
      let back : s + 255 - gap ≡ s + 1 + 255 - (gap + 1) = omega (arith, short) in
      subst (λ (n : ℕ). 0 < slice_index lengths (n % 256)) back h.used;
}

-- what is left without the gap is the shortest range that begins at the symbol
pub gap_holds : (lengths : List ℕ) (s gap : ℕ) → s < 256 → gap ≤ 255 → IsGapBefore lengths s gap → HoldsUsed lengths s (256 - gap)
gap_holds lengths s gap lt le h = holds_from lengths s gap lt le h.unused

pub gap_least : (lengths : List ℕ) (s gap : ℕ) → gap ≤ 255 → IsGapBefore lengths s gap → (count : ℕ) → HoldsUsed lengths s count → 256 - gap ≤ count
gap_least lengths s gap le h count holds = least_from lengths s gap count le h.used holds

-- ---- the run is one

pub one_run : (lengths : List ℕ) (a b : SymbolRange) → IsShortestRun lengths a → IsShortestRun lengths b → a ≡ b
one_run lengths a b ha hb =
    let x = ha.shortest b.first b.count hb.first_below hb.holds in
    let y = hb.shortest a.first a.count ha.first_below ha.holds in
    let count : a.count ≡ b.count = omega (arith, x, y) in
    let v = ha.least b.first hb.first_below (subst (HoldsUsed lengths b.first) (sym count) hb.holds) in
    let w = hb.least a.first ha.first_below (subst (HoldsUsed lengths a.first) count ha.holds) in
    let first : a.first ≡ b.first = omega (arith, v, w) in
    λ i. record { first = first i; count = count i }

-- ---- the search

-- the best range that begins below n
pub record IsBestBelow (lengths : List ℕ) (best : SymbolRange) (n : ℕ) : Type 0 where
  pub below : best.first < n
  pub some : 0 < best.count
  pub within : best.count ≤ 256
  pub holds : HoldsUsed lengths best.first best.count
  pub shortest : (f count : ℕ) → f < n → HoldsUsed lengths f count → best.count ≤ count
  pub least : (f : ℕ) → f < n → HoldsUsed lengths f best.count → best.first ≤ f

pub best_first : (lengths : List ℕ) (count : ℕ) → 0 < count → count ≤ 256 → HoldsUsed lengths 0 count → ((k : ℕ) → HoldsUsed lengths 0 k → count ≤ k)
    → IsBestBelow lengths (record { first = 0; count = count }) 1
best_first lengths count some within holds least = record {
  below = omega arith;
  some = some;
  within = within;
  holds = holds;
  shortest = λ f k lt h. least k (subst (λ (g : ℕ). HoldsUsed lengths g k) (zero_is f lt) h);
  least = λ f lt h. omega arith;
}
  where
    zero_is : (f : ℕ) → f < 1 → f ≡ 0
    zero_is f lt = omega (arith, lt)

-- the range that begins at the first symbol
pub best_begun : (lengths : List ℕ) (gap : ℕ) → gap ≤ 255 → IsGapBefore lengths 0 gap → IsBestBelow lengths (record { first = 0; count = 256 - gap }) 1
best_begun lengths gap le h =
    best_first lengths (256 - gap) (omega (arith, le)) (omega arith) (gap_holds lengths 0 gap (omega arith) le h) (gap_least lengths 0 gap le h)

pub best_new : (lengths : List ℕ) (best : SymbolRange) (n count : ℕ) → IsBestBelow lengths best n → count < best.count → 0 < count → HoldsUsed lengths n count → ((k : ℕ) → HoldsUsed lengths n k → count ≤ k)
    → IsBestBelow lengths (record { first = n; count = count }) (n + 1)
best_new lengths best n count h less some holds least = record {
  below = omega arith;
  some = some;
  within = (let w = h.within in omega (arith, w, less));
  holds = holds;
  shortest = λ f k lt hf. elim (cases_lt f n) [
    | inl before ↦ (let le = h.shortest f k before hf in omega (arith, le, less))
    | inr at ↦ least k (subst (λ (g : ℕ). HoldsUsed lengths g k) (same f lt at) hf)
  ];
  least = λ f lt hf. elim (cases_lt f n) [
    | inl before ↦ absurd (let le = h.shortest f count before hf in omega (arith, le, less))
    | inr at ↦ at
  ];
}
  where
    same : (f : ℕ) → f < n + 1 → n ≤ f → f ≡ n
    same f lt at = omega (arith, lt, at)

pub best_kept : (lengths : List ℕ) (best : SymbolRange) (n count : ℕ) → IsBestBelow lengths best n → best.count ≤ count → ((k : ℕ) → HoldsUsed lengths n k → count ≤ k) → IsBestBelow lengths best (n + 1)
best_kept lengths best n count h more least = record {
  below = (let lt = h.below in omega (arith, lt));
  some = h.some;
  within = h.within;
  holds = h.holds;
  shortest = λ f k lt hf. elim (cases_lt f n) [
    | inl before ↦ h.shortest f k before hf
    | inr at ↦ (let le = least k (subst (λ (g : ℕ). HoldsUsed lengths g k) (same f lt at) hf) in omega (arith, le, more))
  ];
  least = λ f lt hf. elim (cases_lt f n) [
    | inl before ↦ h.least f before hf
    | inr at ↦ (let b = h.below in omega (arith, b, at))
  ];
}
  where
    same : (f : ℕ) → f < n + 1 → n ≤ f → f ≡ n
    same f lt at = omega (arith, lt, at)

pub best_run : (lengths : List ℕ) (best : SymbolRange) (n : ℕ) → n ≡ 256 → IsBestBelow lengths best n → IsShortestRun lengths best
best_run lengths best n e h = record {
  first_below = (let lt = h.below in omega (arith, lt, e));
  holds = h.holds;
  shortest = λ f k lt hf. h.shortest f k (omega (arith, lt, e)) hf;
  least = λ f lt hf. h.least f (omega (arith, lt, e)) hf;
}
